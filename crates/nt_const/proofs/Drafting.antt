-- The draft of each node, from those of its operands.
use Rattle.std.proofs.Common.{◌≡◌, ◌⊎◌, ℕ, ◌+◌, ◌*◌, ◌<◌, ◌≤◌, ◌||◌, min, Bool, true, false, List, [], ◌∷◌, length, drop, get_or, Option, Some, None, Result, Ok, Err, IfOk, refl, sym, ap, ◌∙◌, subst, arith, inl, inr}
use Rattle.std.proofs.lemmas.List.{drop_more, drop_all}
use Rattle.nt_value.specs.Digits.{LeafValue}
use Rattle.nt_value.specs.Operators.{unsigned_leaf, resize_of}
use Rattle.nt_value.specs.declared.leaf.Leaf.{Leaf}
use Rattle.nt_value.specs.declared.place.Place.{Place}
use Rattle.nt_value.specs.declared.literal.Literal.{Literal}
use Rattle.nt_value.specs.declared.operator.Unary.{Unary}
use Rattle.nt_value.specs.declared.operator.Binary.{Binary}
use Rattle.nt_diag.specs.declared.refusal.Fault.{Fault as Failure}
use Rattle.nt_diag.specs.declared.refusal.Fault.TheVariants as fault
use Rattle.nt_diag.specs.declared.refusal.Refusal.{Refusal}
use Rattle.nt_ast.specs.declared.path.Path.{Path}
use Rattle.nt_ast.specs.declared.expr.Expr.{Expr}
use Rattle.nt_ast.specs.declared.expr.Expr.TheOpen.{Expr-F}
use Rattle.nt_ast.specs.declared.expr.Expr.TheViews.{out-Expr}
use Rattle.nt_const.specs.declared.draft.Draft.{Draft}
use Rattle.nt_const.specs.declared.walk.Several.{Several}
use Rattle.nt_const.specs.declared.seen.Seen.TheVariants as seen
use Rattle.nt_const.specs.Tables.{with_sign, bit, binary_leaf, choice_leaf, unary_leaf, Counts, IsKnown, IsWidth, count_of, width_of, indexed_of, joint, joint_from}
use Rattle.nt_const.specs.Drafts.{OfLiteral, OfClosed, OfUnary, OfBinary, OfChoose, draft_leaf, draft_value, own_value, IsMemory}
use Rattle.nt_ast.specs.Places.{Node}
use Rattle.nt_const.specs.Rules.{Names, Alone, literal, read, item, part, indexed, unary, binary, choose, concat, repeated, sign, Parts, none, more, Within, literal_within, read_within, item_within, part_within, indexed_within, unary_within, binary_within, choose_within, concat_within, repeated_within, sign_within, Own, itself, Owns, no_values, more_values, bad_width, bad_product, bad_range, bad_indexed, Need, free, count}
use Rattle.nt_const.specs.Tells.{Refuses, RefusesOne}
use Rattle.nt_const.specs.Walks.{Drafted, Drafts, Counted, Measured, Unfit, faulty, unfit, Misses, Summed, Severals, grown, PartGives, IndexedGives, Concats, RepeatGives, IsProduct}
use Rattle.nt_const.proofs.Faults.{Fit, fit, fit_own, refuse_here, refuse_bad, refuse_there, refuse_wrong}
use Rattle.nt_const.proofs.Closing.{leaf_literal, value_literal, leaf_closed, value_closed, leaf_unary, value_unary, leaf_binary, value_binary, leaf_choose, value_choose}

pub drafted_at : (k : Names) (x n : Node) (a : Draft) → x ≡ n → Drafted k n a → Drafted k x a
drafted_at k x n a e h = subst (λ n. Drafted k n a) (sym e) h

pub drafted_of : (k : Names) (x y : Expr) (a : Draft) → x ≡ y → Drafted k (out-Expr x) a → Drafted k (out-Expr y) a
drafted_of k x y a e h = subst (λ x. Drafted k (out-Expr x) a) e h

pub drafts_at : (k : Names) (x n : Node) (r : Result Draft Failure) → x ≡ n → Drafts k n r → Drafts k x r
drafts_at k x n r e h = subst (λ n. Drafts k n r) (sym e) h

pub refuses_at : (k : Names) (x n : Node) (r : Refusal) → x ≡ n → Refuses k n r → Refuses k x r
refuses_at k x n r e h = subst (λ n. Refuses k n r) (sym e) h

pub refuses_of : (k : Names) (x y : Expr) (r : Refusal) → x ≡ y → Refuses k (out-Expr x) r → Refuses k (out-Expr y) r
refuses_of k x y r e h = subst (λ x. Refuses k (out-Expr x) r) e h

pub counted_of : (k : Names) (x y : Expr) (n : ℕ) → x ≡ y → Counted k (out-Expr x) n → Counted k (out-Expr y) n
counted_of k x y n e h = subst (λ x. Counted k (out-Expr x) n) e h

pub measured_of : (k : Names) (x y : Expr) (n : ℕ) → x ≡ y → Measured k (out-Expr x) n → Measured k (out-Expr y) n
measured_of k x y n e h = subst (λ x. Measured k (out-Expr x) n) e h

pub summed_of : (k : Names) (xs ys : List Expr) (s : Several) → xs ≡ ys → Summed k xs s → Summed k ys s
summed_of k xs ys s e h = subst (λ xs. Summed k xs s) e h

-- the exit of a `?`
pub drafts_err : (k : Names) (x n : Node) (r : Result Draft Failure) (f : Failure) → r ≡ Err f → x ≡ n → Drafts k n (Err f) → Drafts k x r
drafts_err k x n r f e s h = subst (λ r. Drafts k x r) (sym e) (subst (λ x. Drafts k x (Err f)) (sym s) h)

-- a refusal of an operand goes up, and want of memory too
pub lift : (k : Names) (x y : Expr) (m : Node) (f : Failure) → x ≡ y → ((r : Refusal) → RefusesOne k [] (y ∷ []) r → Refuses k m r) → Drafts k (out-Expr x) (Err f) → Drafts k m (Err f)
lift k x y m (fault.Refused r) e go h = go r (refuse_here [] y [] r (refuses_of k x y r e h))
lift k x y m (fault.OutOfMemory o) e go h = tt

pub lift_here : (k : Names) (x y : Expr) (ns : List Need) (ys : List Expr) (m : Node) (f : Failure) → x ≡ y → ((r : Refusal) → RefusesOne k ns (y ∷ ys) r → Refuses k m r)
    → Drafts k (out-Expr x) (Err f) → Drafts k m (Err f)
lift_here k x y ns ys m (fault.Refused r) e go h = go r (refuse_here ns y ys r (refuses_of k x y r e h))
lift_here k x y ns ys m (fault.OutOfMemory o) e go h = tt

refuse_unfit : (n : Need) (k : Names) (x : Expr) (ns : List Need) (xs : List Expr) (r : Refusal) → Unfit n k (out-Expr x) r → RefusesOne k (n ∷ ns) (x ∷ xs) r
refuse_unfit n k x ns xs r (faulty h) = refuse_here _ x xs r h
refuse_unfit n k x ns xs _ (unfit u m) = refuse_bad _ x xs _ u m

lift_own : (n : Need) (k : Names) (x : Expr) (ns : List Need) (xs : List Expr) (m : Node) (f : Failure) → ((r : Refusal) → RefusesOne k (n ∷ ns) (x ∷ xs) r → Refuses k m r)
    → Misses n k (out-Expr x) f → Drafts k m (Err f)
lift_own n k x ns xs m (fault.Refused r) go h = go r (refuse_unfit n k x ns xs r h)
lift_own n k x ns xs m (fault.OutOfMemory o) go h = tt

pub lift_need : (n : Need) (k : Names) (x y : Expr) (ns : List Need) (ys : List Expr) (m : Node) (f : Failure) → x ≡ y → ((r : Refusal) → RefusesOne k (n ∷ ns) (y ∷ ys) r → Refuses k m r)
    → Misses n k (out-Expr x) f → Drafts k m (Err f)
lift_need n k x y ns ys m f e go h = lift_own n k y ns ys m f go (subst (λ x. Misses n k (out-Expr x) f) e h)

lift_several : (k : Names) (xs : List Expr) (m : Node) (f : Failure) → ((r : Refusal) → RefusesOne k [] xs r → Refuses k m r) → Severals k xs (Err f) → Drafts k m (Err f)
lift_several k xs m (fault.Refused r) go h = go r h
lift_several k xs m (fault.OutOfMemory o) go h = tt

pub lift_all : (k : Names) (xs ys : List Expr) (m : Node) (f : Failure) → xs ≡ ys → ((r : Refusal) → RefusesOne k [] ys r → Refuses k m r) → Severals k xs (Err f) → Drafts k m (Err f)
lift_all k xs ys m f e go h = lift_several k ys m f go (subst (λ xs. Severals k xs (Err f)) e h)

-- what a builder gives
pub drafts_one : (k : Names) (x : Node) (P : Draft → Type 0) (r : Result Draft Failure) → IfOk r P → IsMemory r → ((a : Draft) → P a → Drafted k x a) → Drafts k x r
drafts_one k x P (Ok a) h m go = go a h
drafts_one k x P (Err (fault.Refused r)) h m go = absurd m
drafts_one k x P (Err (fault.OutOfMemory e)) h m go = tt

-- a draft by its leaf and its values
made : (k : Names) (x : Node) (a : Draft) (l : Leaf) (V : Leaf → LeafValue) → draft_leaf a ≡ l → ((c : Leaf) → draft_value a c ≡ V c) → Alone k x l → ((c : Leaf) → Within k x c (V c)) → Drafted k x a
made k x a l V e f h i = record { leaf = subst (λ l. Alone k x l) (sym e) h; value = λ c. subst (λ b. Within k x c b) (sym (f c)) (i c) }

pub made_closed : (k : Names) (x : Node) (l : Leaf) (v : LeafValue) → Alone k x l → ((c : Leaf) → Within k x c (resize_of v c)) → Drafted k x (OfClosed l v)
made_closed k x l v a w = made k x (OfClosed l v) l (λ c. resize_of v c) (leaf_closed l v) (value_closed l v) a w

pub own_of : (k : Names) (x : Node) (a : Draft) → Drafted k x a → Own k x (own_value a)
own_of k x a h = itself x h.leaf (h.value (draft_leaf a))

pub drafted_literal : (k : Names) (at : Place) (v : Literal) → Drafted k (Expr-F.Literal at v) (OfLiteral v)
drafted_literal k at v = made k _ (OfLiteral v) _ _ (leaf_literal v.bits.leaf v) (value_literal v.bits.leaf v) (literal at v) (λ c. literal_within at v)

pub drafted_read : (k : Names) (at : Place) (path : Path) (b : LeafValue) → k path ≡ seen.Value b → Drafted k (Expr-F.Read at path) (OfClosed b.leaf b)
drafted_read k at path b e = made_closed k _ b.leaf b (read at path b e) (λ c. read_within at path b e)

pub drafted_item : (k : Names) (at : Place) (x y : Expr) (a b : Draft) → Drafted k (out-Expr x) a → Drafted k (out-Expr y) b
    → Drafted k (Expr-F.Item at x y) (OfClosed (bit (draft_leaf a).four) (indexed_of true (own_value a) (own_value b) 1))
drafted_item k at x y a b h i = made_closed k _ _ _ (item at x y h.leaf i.leaf) (λ c. item_within at x y (own_of k _ a h) (own_of k _ b i))

pub drafted_sign : (k : Names) (at : Place) (s : Bool) (x : Expr) (a : Draft) → Drafted k (out-Expr x) a → Drafted k (Expr-F.Sign at s x) (OfClosed (with_sign s (draft_leaf a)) (own_value a))
drafted_sign k at s x a h = made_closed k _ _ _ (sign at s x h.leaf) (λ c. sign_within at s x (own_of k _ a h))

pub drafted_unary : (k : Names) (at : Place) (op : Unary) (x : Expr) (a b : Draft) → Drafted k (out-Expr x) a → b ≡ OfUnary (unary_leaf op (draft_leaf a)) op a → Drafted k (Expr-F.Unary at op x) b
drafted_unary k at op x a b h e =
    subst (λ b. Drafted k (Expr-F.Unary at op x) b) (sym e)
    (made k _ _ _ _ (leaf_unary (unary_leaf op (draft_leaf a)) op a) (value_unary (unary_leaf op (draft_leaf a)) op a) (unary at op x h.leaf) (λ c. unary_within at op x h.leaf (h.value _)))

pub drafted_binary : (k : Names) (at : Place) (op : Binary) (x y : Expr) (a b e : Draft) → Drafted k (out-Expr x) a → Drafted k (out-Expr y) b
    → e ≡ OfBinary (binary_leaf op (draft_leaf a) (draft_leaf b)) op a b → Drafted k (Expr-F.Binary at op x y) e
drafted_binary k at op x y a b e h i f =
    let l = binary_leaf op (draft_leaf a) (draft_leaf b) in
    subst (λ e. Drafted k (Expr-F.Binary at op x y) e) (sym f)
    (made k _ _ _ _ (leaf_binary l op a b) (value_binary l op a b) (binary at op x y h.leaf i.leaf) (λ c. binary_within at op x y h.leaf i.leaf (h.value _) (i.value _)))

pub drafted_choose : (k : Names) (at : Place) (q x y : Expr) (p a b e : Draft) → Drafted k (out-Expr q) p → Drafted k (out-Expr x) a → Drafted k (out-Expr y) b
    → e ≡ OfChoose (choice_leaf (draft_leaf p) (draft_leaf a) (draft_leaf b)) (own_value p) a b → Drafted k (Expr-F.Choose at q x y) e
drafted_choose k at q x y p a b e g h i f =
    let l = choice_leaf (draft_leaf p) (draft_leaf a) (draft_leaf b) in
    subst (λ e. Drafted k (Expr-F.Choose at q x y) e) (sym f)
    (made k _ _ _ _ (leaf_choose l (own_value p) a b) (value_choose l (own_value p) a b) (choose at q x y g.leaf h.leaf i.leaf) (λ c. choose_within at q x y (own_of k _ p g) (h.value c) (i.value c)))

-- ---- selects

part_by : (k : Names) (at : Place) (x y z : Expr) (a : Draft) (v w : LeafValue) (r : Result Draft Failure) → Drafted k (out-Expr x) a
    → Own k (out-Expr y) v → Counts v → Own k (out-Expr z) w → Counts w → PartGives at a (count_of v) (count_of w) r → Drafts k (Expr-F.Part at x y z) r
part_by k at x y z a v w (Ok b) h u g t i p =
    subst (λ b. Drafted k (Expr-F.Part at x y z) b) (sym p.1) (made_closed k _ _ _ (part at x y z h.leaf u g t i p.0) (λ c. part_within at x y z (own_of k _ a h) u t))
part_by k at x y z a v w (Err (fault.Refused r)) h u g t i p =
    subst (λ r. Refuses k (Expr-F.Part at x y z) r) (sym p.1) (refuse_wrong _ _ _ (bad_range at x y z h.leaf u g t i p.0))
part_by k at x y z a v w (Err (fault.OutOfMemory e)) h u g t i p = tt

pub drafts_part : (k : Names) (at : Place) (x y z : Expr) (a : Draft) (n m : ℕ) (r : Result Draft Failure) → Drafted k (out-Expr x) a
    → Counted k (out-Expr y) n → Counted k (out-Expr z) m → PartGives at a n m r → Drafts k (Expr-F.Part at x y z) r
drafts_part k at x y z a n m r h u w p =
    part_by k at x y z a u.value w.value r h u.own u.counts w.own w.counts
    (subst (λ m. PartGives at a (count_of u.value) m r) w.is (subst (λ n. PartGives at a n m r) u.is p))

indexed_by : (k : Names) (at : Place) (x y z : Expr) (up : Bool) (a b : Draft) (v : LeafValue) (r : Result Draft Failure) → Drafted k (out-Expr x) a → Drafted k (out-Expr y) b
    → Own k (out-Expr z) v → IsKnown v → IndexedGives at up a b (width_of v) r → Drafts k (Expr-F.Indexed at x y z up) r
indexed_by k at x y z up a b v (Ok e) h i u g p =
    subst (λ b. Drafted k (Expr-F.Indexed at x y z up) b) (sym p.1)
    (made_closed k _ _ _ (indexed at x y z up h.leaf i.leaf u g p.0) (λ c. indexed_within at x y z up (own_of k _ a h) (own_of k _ b i) u))
indexed_by k at x y z up a b v (Err (fault.Refused r)) h i u g p =
    subst (λ r. Refuses k (Expr-F.Indexed at x y z up) r) (sym p.1) (refuse_wrong _ _ _ (bad_indexed at x y z up h.leaf i.leaf u g p.0))
indexed_by k at x y z up a b v (Err (fault.OutOfMemory e)) h i u g p = tt

pub drafts_indexed : (k : Names) (at : Place) (x y z : Expr) (up : Bool) (a b : Draft) (n : ℕ) (r : Result Draft Failure) → Drafted k (out-Expr x) a → Drafted k (out-Expr y) b
    → Measured k (out-Expr z) n → IndexedGives at up a b n r → Drafts k (Expr-F.Indexed at x y z up) r
drafts_indexed k at x y z up a b n r h i u p = indexed_by k at x y z up a b u.value r h i u.own u.is_known (subst (λ n. IndexedGives at up a b n r) u.is p)

-- ---- nodes that hold several

width_capped : (n m : ℕ) → n ≡ min m 65 → IsWidth n → n ≡ m
width_capped n m e w = let lo = w.0 in let hi = w.1 in omega arith

no_width_capped : (n m : ℕ) → n ≡ min m 65 → (IsWidth n → ⊥) → IsWidth m → ⊥
no_width_capped n m e no_width w = let lo = w.0 in let hi = w.1 in let same : n ≡ m = omega arith in no_width (subst (λ n. IsWidth n) (sym same) w)

joint_some : (vs : List LeafValue) (a : LeafValue) → joint_from (Some a) vs ≡ None → ⊥
joint_some [] a e = cc
joint_some (v ∷ vs) a e = joint_some vs _ e

joint_empty : {k : Names} {xs : List Expr} {n : ℕ} {four : Bool} (vs : List LeafValue) → Parts k xs n four → Owns k xs vs → joint vs ≡ None → n ≡ 0
joint_empty [] none no_values e = refl
joint_empty [] (more x xs a p) o e = elim o [ ]
joint_empty (v ∷ vs) none o e = elim o [ ]
joint_empty (v ∷ vs) (more x xs a p) (more_values _ _ u us) e = absurd (joint_some vs v e)

no_zero : (n : ℕ) → n ≡ 0 → IsWidth n → ⊥
no_zero n e w = let lo = w.0 in omega arith

no_concat : (k : Names) (xs : List Expr) (s : Several) (h : Summed k xs s) → (s.value ≡ None) ⊎ (IsWidth s.width → ⊥) → IsWidth h.width → ⊥
no_concat k xs s h (inl e) w = no_zero h.width (joint_empty h.values h.parts h.owns (sym h.joint_is ∙ e)) w
no_concat k xs s h (inr n) w = no_width_capped s.width h.width h.capped n w

pub drafts_concat : (k : Names) (at : Place) (xs : List Expr) (s : Several) (r : Result Draft Failure) → Summed k xs s → Concats at s r → Drafts k (Expr-F.Concat at xs) r
drafts_concat k at xs s (Ok b) h g =
    let c = width_capped s.width h.width h.capped g.2 in
    subst (λ b. Drafted k (Expr-F.Concat at xs) b) (sym (g.3 ∙ ap (λ n. OfClosed (unsigned_leaf n s.four) g.0) c))
    (made_closed k _ _ _ (concat at xs h.parts (subst (λ n. IsWidth n) c g.2)) (λ d. concat_within at xs h.owns (sym h.joint_is ∙ g.1)))
drafts_concat k at xs s (Err (fault.Refused r)) h g =
    subst (λ r. Refuses k (Expr-F.Concat at xs) r) (sym g.1) (refuse_wrong _ _ _ (bad_width at xs h.parts (no_concat k xs s h g.0)))
drafts_concat k at xs s (Err (fault.OutOfMemory e)) h g = tt

no_repeat : (k : Names) (xs : List Expr) (s : Several) (times : ℕ) (h : Summed k xs s)
    → (s.value ≡ None) ⊎ ((times ≡ 0) ⊎ ((m : ℕ) × IsProduct times s.width m × (IsWidth m → ⊥))) → IsWidth (times * h.width) → ⊥
no_repeat k xs s times h (inl e) w =
    let z = joint_empty h.values h.parts h.owns (sym h.joint_is ∙ e) in let p = ap (λ n. times * n) z in no_zero (times * h.width) (omega arith) w
no_repeat k xs s times h (inr (inl z)) w = let p = ap (λ n. n * h.width) z in no_zero (times * h.width) (omega arith) w
no_repeat k xs s times h (inr (inr n)) w = no_width_capped n.0 (times * h.width) (n.1 h.width h.capped) n.2 w

repeat_by : (k : Names) (at : Place) (x : Expr) (xs : List Expr) (s : Several) (v : LeafValue) (r : Result Draft Failure) → Own k (out-Expr x) v → Counts v
    → Summed k xs s → RepeatGives at (count_of v) s r → Drafts k (Expr-F.Repeat at x xs) r
repeat_by k at x xs s v (Ok b) u i h g =
    let c = width_capped g.2 (count_of v * h.width) (g.5 h.width h.capped) g.6 in
    subst (λ b. Drafted k (Expr-F.Repeat at x xs) b) (sym (g.7 ∙ ap (λ n. OfClosed (unsigned_leaf n s.four) g.1) c))
    (made_closed k _ _ _ (repeated at x xs u i h.parts (subst (λ n. IsWidth n) c g.6)) (λ d. repeated_within at x xs u h.owns (sym h.joint_is ∙ g.3) g.4))
repeat_by k at x xs s v (Err (fault.Refused r)) u i h g =
    subst (λ r. Refuses k (Expr-F.Repeat at x xs) r) (sym g.1) (refuse_wrong _ _ _ (bad_product at x xs u i h.parts (no_repeat k xs s (count_of v) h g.0)))
repeat_by k at x xs s v (Err (fault.OutOfMemory e)) u i h g = tt

pub drafts_repeat : (k : Names) (at : Place) (x : Expr) (xs : List Expr) (s : Several) (n : ℕ) (r : Result Draft Failure) → Counted k (out-Expr x) n
    → Summed k xs s → RepeatGives at n s r → Drafts k (Expr-F.Repeat at x xs) r
drafts_repeat k at x xs s n r u h g = repeat_by k at x xs s u.value r u.own u.counts h (subst (λ n. RepeatGives at n s r) u.is g)

-- ---- the loop over several: what the rest gives, the whole gives

pub opened : (xs : List Expr) (i : ℕ) (x : Expr) → i < length xs → x ≡ get_or xs i x → drop i xs ≡ x ∷ drop (i + 1) xs
opened xs i x lt e = drop_more xs i x lt ∙ ap (λ y. y ∷ drop (i + 1) xs) (sym e)

abbrev pub onward : Several → ℕ → Bool → List LeafValue → Several
onward s n four vs = record { width = min (n + s.width) 65; four = four || s.four; value = joint_from s.value vs }

pub record Adding (k : Names) (xs : List Expr) (i : ℕ) (s : Several) : Type 0 where
  pub small : s.width ≤ 65
  pub sums : (n : ℕ) (four : Bool) (vs : List LeafValue) → Parts k (drop i xs) n four → Owns k (drop i xs) vs → Summed k xs (onward s n four vs)
  pub refuses : (r : Refusal) → RefusesOne k [] (drop i xs) r → RefusesOne k [] xs r

or_swap : (a b c : Bool) → ((a || b) || c) ≡ (b || (a || c))
or_swap true true c = refl
or_swap true false c = refl
or_swap false true c = refl
or_swap false false c = refl

or_false : (a : Bool) → (a || false) ≡ a
or_false true = refl
or_false false = refl

several_of : (n m : ℕ) (f g : Bool) (v w : Option LeafValue) → n ≡ m → f ≡ g → v ≡ w
    → (let a : Several = record { width = n; four = f; value = v } in a) ≡ record { width = m; four = g; value = w }
several_of n m f g v w e h i = cc

pub adding_more : (k : Names) (xs : List Expr) (i : ℕ) (s t : Several) (x : Expr) (a : Draft) → drop i xs ≡ x ∷ drop (i + 1) xs → Drafted k (out-Expr x) a
    → t ≡ grown s (draft_leaf a) (own_value a) → Adding k xs i s → Adding k xs (i + 1) t
adding_more k xs i s t x a e d f h =
    let l = draft_leaf a in
    let v = own_value a in
    subst (λ t. Adding k xs (i + 1) t) (sym f)
    (record {
      small = omega arith;
      sums = λ n four vs p o.
          let c : min (l.width + n + s.width) 65 ≡ min (n + min (l.width + s.width) 65) 65 = omega arith in
          subst (λ t. Summed k xs t) (several_of _ _ _ _ _ _ c (or_swap l.four four s.four) refl)
          (h.sums (l.width + n) (l.four || four) (v ∷ vs)
          (subst (λ ys. Parts k ys (l.width + n) (l.four || four)) (sym e) (more x _ d.leaf p))
          (subst (λ ys. Owns k ys (v ∷ vs)) (sym e) (more_values x _ (own_of k _ a d) o)));
      refuses = λ r g. h.refuses r (subst (λ ys. RefusesOne k [] ys r) (sym e) (refuse_there [] x _ r (fit d.leaf) g));
    })

pub adding_none : (k : Names) (xs : List Expr) → Adding k xs 0 (record { width = 0; four = false; value = None })
adding_none k xs =
    record {
      small = omega arith;
      sums = λ n four vs p o.
          record {
            width = n;
            parts = subst (λ f. Parts k xs n f) (sym (or_false four)) p;
            capped = omega arith;
            values = vs;
            owns = o;
            joint_is = refl;
          };
      refuses = λ r g. g;
    }

pub adding_done : (k : Names) (xs : List Expr) (i : ℕ) (s : Several) → length xs ≤ i → Adding k xs i s → Summed k xs s
adding_done k xs i s le h =
    let c : min (0 + s.width) 65 ≡ s.width = let sm = h.small in omega arith in
    subst (λ s. Summed k xs s) (several_of _ _ _ _ _ _ c refl refl)
    (h.sums 0 false [] (subst (λ ys. Parts k ys 0 false) (sym (drop_all i xs le)) none) (subst (λ ys. Owns k ys []) (sym (drop_all i xs le)) no_values))

pub adding_err : (k : Names) (xs : List Expr) (i : ℕ) (s : Several) (x : Expr) (f : Failure) → drop i xs ≡ x ∷ drop (i + 1) xs → Drafts k (out-Expr x) (Err f) → Adding k xs i s → Severals k xs (Err f)
adding_err k xs i s x (fault.Refused r) e h w = w.refuses r (subst (λ ys. RefusesOne k [] ys r) (sym e) (refuse_here [] x _ r h))
adding_err k xs i s x (fault.OutOfMemory o) e h w = tt

pub misses_err : (n : Need) (k : Names) (x : Node) (f : Failure) → Drafts k x (Err f) → Misses n k x f
misses_err n k x (fault.Refused r) h = faulty h
misses_err n k x (fault.OutOfMemory o) h = tt

pub fit_of : (k : Names) (x y : Expr) (a : Draft) → x ≡ y → Drafted k (out-Expr x) a → Fit k free (out-Expr y)
fit_of k x y a e h = let d = drafted_of k x y a e h in fit d.leaf

pub fit_counted : (k : Names) (x y : Expr) (n : ℕ) → x ≡ y → Counted k (out-Expr x) n → Fit k count (out-Expr y)
fit_counted k x y n e h = let c = counted_of k x y n e h in fit_own c.own c.counts
