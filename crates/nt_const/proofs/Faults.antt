-- An expression has a leaf or a fault, and the first fault that the walk meets is the least.
use Rattle.std.proofs.Common.{◌≡◌, ℕ, suc, ◌-◌, ◌*◌, ◌<◌, ◌≤◌, Bool, List, [], ◌∷◌, refl, sym, ap, ◌∙◌, subst, arith, inl, inr}
use Rattle.nt_value.specs.Digits.{LeafValue}
use Rattle.nt_value.specs.declared.leaf.Leaf.{Leaf}
use Rattle.nt_value.specs.declared.place.Place.{Place}
use Rattle.nt_diag.specs.declared.rule.Rule.{Rule}
use Rattle.nt_diag.specs.declared.rule.Rule.TheVariants as rule
use Rattle.nt_diag.specs.declared.refusal.Refusal.{Refusal}
use Rattle.nt_diag.specs.Order.{LessOr, NoLater, rule_number}
use Rattle.std.proofs.lemmas.Bool.{cases_eq}
use Rattle.nt_ast.specs.declared.expr.Expr.{Expr}
use Rattle.nt_ast.specs.declared.expr.Expr.TheOpen.{Expr-F}
use Rattle.nt_ast.specs.declared.expr.Expr.TheViews.{out-Expr}
use Rattle.nt_const.specs.declared.seen.Seen.{Seen}
use Rattle.nt_const.specs.declared.seen.Seen.TheVariants as seen
use Rattle.nt_const.specs.Tables.{IsWidth, count_of, width_of}
use Rattle.nt_ast.specs.Places.{Node, place_of, Within as In, Placed, literal_in, read_in, member_in, item_in, part_in, indexed_in, unary_in, binary_in, choose_in, concat_in, repeat_in, pattern_in, call_in, size_in, time_in, sign_in, AllPlaced, no_parts, more_parts}
use Rattle.nt_ast.proofs.InOrder.{place_in, spans, all_span}
use Rattle.nt_const.specs.Rules.{Names, Alone, literal, read, item, part, indexed, unary, binary, choose, concat, repeated, sign, Parts, none, more, Own, itself, operands, Need, free, Meets, needs, first, rest, Never, other, member, pattern, call, size, time, Wrong, not_constant, unknown_name, two_imports, bad_width, bad_product, bad_range, bad_indexed, Fault, itself_wrong, in_operand, Among, here, unmet, there, Hides, never, hides, AnyHides, hides_here, hides_there, Faulty, whole, within}
use Rattle.nt_const.specs.Tells.{refusal, Refuses, RefusesOne, RefusesWhole}
use Rattle.nt_const.proofs.Answered.{parts_one, own_one, ap2}

-- an operand without a fault, whose value is what it must be
pub data Fit : Names → Need → Node → Type 0 where
  fit : {k : Names} {l : Leaf} {x : Node} → Alone k x l → Fit k free x
  fit_own : {k : Names} {n : Need} {v : LeafValue} {x : Node} → Own k x v → Meets n v → Fit k n x

pub data Sound : Names → List Need → List Expr → Type 0 where
  no_more : {k : Names} {ns : List Need} → Sound k ns []
  sound : {k : Names} {ns : List Need} {x : Expr} {xs : List Expr} → Fit k (first ns) (out-Expr x) → Sound k (rest ns) xs → Sound k ns (x ∷ xs)

pub parts_sound : {k : Names} {xs : List Expr} {n : ℕ} {four : Bool} → Parts k xs n four → Sound k [] xs
parts_sound none = no_more
parts_sound (more x xs a p) = sound (fit a) (parts_sound p)

operands_sound : {k : Names} {x : Node} {l : Leaf} → Alone k x l → Sound k (needs x) (operands x)
operands_sound (literal at v) = no_more
operands_sound (read at path b e) = no_more
operands_sound (item at x y a b) = sound (fit a) (sound (fit b) no_more)
operands_sound (part at x y z a u g v h w) = sound (fit a) (sound (fit_own u g) (sound (fit_own v h) no_more))
operands_sound (indexed at x y z up a b u g w) = sound (fit a) (sound (fit b) (sound (fit_own u g) no_more))
operands_sound (unary at op x a) = sound (fit a) no_more
operands_sound (binary at op x y a b) = sound (fit a) (sound (fit b) no_more)
operands_sound (choose at p x y t a b) = sound (fit t) (sound (fit a) (sound (fit b) no_more))
operands_sound (concat at xs p w) = parts_sound p
operands_sound (repeated at x xs u g p w) = sound (fit_own u g) (parts_sound p)
operands_sound (sign at s x a) = sound (fit a) no_more

seen_other : {s : Seen} {b : LeafValue} → s ≡ seen.Other → s ≡ seen.Value b → ⊥
seen_other e f = cc

seen_unknown : {s : Seen} {b : LeafValue} → s ≡ seen.Unknown → s ≡ seen.Value b → ⊥
seen_unknown e f = cc

seen_twice : {s : Seen} {b : LeafValue} → s ≡ seen.Ambiguous → s ≡ seen.Value b → ⊥
seen_twice e f = cc

never_none : {k : Names} {x : Node} → Never k x → (ns : List Need) → Sound k ns (operands x)
never_none (other at path e) ns = no_more
never_none (member at x p name) ns = no_more
never_none (pattern at items) ns = no_more
never_none (call at path xs) ns = no_more
never_none (size at x) ns = no_more
never_none (time at) ns = no_more

wrong_rests : {k : Names} {x : Node} {r : Rule} {p : Place} → Wrong k x r p → Sound k (needs x) (operands x)
wrong_rests (not_constant x n) = never_none n _
wrong_rests (unknown_name at path e) = no_more
wrong_rests (two_imports at path e) = no_more
wrong_rests (bad_width at xs p w) = parts_sound p
wrong_rests (bad_product at x xs u g p w) = sound (fit_own u g) (parts_sound p)
wrong_rests (bad_range at x y z a u g v h w) = sound (fit a) (sound (fit_own u g) (sound (fit_own v h) no_more))
wrong_rests (bad_indexed at x y z up a b u g w) = sound (fit a) (sound (fit b) (sound (fit_own u g) no_more))

never_alone : {k : Names} {x : Node} {l : Leaf} → Never k x → Alone k x l → ⊥
never_alone (other at path e) (read _ _ b f) = seen_other e f
never_alone (member at x p name) a = elim a [ ]
never_alone (pattern at items) a = elim a [ ]
never_alone (call at path xs) a = elim a [ ]
never_alone (size at x) a = elim a [ ]
never_alone (time at) a = elim a [ ]

no_wrong : {k : Names} {x : Node} {l : Leaf} {r : Rule} {p : Place} → Wrong k x r p → Alone k x l → ⊥
no_wrong (not_constant x n) a = never_alone n a
no_wrong (unknown_name at path e) (read _ _ b f) = seen_unknown e f
no_wrong (two_imports at path e) (read _ _ b f) = seen_twice e f
no_wrong (bad_width at xs p n) (concat _ _ q w) = n (subst (λ n. IsWidth n) (parts_one q p).width w)
no_wrong (bad_product at x xs u g p n) (repeated _ _ _ v h q w) =
    n (subst (λ n. IsWidth n) (ap2 (λ (v : LeafValue) (n : ℕ). count_of v * n) (own_one v u) (parts_one q p).width) w)
no_wrong (bad_range at x y z a u g v h n) (part _ _ _ _ b s i t j w) =
    n (subst (λ n. IsWidth n) (ap2 (λ (a b : LeafValue). suc (count_of a) - count_of b) (own_one s u) (own_one t v)) w)
no_wrong (bad_indexed at x y z up a b u g n) (indexed _ _ _ _ _ c d v h w) =
    n (subst (λ n. IsWidth n) (ap width_of (own_one v u)) w)

-- a value is what it must be, or isn't
no_unmet : {k : Names} {n : Need} {x : Node} {v : LeafValue} → Fit k n x → Own k x v → (Meets n v → ⊥) → ⊥
no_unmet (fit a) u m = m tt
no_unmet {n = n} (fit_own s g) u m = m (subst (λ v. Meets n v) (own_one s u) g)

-- what is fit has a leaf
abbrev HasLeaf : Names → Node → Type 0
HasLeaf k x = (l : Leaf) × Alone k x l

own_leaf : {k : Names} {x : Node} {v : LeafValue} → Own k x v → HasLeaf k x
own_leaf (itself x a w) = (_, a)

fit_leaf : {k : Names} {n : Need} {x : Node} → Fit k n x → HasLeaf k x
fit_leaf (fit a) = (_, a)
fit_leaf (fit_own u g) = own_leaf u

mutual
  pub no_fault : {k : Names} {x : Node} {l : Leaf} {r : Rule} {p : Place} → Fault k x r p → Alone k x l → ⊥
  no_fault (itself_wrong w) a = no_wrong w a
  no_fault (in_operand x f) a = no_among f (operands_sound a)

  pub no_among : {k : Names} {ns : List Need} {xs : List Expr} {r : Rule} {p : Place} → Among k ns xs r p → Sound k ns xs → ⊥
  no_among (here x xs f) (sound a s) = no_fault f (fit_leaf a).1
  no_among (unmet x xs u m) (sound a s) = no_unmet a u m
  no_among (there x xs f) (sound a s) = no_among f s

pub no_fit : {k : Names} {n : Need} {x : Node} {r : Rule} {p : Place} → Fault k x r p → Fit k n x → ⊥
no_fit f a = no_fault f (fit_leaf a).1

pub no_own : {k : Names} {x : Node} {v : LeafValue} {r : Rule} {p : Place} → Fault k x r p → Own k x v → ⊥
no_own f u = no_fault f (own_leaf u).1

mutual
  no_hides : {k : Names} {x : Node} {l : Leaf} → Hides k x → Alone k x l → ⊥
  no_hides (never n) a = never_alone n a
  no_hides (hides x h) a = no_any h (operands_sound a)

  no_any : {k : Names} {ns : List Need} {xs : List Expr} → AnyHides k xs → Sound k ns xs → ⊥
  no_any (hides_here x xs h) (sound a s) = no_hides h (fit_leaf a).1
  no_any (hides_there x xs h) (sound a s) = no_any h s

pub no_faulty : {k : Names} {x : Node} {l : Leaf} {r : Rule} {p : Place} → Alone k x l → Faulty k x r p → ⊥
no_faulty a (whole x h) = no_hides h a
no_faulty a (within x n f) = no_fault f a

-- ---- where a fault's place lies

wider : {f i j g h : ℕ} {p : Place} → In f i j p → g ≤ i → j ≤ h → In f g h p
wider n a b = let c = n.from in let d = n.below in record { same = n.same; from = omega arith; below = omega arith }

up_to : {f i j : ℕ} {p : Place} → In f i j p → p.offset ≤ j
up_to w = let b = w.below in omega arith

-- those of the parts that are operands are placed in order
operands_placed : {f i j : ℕ} {x : Node} → Placed f i j x → AllPlaced f (place_of x).offset j (operands x)
operands_placed (literal_in w) = no_parts (up_to w)
operands_placed (read_in w p) = no_parts (up_to w)
operands_placed (member_in w x p) = no_parts (up_to w)
operands_placed (item_in w x y) = more_parts x (more_parts y (no_parts (omega arith)))
operands_placed (part_in w x y z) = more_parts x (more_parts y (more_parts z (no_parts (omega arith))))
operands_placed (indexed_in w x y z) = more_parts x (more_parts y (more_parts z (no_parts (omega arith))))
operands_placed (unary_in w x) = more_parts x (no_parts (omega arith))
operands_placed (binary_in w x y) = more_parts x (more_parts y (no_parts (omega arith)))
operands_placed (choose_in w x y z) = more_parts x (more_parts y (more_parts z (no_parts (omega arith))))
operands_placed (concat_in w xs) = xs
operands_placed (repeat_in w x xs) = more_parts x xs
operands_placed (pattern_in w xs) = no_parts (up_to w)
operands_placed (call_in w p xs) = no_parts (up_to w)
operands_placed (size_in w x) = no_parts (up_to w)
operands_placed (time_in w) = no_parts (up_to w)
operands_placed (sign_in w x) = more_parts x (no_parts (omega arith))

wrong_place : {k : Names} {x : Node} {r : Rule} {p : Place} → Wrong k x r p → p ≡ place_of x
wrong_place (not_constant x n) = refl
wrong_place (unknown_name at path e) = refl
wrong_place (two_imports at path e) = refl
wrong_place (bad_width at xs p w) = refl
wrong_place (bad_product at x xs u g p w) = refl
wrong_place (bad_range at x y z a u g v h w) = refl
wrong_place (bad_indexed at x y z up a b u g w) = refl

mutual
  pub fault_in : {k : Names} {f i j : ℕ} {x : Node} {r : Rule} {p : Place} → Fault k x r p → Placed f i j x → In f i j p
  fault_in {f = f} {i = i} {j = j} (itself_wrong w) a = subst (λ p. In f i j p) (sym (wrong_place w)) (place_in a)
  fault_in (in_operand x w) a = let n = place_in a in wider (among_in w (operands_placed a)) n.from (omega arith)

  pub among_in : {k : Names} {ns : List Need} {f i j : ℕ} {xs : List Expr} {r : Rule} {p : Place} → Among k ns xs r p → AllPlaced f i j xs → In f i j p
  among_in (here x xs w) (more_parts a s) = let le = all_span s in wider (fault_in w a) (omega arith) le
  among_in (unmet x xs u m) (more_parts a s) = let le = all_span s in wider (place_in a) (omega arith) le
  among_in (there x xs w) (more_parts a s) = let lt = spans a in wider (among_in w s) (omega arith) (omega arith)

-- at or after the place of the node
fault_after : {k : Names} {f i j : ℕ} {x : Node} {r : Rule} {p : Place} → Fault k x r p → Placed f i j x → In f (place_of x).offset j p
fault_after {f = f} {j = j} {x = x} (itself_wrong w) a =
    let n = place_in a in
    subst (λ (p : Place). In f (place_of x).offset j p) (sym (wrong_place w)) (record { same = n.same; from = omega arith; below = n.below })
fault_after (in_operand x w) a = among_in w (operands_placed a)

apart : {f i h j : ℕ} (r s : Rule) (p q : Place) → In f i h p → In f h j q → NoLater (refusal r p) (refusal s q)
apart r s p q a b =
    let e : p.file ≡ q.file = a.same ∙ sym b.same in let c = a.below in let d = b.from in
    let lt : p.offset < q.offset = omega arith in inr (e, inl lt)

same : (r : Rule) (p : Place) → NoLater (refusal r p) (refusal r p)
same r p = let le : rule_number r ≤ rule_number r = omega arith in inr (refl, inr (refl, le))

-- ---- the least fault, from that of an operand

module _ {k : Names} where
  least_here : (ns : List Need) (x : Expr) (xs : List Expr) (r : Refusal) → Refuses k (out-Expr x) r
      → (f i j : ℕ) → AllPlaced f i j (x ∷ xs) → (s : Rule) (q : Place) → Among k ns (x ∷ xs) s q → NoLater r (refusal s q)
  least_here ns x xs r h f i j (more_parts a p) s q (here _ _ w) = h.least _ _ _ a s q w
  least_here ns x xs r h f i j (more_parts a p) s q (unmet _ _ u m) = absurd (no_own h.is u)
  least_here ns x xs r h f i j (more_parts a p) s q (there _ _ w) = apart r.rule s r.place q (fault_in h.is a) (among_in w p)

  pub refuse_here : (ns : List Need) (x : Expr) (xs : List Expr) (r : Refusal) → Refuses k (out-Expr x) r → RefusesOne k ns (x ∷ xs) r
  refuse_here ns x xs r h = record { is = here x xs h.is; least = least_here ns x xs r h }

  least_bad : (ns : List Need) (x : Expr) (xs : List Expr) (v : LeafValue) → Own k (out-Expr x) v → (Meets (first ns) v → ⊥)
      → (f i j : ℕ) → AllPlaced f i j (x ∷ xs) → (s : Rule) (q : Place) → Among k ns (x ∷ xs) s q → NoLater (refusal rule.T3 (place_of (out-Expr x))) (refusal s q)
  least_bad ns x xs v u n f i j (more_parts a p) s q (here _ _ w) = absurd (no_own w u)
  least_bad ns x xs v u n f i j (more_parts a p) s q (unmet _ _ t h) = same rule.T3 (place_of (out-Expr x))
  least_bad ns x xs v u n f i j (more_parts a p) s q (there _ _ w) = apart rule.T3 s (place_of (out-Expr x)) q (place_in a) (among_in w p)

  pub refuse_bad : (ns : List Need) (x : Expr) (xs : List Expr) (v : LeafValue) → Own k (out-Expr x) v → (Meets (first ns) v → ⊥)
      → RefusesOne k ns (x ∷ xs) (refusal rule.T3 (place_of (out-Expr x)))
  refuse_bad ns x xs v u n = record { is = unmet x xs u n; least = least_bad ns x xs v u n }

  least_there : (ns : List Need) (x : Expr) (xs : List Expr) (r : Refusal) → Fit k (first ns) (out-Expr x) → RefusesOne k (rest ns) xs r
      → (f i j : ℕ) → AllPlaced f i j (x ∷ xs) → (s : Rule) (q : Place) → Among k ns (x ∷ xs) s q → NoLater r (refusal s q)
  least_there ns x xs r a h f i j (more_parts b p) s q (here _ _ w) = absurd (no_fit w a)
  least_there ns x xs r a h f i j (more_parts b p) s q (unmet _ _ u m) = absurd (no_unmet a u m)
  least_there ns x xs r a h f i j (more_parts b p) s q (there _ _ w) = h.least _ _ _ p s q w

  pub refuse_there : (ns : List Need) (x : Expr) (xs : List Expr) (r : Refusal) → Fit k (first ns) (out-Expr x) → RefusesOne k (rest ns) xs r
      → RefusesOne k ns (x ∷ xs) r
  refuse_there ns x xs r a h = record { is = there x xs h.is; least = least_there ns x xs r a h }

  least_in : (x : Node) (r : Refusal) → RefusesOne k (needs x) (operands x) r
      → (f i j : ℕ) → Placed f i j x → (s : Rule) (q : Place) → Fault k x s q → NoLater r (refusal s q)
  least_in x r h f i j a s q (itself_wrong w) = absurd (no_among h.is (wrong_rests w))
  least_in x r h f i j a s q (in_operand _ w) = h.least _ _ _ (operands_placed a) s q w

  pub refuse_in : (x : Node) (r : Refusal) → RefusesOne k (needs x) (operands x) r → Refuses k x r
  refuse_in x r h = record { is = in_operand x h.is; least = least_in x r h }

-- ---- a fault of the node itself

abbrev rule_seen : Seen → Rule
rule_seen (seen.Value b) = rule.T1
rule_seen seen.Other = rule.T1
rule_seen seen.Unknown = rule.T4
rule_seen seen.Ambiguous = rule.T9

abbrev rule_of : Names → Node → Rule
rule_of k (Expr-F.Literal at v) = rule.T1
rule_of k (Expr-F.Read at path) = rule_seen (k path)
rule_of k (Expr-F.Member at x p name) = rule.T1
rule_of k (Expr-F.Item at x y) = rule.T1
rule_of k (Expr-F.Part at x y z) = rule.T2
rule_of k (Expr-F.Indexed at x y z up) = rule.T2
rule_of k (Expr-F.Unary at op x) = rule.T1
rule_of k (Expr-F.Binary at op x y) = rule.T1
rule_of k (Expr-F.Choose at p x y) = rule.T1
rule_of k (Expr-F.Concat at xs) = rule.T2
rule_of k (Expr-F.Repeat at x xs) = rule.T2
rule_of k (Expr-F.Pattern at items) = rule.T1
rule_of k (Expr-F.Call at path xs) = rule.T1
rule_of k (Expr-F.Size at x) = rule.T1
rule_of k (Expr-F.Time at) = rule.T1
rule_of k (Expr-F.Sign at s x) = rule.T1

never_rule : {k : Names} {x : Node} → Never k x → rule.T1 ≡ rule_of k x
never_rule (other at path e) = sym (ap rule_seen e)
never_rule (member at x p name) = refl
never_rule (pattern at items) = refl
never_rule (call at path xs) = refl
never_rule (size at x) = refl
never_rule (time at) = refl

wrong_rule : {k : Names} {x : Node} {r : Rule} {p : Place} → Wrong k x r p → r ≡ rule_of k x
wrong_rule (not_constant x n) = never_rule n
wrong_rule (unknown_name at path e) = sym (ap rule_seen e)
wrong_rule (two_imports at path e) = sym (ap rule_seen e)
wrong_rule (bad_width at xs p w) = refl
wrong_rule (bad_product at x xs u g p w) = refl
wrong_rule (bad_range at x y z a u g v h w) = refl
wrong_rule (bad_indexed at x y z up a b u g w) = refl

same_as : (r s : Rule) (p q : Place) → r ≡ s → p ≡ q → NoLater (refusal r p) (refusal s q)
same_as r s p q e f = subst (λ s. NoLater (refusal r p) (refusal s q)) e (subst (λ q. NoLater (refusal r p) (refusal r q)) f (same r p))

at_or_after : (a b : ℕ) (rest : Type 0) → a ≤ b → rest → LessOr a b rest
at_or_after a b rest le h = elim (cases_eq a b) [ inl e ↦ inr (e, h) | inr ne ↦ let lt : a < b = omega arith in inl lt ]

first_of : (p : Place) (s : Rule) (q : Place) → p.file ≡ q.file → p.offset ≤ q.offset → rule_number rule.T1 ≤ rule_number s → NoLater (refusal rule.T1 p) (refusal s q)
first_of p s q e le n = inr (e, at_or_after p.offset q.offset _ le n)

wrong_number : {k : Names} {x : Node} {r : Rule} {p : Place} → Wrong k x r p → rule_number rule.T1 ≤ rule_number r
wrong_number (not_constant x n) = omega arith
wrong_number (unknown_name at path e) = omega arith
wrong_number (two_imports at path e) = omega arith
wrong_number (bad_width at xs p w) = omega arith
wrong_number (bad_product at x xs u g p w) = omega arith
wrong_number (bad_range at x y z a u g v h w) = omega arith
wrong_number (bad_indexed at x y z up a b u g w) = omega arith

mutual
  fault_rule : {k : Names} {x : Node} {r : Rule} {p : Place} → Fault k x r p → rule_number rule.T1 ≤ rule_number r
  fault_rule (itself_wrong w) = wrong_number w
  fault_rule (in_operand x w) = among_rule w

  among_rule : {k : Names} {ns : List Need} {xs : List Expr} {r : Rule} {p : Place} → Among k ns xs r p → rule_number rule.T1 ≤ rule_number r
  among_rule (here x xs w) = fault_rule w
  among_rule (unmet x xs u m) = omega arith
  among_rule (there x xs w) = among_rule w

other_rule : (r : Rule) → rule_number rule.T1 < rule_number r → r ≡ rule.T1 → ⊥
other_rule r lt e = let h : rule_number r ≡ rule_number rule.T1 = ap rule_number e in omega arith

hidden_wrong : {k : Names} {x : Node} {r : Rule} {p : Place} → Wrong k x r p → r ≡ rule.T1 → Hides k x
hidden_wrong (not_constant x n) e = never n
hidden_wrong (unknown_name at path h) e = absurd (other_rule rule.T4 (omega arith) e)
hidden_wrong (two_imports at path h) e = absurd (other_rule rule.T9 (omega arith) e)
hidden_wrong (bad_width at xs p w) e = absurd (other_rule rule.T2 (omega arith) e)
hidden_wrong (bad_product at x xs u g p w) e = absurd (other_rule rule.T2 (omega arith) e)
hidden_wrong (bad_range at x y z a u g v h w) e = absurd (other_rule rule.T2 (omega arith) e)
hidden_wrong (bad_indexed at x y z up a b u g w) e = absurd (other_rule rule.T2 (omega arith) e)

-- what is no constant is the only cause of T1
mutual
  hidden : {k : Names} {x : Node} {r : Rule} {p : Place} → Fault k x r p → r ≡ rule.T1 → Hides k x
  hidden (itself_wrong w) e = hidden_wrong w e
  hidden (in_operand x w) e = hides x (hidden_among w e)

  hidden_among : {k : Names} {ns : List Need} {xs : List Expr} {r : Rule} {p : Place} → Among k ns xs r p → r ≡ rule.T1 → AnyHides k xs
  hidden_among (here x xs w) e = hides_here x xs (hidden w e)
  hidden_among (unmet x xs u m) e = absurd (other_rule rule.T3 (omega arith) e)
  hidden_among (there x xs w) e = hides_there x xs (hidden_among w e)

module _ {k : Names} where
  least_wrong : (x : Node) (r : Rule) (p : Place) → Wrong k x r p
      → (f i j : ℕ) → Placed f i j x → (s : Rule) (q : Place) → Fault k x s q → NoLater (refusal r p) (refusal s q)
  least_wrong x r p w f i j a s q (itself_wrong v) = same_as r s p q (wrong_rule w ∙ sym (wrong_rule v)) (wrong_place w ∙ sym (wrong_place v))
  least_wrong x r p w f i j a s q (in_operand _ v) = absurd (no_among v (wrong_rests w))

  pub refuse_wrong : (x : Node) (r : Rule) (p : Place) → Wrong k x r p → Refuses k x (refusal r p)
  refuse_wrong x r p w = record { is = itself_wrong w; least = least_wrong x r p w }

  -- ---- an expression that must be constant

  least_whole : (x : Node) → Hides k x → (f i j : ℕ) → Placed f i j x → (s : Rule) (q : Place) → Faulty k x s q → NoLater (refusal rule.T1 (place_of x)) (refusal s q)
  least_whole x h f i j a s q (whole _ g) = same rule.T1 (place_of x)
  least_whole x h f i j a s q (within _ m w) =
      let n = fault_after w a in
      let e = (place_in a).same in
      first_of (place_of x) s q (e ∙ sym n.same) n.from (fault_rule w)

  pub refuse_whole : (x : Node) → Hides k x → RefusesWhole k x (refusal rule.T1 (place_of x))
  refuse_whole x h = record { is = whole x h; least = least_whole x h }

  least_inside : (x : Node) (r : Refusal) → (Hides k x → ⊥) → Refuses k x r → (f i j : ℕ) → Placed f i j x → (s : Rule) (q : Place) → Faulty k x s q → NoLater r (refusal s q)
  least_inside x r n h f i j a s q (whole _ g) = absurd (n g)
  least_inside x r n h f i j a s q (within _ m w) = h.least f i j a s q w

  pub refuse_inside : (x : Node) (r : Refusal) → (Hides k x → ⊥) → Refuses k x r → RefusesWhole k x r
  refuse_inside x r n h = record { is = within x (λ e. n (hidden h.is e)) h.is; least = least_inside x r n h }
