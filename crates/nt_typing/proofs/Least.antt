-- The first fault that a walk in the order of the source meets is the least.
use Rattle.std.proofs.Common.{◌≡◌, ℕ, ◌*◌, ◌<◌, ◌≤◌, Bool, List, [], ◌∷◌, map, length, refl, sym, ap, ◌∙◌, subst, arith, inl, inr}
use Rattle.std.specs.Prelude.{nat_le, true, false, if◌then◌else◌, ◌&&◌, Option, Some, None, Result, Ok, Err}
use Rattle.nt_value.specs.Digits.{LeafValue}
use Rattle.nt_value.specs.declared.place.Place.{Place}
use Rattle.nt_diag.specs.declared.rule.Rule.{Rule}
use Rattle.nt_diag.specs.declared.rule.Rule.TheVariants as rule
use Rattle.nt_diag.specs.declared.refusal.Refusal.{Refusal}
use Rattle.nt_diag.specs.Order.{NoLater, rule_number}
use Rattle.nt_ast.specs.declared.expr.Key.{Key}
use Rattle.nt_ast.specs.declared.expr.Key.TheVariants as key
use Rattle.nt_ast.specs.declared.expr.Expr.{Expr}
use Rattle.nt_ast.specs.declared.expr.Expr.TheOpen.{Expr-F}
use Rattle.nt_ast.specs.declared.expr.Expr.TheViews.{out-Expr}
use Rattle.nt_const.specs.Tables.{count_of, width_of}
use Rattle.nt_ast.specs.Places.{Node, place_of, Within, Placed, literal_in, read_in, member_in, item_in, part_in, indexed_in, unary_in, binary_in, choose_in, concat_in, repeat_in, pattern_in, call_in, size_in, time_in, sign_in, AllPlaced, no_parts, more_parts, EachPlaced, no_items, more_items}
use Rattle.nt_ast.proofs.InOrder.{place_in, spans, all_span}
use Rattle.nt_const.specs.Rules as rules
use Rattle.nt_const.specs.Tells.{refusal}
use Rattle.nt_const.proofs.Faults as const
use Rattle.nt_const.proofs.Answered.{ap2, ap3, own_one}
use Rattle.nt_kinds.specs.declared.kind.Kind.{Kind}
use Rattle.nt_typing.specs.declared.scope.Callable.{Callable}
use Rattle.nt_typing.specs.declared.scope.Scope.{Scope}
use Rattle.nt_typing.specs.Names.{meaning_of}
use Rattle.nt_typing.specs.Tables.{thing_leaf, member_of, item_of, part_of, indexed_of, size_of, is_unknown, member_place, copies, concat_thing, called, answer_of, given, items_for, other_items, one_item, is_name, with_plan, in_order, by_name, plan_for, all_unkeyed, all_keyed}
use Rattle.nt_typing.specs.declared.thing.Thing.{Thing}
use Rattle.nt_typing.specs.Typing.{Stands}
use Rattle.nt_typing.specs.Faults as fa
use Rattle.nt_typing.specs.Faults.{Need, leaf, base, Asked, all_leaf, all_go, asked_of, asked, Wrong, Fault, itself_wrong, in_operand, Among, here, there, Misses, leaf_faulty, leaf_missing, base_faulty, base_missing, inconstant, unmet, not_going, FaultTo, faulty, no_leaf, unlike, no_value, unplanned, in_item}
use Rattle.nt_typing.specs.Places.{exprs, Refuses, RefusesOne, RefusesOperand}
use Rattle.nt_typing.proofs.One.{ap4, replanned, stands_one, itself_one, several_one, all_one, ok_one}
use Rattle.nt_typing.proofs.Excluded.{Fit, ok_err, no_misses, no_among, no_fault_stands, wrong_rests}

some_back : {A : Type 0} {a b : A} → Some a ≡ Some b → a ≡ b
some_back e = cc

abbrev Slots : Type 0
Slots = List (Option (List ℕ) × Kind)

abbrev pub In : ℕ → ℕ → ℕ → Place → Type 0
In f i j p = Within f i j p

wider : {f i j g h : ℕ} {p : Place} → In f i j p → g ≤ i → j ≤ h → In f g h p
wider n a b = let c = n.from in let d = n.below in record { same = n.same; from = omega arith; below = omega arith }

up_to : {f i j : ℕ} {p : Place} → In f i j p → p.offset ≤ j
up_to w = let b = w.below in omega arith

inconstant_in : {k : rules.Names} {f i j : ℕ} {x : Node} {r : Rule} {p : Place} → rules.Faulty k x r p → Placed f i j x → In f i j p
inconstant_in (rules.whole x h) a = place_in a
inconstant_in (rules.within x n g) a = const.fault_in g a

-- ---- operands somewhere inside
pub data EachIn : ℕ → ℕ → ℕ → List Expr → Type 0 where
  none_in : {f i j : ℕ} → EachIn f i j []
  more_in : {f i j g h : ℕ} (x : Expr) (xs : List Expr) → Placed f g h (out-Expr x) → i ≤ g → h ≤ j → EachIn f i j xs → EachIn f i j (x ∷ xs)

each_wider : {f i j g h : ℕ} {xs : List Expr} → EachIn f i j xs → g ≤ i → j ≤ h → EachIn f g h xs
each_wider none_in a b = none_in
each_wider (more_in x xs p lo hi r) a b = more_in x xs p (omega arith) (omega arith) (each_wider r a b)

each_in : {f i j : ℕ} {xs : List Expr} → AllPlaced f i j xs → EachIn f i j xs
each_in (no_parts le) = none_in
each_in (more_parts {x = x} {xs = xs} p s) = let a = spans p in let b = all_span s in more_in x xs p (omega arith) b (each_wider (each_in s) (omega arith) (omega arith))

-- ---- the operands of a plan are items
abbrev Items : Type 0
Items = List (Option Key × Expr)

abbrev item_exprs : Items → List Expr
item_exprs items = map (λ i. i.1) items

each_span : {f i j : ℕ} {items : Items} → EachPlaced f i j items → i ≤ j
each_span (no_items le) = le
each_span (more_items p s) = let a = spans p in let b = each_span s in omega arith

pub items_in : {f i j : ℕ} {items : Items} → EachPlaced f i j items → EachIn f i j (item_exprs items)
items_in (no_items le) = none_in
items_in (more_items {key = key} {x = x} {xs = xs} p s) = let a = spans p in let b = each_span s in more_in x (item_exprs xs) p (omega arith) b (each_wider (items_in s) (omega arith) (omega arith))

one_in : {f i j : ℕ} (xs others : List Expr) (x : Expr) → EachIn f i j xs → EachIn f i j others → one_item xs others ≡ Some x → EachIn f i j (x ∷ [])
one_in [] [] x a b h = cc
one_in {f = f} {i = i} {j = j} [] (y ∷ []) x a b h = subst (λ z. EachIn f i j (z ∷ [])) (some_back h) b
one_in [] (y ∷ z ∷ zs) x a b h = cc
one_in {f = f} {i = i} {j = j} (y ∷ []) others x a b h = subst (λ z. EachIn f i j (z ∷ [])) (some_back h) a
one_in (y ∷ z ∷ zs) others x a b h = cc

kept : {f i j : ℕ} (b : Bool) (x : Expr) (xs : List Expr) → EachIn f i j (x ∷ []) → EachIn f i j xs → EachIn f i j (if b then x ∷ xs else xs)
kept true x xs (more_in _ _ p lo hi r) q = more_in x xs p lo hi q
kept false x xs a q = q

single : {f i j : ℕ} (x : Expr) (xs : List Expr) → EachIn f i j (x ∷ xs) → EachIn f i j (x ∷ [])
single x xs (more_in _ _ p lo hi r) = more_in x [] p lo hi none_in

tail_in : {f i j : ℕ} (x : Expr) (xs : List Expr) → EachIn f i j (x ∷ xs) → EachIn f i j xs
tail_in x xs (more_in _ _ p lo hi r) = r

for_in : {f i j : ℕ} (slot : Option (List ℕ)) (items : Items) → EachIn f i j (item_exprs items) → EachIn f i j (items_for slot items)
for_in slot [] a = none_in
for_in slot ((None, x) ∷ items) a = for_in slot items (tail_in x _ a)
for_in slot ((Some key.Other, x) ∷ items) a = for_in slot items (tail_in x _ a)
for_in slot ((Some (key.Member name), x) ∷ items) a = kept (is_name slot name) x (items_for slot items) (single x _ a) (for_in slot items (tail_in x _ a))

others_in : {f i j : ℕ} (items : Items) → EachIn f i j (item_exprs items) → EachIn f i j (other_items items)
others_in [] a = none_in
others_in ((None, x) ∷ items) a = others_in items (tail_in x _ a)
others_in ((Some key.Other, x) ∷ items) a = kept true x (other_items items) (single x _ a) (others_in items (tail_in x _ a))
others_in ((Some (key.Member name), x) ∷ items) a = others_in items (tail_in x _ a)

abbrev plan_exprs : List (Expr × Kind) → List Expr
plan_exprs plan = map (λ p. p.0) plan

with_in : {f i j : ℕ} (k : Kind) (o : Option Expr) (p : Option (List (Expr × Kind))) (plan : List (Expr × Kind))
    → ((x : Expr) → o ≡ Some x → EachIn f i j (x ∷ [])) → ((q : List (Expr × Kind)) → p ≡ Some q → EachIn f i j (plan_exprs q))
    → with_plan k o p ≡ Some plan → EachIn f i j (plan_exprs plan)
with_in k None p plan g h e = cc
with_in k (Some x) None plan g h e = cc
with_in {f = f} {i = i} {j = j} k (Some x) (Some q) plan g h e = subst (λ plan. EachIn f i j (plan_exprs plan)) (some_back e) (kept true x (plan_exprs q) (g x refl) (h q refl))

order_in : {f i j : ℕ} (slots : Slots) (items : Items) (plan : List (Expr × Kind)) → EachIn f i j (item_exprs items) → in_order slots items ≡ Some plan → EachIn f i j (plan_exprs plan)
order_in {f = f} {i = i} {j = j} [] [] plan a h = subst (λ plan. EachIn f i j (plan_exprs plan)) (some_back h) none_in
order_in [] (y ∷ items) plan a h = cc
order_in (s ∷ slots) [] plan a h = cc
order_in {f = f} {i = i} {j = j} (s ∷ slots) (y ∷ items) plan a h =
    with_in s.1 (Some y.1) (in_order slots items) plan
    (λ x e. subst (λ x. EachIn f i j (x ∷ [])) (some_back e) (single y.1 _ a))
    (λ q e. order_in slots items q (tail_in y.1 _ a) e) h

name_in : {f i j : ℕ} (slots : Slots) (items : Items) (plan : List (Expr × Kind)) → EachIn f i j (item_exprs items) → by_name slots items ≡ Some plan → EachIn f i j (plan_exprs plan)
name_in {f = f} {i = i} {j = j} [] items plan a h = subst (λ plan. EachIn f i j (plan_exprs plan)) (some_back h) none_in
name_in (s ∷ slots) items plan a h =
    with_in s.1 (one_item (items_for s.0 items) (other_items items)) (by_name slots items) plan
    (λ x e. one_in (items_for s.0 items) (other_items items) x (for_in s.0 items a) (others_in items a) e)
    (λ q e. name_in slots items q a e) h

plan_in_by : {f i j : ℕ} (b c : Bool) (slots : Slots) (items : Items) (plan : List (Expr × Kind)) → EachIn f i j (item_exprs items)
    → (if b then in_order slots items else if c then by_name slots items else None) ≡ Some plan → EachIn f i j (plan_exprs plan)
plan_in_by true c slots items plan a h = order_in slots items plan a h
plan_in_by false true slots items plan a h = name_in slots items plan a h
plan_in_by false false slots items plan a h = cc

pub plan_in : {f i j : ℕ} (o : Option Slots) (items : Items) (plan : List (Expr × Kind)) → EachIn f i j (item_exprs items) → plan_for o items ≡ Some plan → EachIn f i j (plan_exprs plan)
plan_in None items plan a h = cc
plan_in (Some slots) items plan a h = plan_in_by (all_unkeyed items) (all_keyed slots items && nat_le (length (other_items items)) 1) slots items plan a h

-- ---- what a node asks is of its parts
leaf_exprs : (xs : List Expr) → exprs (all_leaf xs) ≡ xs
leaf_exprs [] = refl
leaf_exprs (x ∷ xs) = ap (λ ys. x ∷ ys) (leaf_exprs xs)

pub plan_asked : {f i j : ℕ} (plan : List (Expr × Kind)) → EachIn f i j (plan_exprs plan) → EachIn f i j (exprs (all_go plan))
plan_asked [] a = none_in
plan_asked (p ∷ plan) (more_in _ _ q lo hi r) = more_in p.0 _ q lo hi (plan_asked plan r)

given_placed : {f i j : ℕ} (xs : List Expr) (ks : List Kind) → AllPlaced f i j xs → AllPlaced f i j (exprs (all_go (given xs ks)))
given_placed [] ks a = a
given_placed (x ∷ xs) [] a = no_parts (all_span a)
given_placed (x ∷ xs) (k ∷ ks) (more_parts p s) = more_parts p (given_placed xs ks s)

call_placed : {f i j : ℕ} (o : Result Callable Rule) (xs : List Expr) → AllPlaced f i j xs → AllPlaced f i j (exprs (asked_of o xs))
call_placed (Ok c) xs a = given_placed xs c.args a
call_placed (Err r) xs a = no_parts (all_span a)

leaf_placed : {f i j : ℕ} (xs : List Expr) → AllPlaced f i j xs → AllPlaced f i j (exprs (all_leaf xs))
leaf_placed {f = f} {i = i} {j = j} xs a = subst (AllPlaced f i j) (sym (leaf_exprs xs)) a

-- what is asked stands in order, at or after the node
pub record Asks (f at j : ℕ) (xs : List Expr) : Type 0 where
  pub from : ℕ
  pub after : at ≤ from
  pub placed : AllPlaced f from j xs

asks : {f at j : ℕ} {xs : List Expr} → AllPlaced f at j xs → Asks f at j xs
asks {at = at} a = record { from = at; after = omega arith; placed = a }

pub asked_placed : {f i j : ℕ} {x : Node} (s : Scope) → Placed f i j x → Asks f (place_of x).offset j (exprs (asked s x))
asked_placed s (literal_in w) = asks (no_parts (up_to w))
asked_placed s (read_in w p) = asks (no_parts (up_to w))
asked_placed s (member_in w x p) = let a = p.from in let b = p.below in asks (more_parts x (no_parts (omega arith)))
asked_placed s (item_in w x y) = asks (more_parts x (more_parts y (no_parts (omega arith))))
asked_placed s (part_in w x y z) = asks (more_parts x (more_parts y (more_parts z (no_parts (omega arith)))))
asked_placed s (indexed_in w x y z) = asks (more_parts x (more_parts y (more_parts z (no_parts (omega arith)))))
asked_placed s (unary_in w x) = asks (more_parts x (no_parts (omega arith)))
asked_placed s (binary_in w x y) = asks (more_parts x (more_parts y (no_parts (omega arith))))
asked_placed s (choose_in w x y z) = asks (more_parts x (more_parts y (more_parts z (no_parts (omega arith)))))
asked_placed s (concat_in {xs = xs} w p) = asks (leaf_placed xs p)
asked_placed s (repeat_in {xs = xs} w x p) = asks (more_parts x (leaf_placed xs p))
asked_placed s (pattern_in w xs) = asks (no_parts (up_to w))
asked_placed s (call_in {h = h} {path = path} {xs = xs} w p a) =
    let c = p.from in let d = p.below in
    record { from = h; after = omega arith; placed = call_placed (called (meaning_of s path) (length xs)) xs a }
asked_placed s (size_in w x) = asks (more_parts x (no_parts (omega arith)))
asked_placed s (time_in w) = asks (no_parts (up_to w))
asked_placed s (sign_in w x) = asks (more_parts x (no_parts (omega arith)))

-- ---- where a fault's place lies
one_of_places : {f i j : ℕ} (b : Bool) (p q : Place) → In f i j p → In f i j q → In f i j (if b then q else p)
one_of_places true p q a b = b
one_of_places false p q a b = a

name_in_node : {f i j : ℕ} {at p : Place} {x : Expr} {name : List ℕ} → Placed f i j (Expr-F.Member at x p name) → In f i j p
name_in_node (member_in w x n) =
    let a = w.from in let b = spans x in wider n (omega arith) (omega arith)

pub wrong_in : {s : Scope} {f i j : ℕ} {x : Node} {r : Rule} {p : Place} → Wrong s x r p → Placed f i j x → In f i j p
wrong_in (fa.read at path e) a = place_in a
wrong_in (fa.member {r = r} at x p name g e) a = one_of_places (is_unknown r) at p (place_in a) (name_in_node a)
wrong_in (fa.item at x y b i e) a = place_in a
wrong_in (fa.part at x y z b u g v h e) a = place_in a
wrong_in (fa.indexed at x y z up b i u g e) a = place_in a
wrong_in (fa.concat at xs p e) a = place_in a
wrong_in (fa.repeated at x xs u g p e) a = place_in a
wrong_in (fa.uncalled at path xs e) a = place_in a
wrong_in (fa.worthless at path xs e p g) a = place_in a
wrong_in (fa.size at x b e) a = place_in a
wrong_in (fa.time at e) a = place_in a
wrong_in (fa.pattern at items) a = place_in a

mutual
  pub fault_in : {s : Scope} {f i j : ℕ} {x : Node} {r : Rule} {p : Place} → Fault s x r p → Placed f i j x → In f i j p
  fault_in (itself_wrong w) a = wrong_in w a
  fault_in {s = s} (in_operand x w) a =
      let n = place_in a in let k = asked_placed s a in let b = n.from in let c = k.after in wider (among_in w (each_in k.placed)) (omega arith) (omega arith)

  pub among_in : {s : Scope} {f i j : ℕ} {ns : Asked} {r : Rule} {p : Place} → Among s ns r p → EachIn f i j (exprs ns) → In f i j p
  among_in (here x rest m) (more_in _ _ a lo hi z) = wider (misses_in m a) lo hi
  among_in (there x rest w) (more_in _ _ a lo hi z) = among_in w z

  pub misses_in : {s : Scope} {f i j : ℕ} {n : Need} {x : Node} {r : Rule} {p : Place} → Misses s n x r p → Placed f i j x → In f i j p
  misses_in (leaf_faulty g) a = fault_in g a
  misses_in (leaf_missing g e) a = place_in a
  misses_in (base_faulty g) a = fault_in g a
  misses_in (base_missing w b) a = place_in a
  misses_in (inconstant e g) a = inconstant_in g a
  misses_in (unmet e u n) a = place_in a
  misses_in (not_going g) a = fault_to_in g a

  pub fault_to_in : {s : Scope} {f i j : ℕ} {x : Node} {k : Kind} {r : Rule} {p : Place} → FaultTo s x k r p → Placed f i j x → In f i j p
  fault_to_in (faulty e g) a = fault_in g a
  fault_to_in (no_leaf e b) a = place_in a
  fault_to_in (unlike b e g h) a = place_in a
  fault_to_in (no_value b e g) a = place_in a
  fault_to_in (unplanned at items e) a = place_in a
  fault_to_in (in_item {plan = plan} at items e g) (pattern_in w z) =
      let b = w.from in wider (among_in g (plan_asked plan (plan_in _ items plan (items_in z) e))) (omega arith) (omega arith)

-- ---- the least fault, from that of an operand
apart : {f i h j : ℕ} (r t : Rule) (p q : Place) → In f i h p → In f h j q → NoLater (refusal r p) (refusal t q)
apart r t p q a b =
    let e : p.file ≡ q.file = a.same ∙ sym b.same in let c = a.below in let d = b.from in
    let lt : p.offset < q.offset = omega arith in inr (e, inl lt)

pub same : (r : Rule) (p : Place) → NoLater (refusal r p) (refusal r p)
same r p = let le : rule_number r ≤ rule_number r = omega arith in inr (refl, inr (refl, le))

same_as : (r t : Rule) (p q : Place) → r ≡ t → p ≡ q → NoLater (refusal r p) (refusal t q)
same_as r t p q e f = subst (λ t. NoLater (refusal r p) (refusal t q)) e (subst (λ q. NoLater (refusal r p) (refusal r q)) f (same r p))

err_one : {A : Type 0} {o q : Result A Rule} {a b : Rule} → o ≡ q → o ≡ Err a → q ≡ Err b → a ≡ b
err_one e f g = cc

-- a node has one fault of its own
pub record SameWrong (r t : Rule) (p q : Place) : Type 0 where
  pub rule : r ≡ t
  pub place : p ≡ q

at_one : {r t : Rule} {p : Place} → r ≡ t → SameWrong r t p p
at_one e = record { rule = e; place = refl }

pub wrong_one : {s : Scope} {x : Node} {r t : Rule} {p q : Place} → Wrong s x r p → Wrong s x t q → SameWrong r t p q
wrong_one (fa.read at path e) (fa.read _ _ g) = at_one (err_one refl e g)
wrong_one (fa.member at x name_at name a e) (fa.member _ _ _ _ b g) =
    let same = err_one (ap (λ h. member_of h name) (stands_one a b)) e g in record { rule = same; place = ap (λ r. member_place r at name_at) same }
wrong_one (fa.item at x y a i e) (fa.item _ _ _ b j g) = let u = itself_one i j in at_one (err_one (ap3 item_of (stands_one a b) u.leaf u.tree) e g)
wrong_one (fa.part at x y z a u m v n e) (fa.part _ _ _ _ b w k c l g) =
    at_one (err_one (ap3 (λ h (a b : LeafValue). part_of h (count_of a) (count_of b)) (stands_one a b) (own_one u w) (own_one v c)) e g)
wrong_one (fa.indexed at x y z up a i u m e) (fa.indexed _ _ _ _ _ b j v n g) =
    let w = itself_one i j in
    at_one (err_one (ap4 (λ h m i (n : LeafValue). indexed_of h up m i (width_of n)) (stands_one a b) w.leaf w.tree (own_one u v)) e g)
wrong_one (fa.concat at xs p e) (fa.concat _ _ q g) = let s = several_one p q in at_one (err_one (ap3 concat_thing s.width s.four s.trees) e g)
wrong_one (fa.repeated at x xs u m p e) (fa.repeated _ _ _ v n q g) =
    let s = several_one p q in
    at_one (err_one (ap4 (λ (v : LeafValue) n four ts. concat_thing (count_of v * n) four (copies (count_of v) ts)) (own_one u v) s.width s.four s.trees) e g)
wrong_one (fa.uncalled at path xs e) (fa.uncalled _ _ _ g) = at_one (err_one refl e g)
wrong_one (fa.uncalled at path xs e) (fa.worthless _ _ _ g q h) = absurd (ok_err refl g e)
wrong_one (fa.worthless at path xs e p k) (fa.uncalled _ _ _ g) = absurd (ok_err refl e g)
wrong_one (fa.worthless at path xs e p k) (fa.worthless _ _ _ g q h) =
    let i = ok_one refl e g in
    at_one (err_one (ap2 (λ (c : Callable) ts. answer_of c.result c.number ts) i (all_one p (replanned (ap (λ (c : Callable). given xs c.args) (sym i)) q))) k h)
wrong_one (fa.size at x a e) (fa.size _ _ b g) = at_one (err_one (ap size_of (stands_one a b)) e g)
wrong_one (fa.time at e) (fa.time _ g) = at_one (err_one refl e g)
wrong_one (fa.pattern at items) (fa.pattern _ _) = at_one refl

module _ {s : Scope} where
  least_here : (n : Need) (x : Expr) (rest : Asked) (r : Refusal) → RefusesOperand s n (out-Expr x) r
      → (f i j : ℕ) → AllPlaced f i j (exprs ((n, x) ∷ rest)) → (t : Rule) (q : Place) → Among s ((n, x) ∷ rest) t q → NoLater r (refusal t q)
  least_here n x rest r h f i j (more_parts a z) t q (here _ _ w) = h.least _ _ _ a t q w
  least_here n x rest r h f i j (more_parts a z) t q (there _ _ w) = apart r.rule t r.place q (misses_in h.is a) (among_in w (each_in z))

  pub refuse_here : (n : Need) (x : Expr) (rest : Asked) (r : Refusal) → RefusesOperand s n (out-Expr x) r → RefusesOne s ((n, x) ∷ rest) r
  refuse_here n x rest r h = record { is = here x rest h.is; least = least_here n x rest r h }

  least_there : (n : Need) (x : Expr) (rest : Asked) (r : Refusal) → Fit s n (out-Expr x) → RefusesOne s rest r
      → (f i j : ℕ) → AllPlaced f i j (exprs ((n, x) ∷ rest)) → (t : Rule) (q : Place) → Among s ((n, x) ∷ rest) t q → NoLater r (refusal t q)
  least_there n x rest r a h f i j (more_parts b z) t q (here _ _ w) = absurd (no_misses w a)
  least_there n x rest r a h f i j (more_parts b z) t q (there _ _ w) = h.least _ _ _ z t q w

  pub refuse_there : (n : Need) (x : Expr) (rest : Asked) (r : Refusal) → Fit s n (out-Expr x) → RefusesOne s rest r → RefusesOne s ((n, x) ∷ rest) r
  refuse_there n x rest r a h = record { is = there x rest h.is; least = least_there n x rest r a h }

  least_in : (x : Node) (r : Refusal) → RefusesOne s (asked s x) r → (f i j : ℕ) → Placed f i j x → (t : Rule) (q : Place) → Fault s x t q → NoLater r (refusal t q)
  least_in x r h f i j a t q (itself_wrong w) = absurd (no_among h.is (wrong_rests w))
  least_in x r h f i j a t q (in_operand _ w) = h.least _ _ _ (asked_placed s a).placed t q w

  pub refuse_in : (x : Node) (r : Refusal) → RefusesOne s (asked s x) r → Refuses s x r
  refuse_in x r h = record { is = in_operand x h.is; least = least_in x r h }

  least_wrong : (x : Node) (r : Rule) (p : Place) → Wrong s x r p → (f i j : ℕ) → Placed f i j x → (t : Rule) (q : Place) → Fault s x t q → NoLater (refusal r p) (refusal t q)
  least_wrong x r p w f i j a t q (itself_wrong v) = (let o = wrong_one w v in same_as r t p q o.rule o.place)
  least_wrong x r p w f i j a t q (in_operand _ v) = absurd (no_among v (wrong_rests w))

  pub refuse_wrong : (x : Node) (r : Rule) (p : Place) → Wrong s x r p → Refuses s x (refusal r p)
  refuse_wrong x r p w = record { is = itself_wrong w; least = least_wrong x r p w }

  -- ---- an operand
  least_leaf : (x : Node) (r : Refusal) → Refuses s x r → (f i j : ℕ) → Placed f i j x → (t : Rule) (q : Place) → Misses s leaf x t q → NoLater r (refusal t q)
  least_leaf x r h f i j a t q (leaf_faulty g) = h.least _ _ _ a t q g
  least_leaf x r h f i j a t q (leaf_missing b e) = absurd (no_fault_stands h.is b)
  least_leaf x r h f i j a t q (inconstant e g) = cc
  least_leaf x r h f i j a t q (unmet e u n) = cc

  pub refuse_leaf : (x : Node) (r : Refusal) → Refuses s x r → RefusesOperand s leaf x r
  refuse_leaf x r h = record { is = leaf_faulty h.is; least = least_leaf x r h }

  least_missing : (x : Node) (h : Thing) → Stands s x h → thing_leaf h ≡ None → (f i j : ℕ) → Placed f i j x → (t : Rule) (q : Place) → Misses s leaf x t q → NoLater (refusal rule.T8 (place_of x)) (refusal t q)
  least_missing x h b e f i j a t q (leaf_faulty g) = absurd (no_fault_stands g b)
  least_missing x h b e f i j a t q (leaf_missing c g) = same rule.T8 (place_of x)
  least_missing x h b e f i j a t q (inconstant g m) = cc
  least_missing x h b e f i j a t q (unmet g u n) = cc

  pub refuse_missing : (x : Node) (h : Thing) → Stands s x h → thing_leaf h ≡ None → RefusesOperand s leaf x (refusal rule.T8 (place_of x))
  refuse_missing x h b e = record { is = leaf_missing b e; least = least_missing x h b e }
