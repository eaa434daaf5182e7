-- The value that the call on constants gives is that of the expression by itself.
use Rattle.std.proofs.Common.{◌≡◌, suc, Bool, true, false, List, [], ◌∷◌, map, length, refl, sym, ap, subst, ◌∙◌}
use Rattle.std.specs.Prelude.{if◌then◌else◌, ◌-◌, None, Err}
use Rattle.nt_value.specs.Digits.{LeafValue, IsFilled, all_known}
use Rattle.nt_value.specs.Arithmetic.{padded, fill_of}
use Rattle.nt_value.specs.Logic.{truth_of}
use Rattle.nt_value.specs.Operators.{resize_of, unary_of, binary_of, choice_of, two_state}
use Rattle.nt_value.specs.declared.digit.Digit.{Digit}
use Rattle.nt_value.specs.declared.digit.Digit.TheVariants.{Zero, One, X, Z}
use Rattle.nt_value.specs.declared.leaf.Leaf.{Leaf}
use Rattle.nt_value.specs.declared.literal.Literal.{Literal}
use Rattle.nt_value.specs.declared.place.Place.{Place}
use Rattle.nt_value.proofs.Filled.{resize_filled, choice_filled}
use Rattle.nt_diag.specs.declared.rule.Rule.TheVariants as rule
use Rattle.nt_diag.specs.declared.refusal.Fault.{Fault as Failure}
use Rattle.nt_diag.specs.declared.refusal.Fault.TheVariants as fault
use Rattle.nt_ast.specs.Places.{Node, place_of}
use Rattle.nt_const.specs.Tables.{spreads, by_highest, with_sign, count_of, width_of, taken, indexed_of}
use Rattle.nt_const.specs.Rules.{Names, Within, literal_within, read_within, item_within, part_within, indexed_within, unary_within, binary_within, choose_within, concat_within, repeated_within, sign_within, Own, itself}
use Rattle.nt_const.specs.Tells.{Means, refusal}
use Rattle.nt_const.specs.Answers.{Evaluates}
use Rattle.nt_typing.specs.declared.scope.Scope.{Scope}
use Rattle.nt_typing.specs.Names.{constants}
use Rattle.nt_typing.specs.Constants.{Constant}
use Rattle.nt_typing.specs.Faults.{Need, is_constant, Meets}
use Rattle.nt_typing.specs.Places.{RefusesOperand}
use Rattle.nt_typing.proofs.LeastTo.{refuse_inconstant, refuse_unmet}
use Rattle.nt_forms.specs.Walks.{Lacks}

-- ---- what is resized to its own leaf stays
padded_same : (fill : Digit) (ds : List Digit) → padded (length ds) fill ds ≡ ds
padded_same fill [] = refl
padded_same fill (d ∷ ds) = ap (λ ds. d ∷ ds) (padded_same fill ds)

two_same : (ds : List Digit) → all_known ds ≡ true → map two_state ds ≡ ds
two_same [] h = refl
two_same (Zero ∷ ds) h = ap (λ ds. Zero ∷ ds) (two_same ds h)
two_same (One ∷ ds) h = ap (λ ds. One ∷ ds) (two_same ds h)
two_same (X ∷ ds) h = cc
two_same (Z ∷ ds) h = cc

states_same : (b : Bool) (ds : List Digit) → (b ≡ false → all_known ds ≡ true) → (if b then ds else map two_state ds) ≡ ds
states_same true ds h = refl
states_same false ds h = two_same ds (h refl)

value_same : (a : LeafValue) (ds : List Digit) → ds ≡ a.digits → (let b : LeafValue = record { leaf = a.leaf; digits = ds } in b) ≡ a
value_same a ds e = ap (λ (ds : List Digit). let b : LeafValue = record { leaf = a.leaf; digits = ds } in b) e

pub resize_same : (a : LeafValue) → IsFilled a → resize_of a a.leaf ≡ a
resize_same a h =
    let fill = fill_of a.leaf.signed a.digits in
    let p : padded a.leaf.width fill a.digits ≡ a.digits = ap (λ n. padded n fill a.digits) (sym h.long) ∙ padded_same fill a.digits in
    value_same a _ (ap (λ ds. if a.leaf.four then ds else map two_state ds) p ∙ states_same a.leaf.four a.digits h.two)

-- ---- a value has the leaf of its context
pub record Kept (c : Leaf) (v : LeafValue) : Type 0 where
  pub leaf : v.leaf ≡ c
  pub filled : IsFilled v

literal_by : (b : Bool) (v : Literal) (c : Leaf) → Kept c (if b then by_highest v.bits c else resize_of v.bits c)
literal_by true v c = record { leaf = refl; filled = resize_filled (resize_of v.bits (with_sign true c)) c }
literal_by false v c = record { leaf = refl; filled = resize_filled v.bits c }

resized : (v : LeafValue) (c : Leaf) → Kept c (resize_of v c)
resized v c = record { leaf = refl; filled = resize_filled v c }

choice_leaf_is : (d : Digit) (a b : LeafValue) (c : Leaf) → a.leaf ≡ c → b.leaf ≡ c → (choice_of d a b).leaf ≡ c
choice_leaf_is One a b c e f = e
choice_leaf_is Zero a b c e f = f
choice_leaf_is X a b c e f = e
choice_leaf_is Z a b c e f = e

pub kept : {k : Names} {x : Node} {c : Leaf} {v : LeafValue} → Within k x c v → Kept c v
kept (literal_within {c = c} at v) = literal_by (spreads v) v c
kept (read_within {c = c} at path b e) = resized b c
kept (item_within {c = c} {v = v} {i = i} at x y u w) = resized (indexed_of true v i 1) c
kept (part_within {c = c} {v = v} {a = a} {b = b} at x y z u w o) = resized (taken v (count_of b) (suc (count_of a) - count_of b)) c
kept (indexed_within {c = c} {v = v} {i = i} {n = n} at x y z up u w o) = resized (indexed_of up v i (width_of n)) c
kept (unary_within {c = c} {a = a} at op x g u) = resized (unary_of op a) c
kept (binary_within {c = c} {a = a} {b = b} at op x y g h u w) = resized (binary_of op a b) c
kept (choose_within {c = c} {d = d} {a = a} {b = b} at p x y o u w) =
    let g = kept u in let h = kept w in
    record { leaf = choice_leaf_is (truth_of d.digits) a b c g.leaf h.leaf; filled = choice_filled (truth_of d.digits) a b g.filled h.filled (g.leaf ∙ sym h.leaf) }
kept (concat_within {c = c} {v = v} at xs o e) = resized v c
kept (repeated_within {c = c} {w = w} at x xs u o e f) = resized w c
kept (sign_within {c = c} {a = a} at b x u) = resized a c

pub means_own : {k : Names} {x : Node} {v : LeafValue} → Means k x None v → Own k x v
means_own {k = k} {x = x} {v = v} m =
    let h = kept m.value_within in
    let e : v ≡ m.value = m.is ∙ ap (λ l. resize_of m.value l) (sym h.leaf) ∙ resize_same m.value h.filled in
    subst (Own k x) (sym e) (itself x m.alone m.value_within)

-- ---- bounds, counts, widths
pub constant_lacks : (n : Need) (s : Scope) (x : Node) (f : Failure) → is_constant n ≡ true → Evaluates (constants s) x None (Err f) → Lacks n s x f
constant_lacks n s x (fault.Refused r) c h = refuse_inconstant n x r c h
constant_lacks n s x (fault.OutOfMemory e) c h = tt

pub unmet_lacks : (n : Need) (s : Scope) (x : Node) (v : LeafValue) (at : Place) (f : Failure) → is_constant n ≡ true → Constant s x v → (Meets n v → ⊥) → f ≡ fault.Refused (refusal rule.T3 at) → at ≡ place_of x → Lacks n s x f
unmet_lacks n s x v at f c u m e p =
    subst (λ f. Lacks n s x f) (sym e) (subst (λ at. RefusesOperand s n x (refusal rule.T3 at)) (sym p) (refuse_unmet n x v c u m))
