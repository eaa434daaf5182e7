-- The leaves of types and of their parts.
use Rattle.std.proofs.Common.{◌≡◌, ◌≤◌, ℕ, zero, suc, ◌+◌, ◌*◌, ◌/◌, List, [], ◌∷◌, ◌++◌, length, take, drop, replicate, refl, ap, sym, subst, ◌∙◌, arith}
use Rattle.std.specs.Prelude.{Bool, true, false, ◌&&◌, Option, Some, ◌==◌, nat_eq, if◌then◌else◌}
use Rattle.std.specs.Bool.{beq}
use Rattle.std.specs.List.{flat_map}
use Rattle.std.specs.Cmp.Lexicographic.{pointwise}
use Rattle.std.proofs.lemmas.List.{length-append, append_assoc}
use Rattle.std.proofs.lemmas.List.Folds.{flat_map-map}
use Rattle.std.proofs.Math.Nat.{mul-div_cancel_left}
use Rattle.std.proofs.Math.Seq.{take-append_seam, drop-append_seam}
use Rattle.nt_value.specs.declared.leaf.Leaf.{Leaf}
use Rattle.nt_value.specs.declared.place.Place.{Place}
use Rattle.nt_design.specs.Parts.{leaves_at, leaves_each}
use Rattle.nt_design.specs.Shapes.{is_same_leaf, is_same_shape}
use Rattle.nt_kinds.specs.declared.kind.Kind.{Kind}
use Rattle.nt_kinds.specs.declared.kind.Kind.TheOpen.{Kind-F}
use Rattle.nt_kinds.specs.declared.kind.Kind.TheViews.{out-Kind}
use Rattle.nt_kinds.specs.declared.kind.Kind.TheFolds.{fold_out-Kind, map-Kind}
use Rattle.nt_kinds.specs.Kinds.{span, leaves, leaves_step}
use Rattle.nt_typing.specs.Kinds.{leaf_in, leaf_of, Found, found_from}

some_back : {A : Type 0} {a b : A} → Some a ≡ Some b → a ≡ b
some_back e = cc

pub opened : (k : Kind) → leaves k ≡ leaves_step (map-Kind Kind (List Leaf) leaves (out-Kind k))
unfolding leaves
opened k = fold_out-Kind (List Leaf) leaves_step k

one_at : (y : Kind-F Kind) (l : Leaf) → leaf_in y ≡ Some l → leaves_step (map-Kind Kind (List Leaf) leaves y) ≡ l ∷ []
one_at (Kind-F.One m a b) l h = ap (λ l. l ∷ []) (some_back h)
one_at (Kind-F.Struct at ms) l h = cc
one_at (Kind-F.Array a b e) l h = cc

pub one_leaves : (k : Kind) (l : Leaf) → leaf_of k ≡ Some l → leaves k ≡ l ∷ []
one_leaves k l h = opened k ∙ one_at (out-Kind k) l h

pub struct_leaves : (k : Kind) (at : Place) (ms : List (List ℕ × Kind)) → out-Kind k ≡ Kind-F.Struct at ms → leaves k ≡ flat_map (λ m. leaves m.1) ms
struct_leaves k at ms h =
    opened k ∙ ap (λ y. leaves_step (map-Kind Kind (List Leaf) leaves y)) h ∙ flat_map-map (λ (m : List ℕ × List Leaf). m.1) (λ (m : List ℕ × Kind). (m.0, leaves m.1)) ms

pub array_leaves : (k : Kind) (a b : ℕ) (e : Kind) → out-Kind k ≡ Kind-F.Array a b e → leaves k ≡ flat_map (λ s. s) (replicate (span a b) (leaves e))
array_leaves k a b e h = opened k ∙ ap (λ y. leaves_step (map-Kind Kind (List Leaf) leaves y)) h

-- ---- a member
pub record IsPart (f : Found) (all : List Leaf) : Type 0 where
  pub within : f.first + length (leaves f.kind) ≤ length all
  pub is : leaves_at f.first (length (leaves f.kind)) all ≡ leaves f.kind

part_here : (before here after : List Leaf) → take (length here) (drop (length before) (before ++ (here ++ after))) ≡ here
part_here before here after = ap (take (length here)) (drop-append_seam before (here ++ after)) ∙ take-append_seam here after

here_within : (before here after : List Leaf) → length before + length here ≤ length (before ++ (here ++ after))
here_within before here after = let e = length-append before (here ++ after) in let f = length-append here after in omega (arith, e, f)

found_either : (b : Bool) (m : List ℕ × Kind) (rest : Option Found) (before after : List Leaf) (first : ℕ) (f : Found) → first ≡ length before
    → (rest ≡ Some f → IsPart f (before ++ (leaves m.1 ++ after)))
    → (if b then Some (record { kind = m.1; first = first }) else rest) ≡ Some f
    → IsPart f (before ++ (leaves m.1 ++ after))
found_either true m rest before after first f e go h =
    let g : Found = record { kind = m.1; first = length before } in
    let part : IsPart g (before ++ (leaves m.1 ++ after)) =
    record { within = here_within before (leaves m.1) after; is = part_here before (leaves m.1) after } in
    let same : g ≡ f = ap (λ (n : ℕ). record { kind = m.1; first = n }) (sym e) ∙ some_back h in
    subst (λ f. IsPart f (before ++ (leaves m.1 ++ after))) same part
found_either false m rest before after first f e go h = go h

pub found_part : (ms : List (List ℕ × Kind)) (before : List Leaf) (first : ℕ) (name : List ℕ) (f : Found) → first ≡ length before
    → found_from first ms name ≡ Some f → IsPart f (before ++ flat_map (λ m. leaves m.1) ms)
found_part [] before first name f e h = cc
found_part (m ∷ ms) before first name f e h =
    let after = flat_map (λ (m : List ℕ × Kind). leaves m.1) ms in
    found_either (pointwise nat_eq m.0 name) m (found_from (first + length (leaves m.1)) ms name) before after first f e
    (λ h. subst (λ all. IsPart f all) (append_assoc before (leaves m.1) after)
    (found_part ms (before ++ leaves m.1) (first + length (leaves m.1)) name f (ap (λ n. n + length (leaves m.1)) e ∙ sym (length-append before (leaves m.1))) h))
    h

-- ---- an element
beq_same : (a : Bool) → beq a a ≡ true
beq_same true = refl
beq_same false = refl

num_same : (n : ℕ) → (n == n) ≡ true
num_same n = grind arith

and_both : (a b : Bool) → a ≡ true → b ≡ true → (a && b) ≡ true
and_both a b g h = cc

pub leaf_same : (a : Leaf) → is_same_leaf a a ≡ true
leaf_same a = and_both (a.width == a.width) (beq a.signed a.signed && beq a.four a.four) (num_same a.width) (and_both (beq a.signed a.signed) (beq a.four a.four) (beq_same a.signed) (beq_same a.four))

pub shape_same : (s : List Leaf) → is_same_shape s s ≡ true
shape_same [] = refl
shape_same (a ∷ s) = and_both (is_same_leaf a a) (is_same_shape s s) (leaf_same a) (shape_same s)

more_times : (n m : ℕ) → m + n * m ≡ suc n * m
more_times n m = grind arith

repeated_length : (n : ℕ) (s : List Leaf) → length (flat_map (λ s. s) (replicate n s)) ≡ n * length s
repeated_length zero s = omega arith
repeated_length (suc n) s =
    let e = length-append s (flat_map (λ s. s) (replicate n s)) in let f = repeated_length n s in
    e ∙ (ap (λ m. length s + m) f ∙ more_times n (length s))

mul_div : (n m : ℕ) → suc n * m / suc n ≡ m
mul_div n m = mul-div_cancel_left m (omega arith)

pub each_leaves : (n : ℕ) (s : List Leaf) → take (leaves_each (suc n) (flat_map (λ s. s) (replicate (suc n) s))) (flat_map (λ s. s) (replicate (suc n) s)) ≡ s
each_leaves n s =
    let e : leaves_each (suc n) (flat_map (λ s. s) (replicate (suc n) s)) ≡ length s = ap (λ m. m / suc n) (repeated_length (suc n) s) ∙ mul_div n (length s) in
    ap (λ m. take m (flat_map (λ s. s) (replicate (suc n) s))) e ∙ take-append_seam s (flat_map (λ s. s) (replicate n s))
