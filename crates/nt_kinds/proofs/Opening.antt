-- Leaves and levels of a type by its first node.
use Rattle.std.proofs.Common.{◌≡◌, ℕ, suc, List, [], ◌∷◌, map, replicate, refl, ap, ◌∙◌}
use Rattle.std.specs.List.{flat_map}
use Rattle.std.proofs.lemmas.List.Folds.{flat_map-map}
use Rattle.nt_value.specs.declared.leaf.Leaf.{Leaf}
use Rattle.nt_value.specs.declared.place.Place.{Place}
use Rattle.nt_kinds.specs.declared.kind.Kind.{Kind}
use Rattle.nt_kinds.specs.declared.kind.Kind.TheOpen.{Kind-F}
use Rattle.nt_kinds.specs.declared.kind.Kind.TheVariants as k
use Rattle.nt_kinds.specs.declared.kind.Kind.TheViews.{out-Kind, roll-Kind, out-roll-Kind}
use Rattle.nt_kinds.specs.declared.kind.Kind.TheFolds.{fold-Kind, fold_out-Kind, fold-roll-Kind, map-Kind}
use denote.Hole.Carrier.{roll}
use Rattle.nt_kinds.specs.Kinds.{span, leaves, leaves_step, member_leaves, levels, levels_step, greatest, deepest}

pub leaves_out : (x : Kind) → leaves x ≡ leaves_step (map-Kind Kind (List Leaf) leaves (out-Kind x))
unfolding leaves
leaves_out x = fold_out-Kind (List Leaf) leaves_step x

pub leaves_one : (l : Leaf) (a b : ℕ) → leaves (k.One l a b) ≡ l ∷ []
unfolding leaves roll-Kind roll
leaves_one l a b = fold-roll-Kind (List Leaf) leaves_step (Kind-F.One l a b)

pub leaves_struct : (at : Place) (ms : List (List ℕ × Kind)) → leaves (k.Struct at ms) ≡ member_leaves ms
unfolding leaves roll-Kind roll
leaves_struct at ms = fold-roll-Kind (List Leaf) leaves_step (Kind-F.Struct at ms) ∙ flat_map-map (λ (m : List ℕ × List Leaf). m.1) (λ (m : List ℕ × Kind). (m.0, fold-Kind (List Leaf) leaves_step m.1)) ms

pub leaves_array : (a b : ℕ) (x : Kind) → leaves (k.Array a b x) ≡ flat_map (λ s. s) (replicate (span a b) (leaves x))
unfolding leaves roll-Kind roll
leaves_array a b x = fold-roll-Kind (List Leaf) leaves_step (Kind-F.Array a b x)

deepest_of : (ms : List (List ℕ × Kind)) (f : Kind → ℕ) → greatest (map (λ (m : List ℕ × ℕ). m.1) (map (λ (m : List ℕ × Kind). (m.0, f m.1)) ms)) ≡ greatest (map (λ (m : List ℕ × Kind). f m.1) ms)
deepest_of [] f = refl
deepest_of (m ∷ ms) f = ap (Rattle.std.specs.Prelude.max (f m.1)) (deepest_of ms f)

pub levels_one : (l : Leaf) (a b : ℕ) → levels (k.One l a b) ≡ 0
unfolding levels roll-Kind roll
levels_one l a b = fold-roll-Kind ℕ levels_step (Kind-F.One l a b)

pub levels_struct : (at : Place) (ms : List (List ℕ × Kind)) → levels (k.Struct at ms) ≡ suc (deepest ms)
unfolding levels roll-Kind roll
levels_struct at ms = fold-roll-Kind ℕ levels_step (Kind-F.Struct at ms) ∙ ap suc (deepest_of ms (fold-Kind ℕ levels_step))

pub levels_array : (a b : ℕ) (x : Kind) → levels (k.Array a b x) ≡ suc (levels x)
unfolding levels roll-Kind roll
levels_array a b x = fold-roll-Kind ℕ levels_step (Kind-F.Array a b x)

pub ruleset equations = (leaves_one, leaves_struct, leaves_array, levels_one, levels_struct, levels_array)

pub out_one : (l : Leaf) (a b : ℕ) → out-Kind (k.One l a b) ≡ Kind-F.One l a b
unfolding roll-Kind roll
out_one l a b = out-roll-Kind (Kind-F.One l a b)

pub out_struct : (at : Place) (ms : List (List ℕ × Kind)) → out-Kind (k.Struct at ms) ≡ Kind-F.Struct at ms
unfolding roll-Kind roll
out_struct at ms = out-roll-Kind (Kind-F.Struct at ms)

pub out_array : (a b : ℕ) (x : Kind) → out-Kind (k.Array a b x) ≡ Kind-F.Array a b x
unfolding roll-Kind roll
out_array a b x = out-roll-Kind (Kind-F.Array a b x)

-- and of any type by its first node
pub struct_leaves : (x : Kind) (at : Place) (ms : List (List ℕ × Kind)) → out-Kind x ≡ Kind-F.Struct at ms → leaves x ≡ member_leaves ms
struct_leaves x at ms h =
    leaves_out x ∙ ap (λ y. leaves_step (map-Kind Kind (List Leaf) leaves y)) h ∙ flat_map-map (λ (m : List ℕ × List Leaf). m.1) (λ (m : List ℕ × Kind). (m.0, leaves m.1)) ms

pub array_leaves : (x : Kind) (a b : ℕ) (e : Kind) → out-Kind x ≡ Kind-F.Array a b e → leaves x ≡ flat_map (λ s. s) (replicate (span a b) (leaves e))
array_leaves x a b e h = leaves_out x ∙ ap (λ y. leaves_step (map-Kind Kind (List Leaf) leaves y)) h

pub one_leaves : (x : Kind) (l : Leaf) (a b : ℕ) → out-Kind x ≡ Kind-F.One l a b → leaves x ≡ l ∷ []
one_leaves x l a b h = leaves_out x ∙ ap (λ y. leaves_step (map-Kind Kind (List Leaf) leaves y)) h

levels_out : (x : Kind) → levels x ≡ levels_step (map-Kind Kind ℕ levels (out-Kind x))
unfolding levels
levels_out x = fold_out-Kind ℕ levels_step x

pub array_levels : (x : Kind) (a b : ℕ) (e : Kind) → out-Kind x ≡ Kind-F.Array a b e → levels x ≡ suc (levels e)
array_levels x a b e h = levels_out x ∙ ap (λ y. levels_step (map-Kind Kind ℕ levels y)) h
