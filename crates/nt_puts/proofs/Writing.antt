-- What a write leaves, by its form.
use Rattle.std.proofs.Common.{◌≡◌, ℕ, zero, suc, ◌≤◌, List, length, refl, ap, sym, ◌∙◌, arith}
use Rattle.std.specs.Prelude.{All}
use Rattle.std.proofs.lemmas.List.{length-map}
use Rattle.nt_value.specs.Digits.{IsFilled, LeafValue}
use Rattle.nt_value.specs.Values.{shape_of}
use Rattle.nt_value.specs.declared.leaf.Leaf.{Leaf}
use Rattle.nt_design.specs.Parts.{Value, with_leaves}
use Rattle.nt_design.specs.Puts.{PutInside, after_put, put_in}
use Rattle.nt_design.specs.declared.put.Put.{Put}
use Rattle.nt_semantics.proofs.ValueKeeps.{put_has}
use Rattle.nt_puts.specs.Placed.{digits_put}

-- whole leaves
pub by_leaves : (put : Put) (old : Value) (count : ℕ) → put.width ≡ 0 → count ≡ length put.value → with_leaves put.first count put.value old ≡ after_put put old
unfolding after_put
by_leaves put old count none long =
    ap (λ n. with_leaves put.first n put.value old) long ∙ ap (λ n. put_in put.first put.low n put.value old) (sym none)

-- some digits of a leaf
of_width : (first low width : ℕ) (new old : Value) → (width ≡ 0 → ⊥) → with_leaves first 1 (digits_put first low new old) old ≡ put_in first low width new old
of_width first low zero new old some = absurd (some refl)
of_width first low (suc n) new old some = refl

pub by_digits : (put : Put) (old leaf : Value) → (put.width ≡ 0 → ⊥) → leaf ≡ digits_put put.first put.low put.value old → with_leaves put.first 1 leaf old ≡ after_put put old
unfolding after_put
by_digits put old leaf some is =
    ap (λ l. with_leaves put.first 1 l old) is ∙ of_width put.first put.low put.width put.value old some

-- a variable keeps its leaves
pub few : (put : Put) (old leaf : Value) → All IsFilled old → PutInside (shape_of old) put.first put.low put.width put.value → (put.width ≡ 0 → ⊥) → leaf ≡ digits_put put.first put.low put.value old → length (with_leaves put.first 1 leaf old) ≤ length old
few put old leaf filled inside some is =
    let has = put_has put old (shape_of old) (record { leaves = refl; filled = filled }) inside in
    let long : length (with_leaves put.first 1 leaf old) ≡ length old =
    ap (λ (v : Value). length v) (by_digits put old leaf some is)
    ∙ (sym (length-map (after_put put old) (λ (x : LeafValue). x.leaf)) ∙ (ap (λ (l : List Leaf). length l) has.leaves ∙ length-map old (λ (x : LeafValue). x.leaf))) in
    omega (arith, long)
