-- Where digits begin, branch by branch.
use Rattle.std.proofs.Common.{◌≡◌, ℕ, zero, suc, ◌+◌, ◌-◌, ◌%◌, ◌^◌, ◌<◌, ◌==◌, nat_lt, nat_le, Bool, true, false, not, ◌&&◌, if◌then◌else◌, refl, sym, ◌∙◌, ap, arith}
use Rattle.std.proofs.lemmas.Bool.{leb-true}
use Rattle.nt_value.specs.declared.leaf.Leaf.{Leaf}
use Rattle.nt_value.specs.declared.operator.Binary.TheVariants.{Sub}
use Rattle.nt_design.specs.declared.tree.Tree.{Tree}
use Rattle.nt_design.specs.declared.tree.Tree.TheVariants as t
use Rattle.nt_typing.specs.Tables.{number_tree, widened, minus, from_top, less, indexed_low}

abbrev guards : Bool → Leaf → Bool
guards wraps m = wraps && (m.width == 64 && not m.signed)

abbrev pub chosen : Leaf → Tree → Tree → Tree
chosen m i low = t.Choose (t.Part i (number_tree m.four 63) 1) (number_tree m.four (2 ^ 62)) low

pub minus_guarded : (wraps : Bool) (m : Leaf) (i : Tree) (down : ℕ) → (down ≡ 0 → ⊥) → guards wraps m ≡ true → chosen m i (t.Binary Sub (widened m i) (number_tree m.four down)) ≡ minus wraps m i down
minus_guarded wraps m i zero some h = absurd (some refl)
minus_guarded wraps m i (suc down) some h =
    ap (λ (b : Bool). if b then chosen m i (t.Binary Sub (widened m i) (number_tree m.four (suc down))) else t.Binary Sub (widened m i) (number_tree m.four (suc down))) (sym h)

pub minus_plain : (wraps : Bool) (m : Leaf) (i : Tree) (down : ℕ) → (down ≡ 0 → ⊥) → guards wraps m ≡ false → t.Binary Sub (widened m i) (number_tree m.four down) ≡ minus wraps m i down
minus_plain wraps m i zero some h = absurd (some refl)
minus_plain wraps m i (suc down) some h =
    ap (λ (b : Bool). if b then chosen m i (t.Binary Sub (widened m i) (number_tree m.four (suc down))) else t.Binary Sub (widened m i) (number_tree m.four (suc down))) (sym h)

rising : (left right : ℕ) → left < right → nat_le right left ≡ false
rising left right low = of_test (nat_le right left) refl
  where
    of_test : (b : Bool) → nat_le right left ≡ b → nat_le right left ≡ false
    of_test true is = absurd (omega (arith, low, leb-true right left is))
    of_test false is = is

abbrev falling_low : ℕ → Bool → ℕ → Leaf → Tree → Tree
falling_low right up width m i =
    if up then minus (nat_lt 1 width) m i right else minus false m i (right + (width - 1))

abbrev rising_low : ℕ → Bool → ℕ → Leaf → Tree → Tree
rising_low right up width m i =
    if up then from_top (nat_lt 1 width) m i (less (suc right) width) else from_top false m i right

pub top_up : (left right width : ℕ) (up : Bool) (m : Leaf) (i : Tree) (x : ℕ) → left < right → up ≡ true → x ≡ less (suc right) width → from_top (nat_lt 1 width) m i x ≡ indexed_low left right up width m i
top_up left right width up m i x low is e =
    ap (λ n. from_top (nat_lt 1 width) m i n) e ∙ ap (λ u. rising_low right u width m i) (sym is) ∙ ap (λ (b : Bool). if b then falling_low right up width m i else rising_low right up width m i) (sym (rising left right low))

pub top_down : (left right width : ℕ) (up : Bool) (m : Leaf) (i : Tree) (x : ℕ) → left < right → up ≡ false → x ≡ right → from_top false m i x ≡ indexed_low left right up width m i
top_down left right width up m i x low is e =
    ap (λ n. from_top false m i n) e ∙ ap (λ u. rising_low right u width m i) (sym is) ∙ ap (λ (b : Bool). if b then falling_low right up width m i else rising_low right up width m i) (sym (rising left right low))

pub top_is : (r right width : ℕ) → r ≡ right → ((r + 1) + (2 ^ 64 - width)) % 2 ^ 64 ≡ less (suc right) width
top_is r right width e = ap (λ k. (k + (2 ^ 64 - width)) % 2 ^ 64) (omega (arith, e))
