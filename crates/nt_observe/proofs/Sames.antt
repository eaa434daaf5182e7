-- The same as no leaves at all.
use Rattle.std.proofs.lemmas.Bool.{ne_eqb}
use Rattle.std.proofs.Common.{suc, arith, ◌≡◌, ◌==◌, ◌∙◌, ap, length, Bool, true, false, [], ◌∷◌, refl}
use Rattle.nt_design.specs.Parts.{Value}
use Rattle.nt_semantics.specs.Same.{is_same}

pub none_none : true ≡ is_same [] []
unfolding is_same
none_none = refl

abbrev pub no_leaves : Value → Bool
no_leaves [] = true
no_leaves (x ∷ xs) = false

pub some_none : (v : Value) → no_leaves v ≡ is_same v []
unfolding is_same
some_none [] = refl
some_none (x ∷ xs) = refl

pub none_some : (v : Value) → no_leaves v ≡ is_same [] v
unfolding is_same
none_some [] = refl
none_some (x ∷ xs) = refl

counted : (v : Value) → (length v == 0) ≡ no_leaves v
counted [] = refl
counted (x ∷ xs) = ne_eqb (suc (length xs)) 0 (λ e. absurd (omega (arith, e)))

pub is_empty_of : (w v : Value) → w ≡ v → (b : Bool) → b ≡ (length w == 0) → b ≡ no_leaves v
is_empty_of w v e b f = f ∙ ap (λ (u : Value). length u == 0) e ∙ counted v
