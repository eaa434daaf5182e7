-- Facts on the tables of units and words.
use Rattle.std.proofs.Common.{◌≡◌, ℕ, ◌≤◌, Bool, true, false, cond, nat_lt, ◌&&◌, List, [], ◌∷◌, Option, Some, refl, arith}
use Rattle.std.specs.Prelude.{IfSome}
use Rattle.std.specs.List.{list_all}
use Rattle.std.specs.Str.{bytes_eq}
use Rattle.std.proofs.lemmas.Bool.{ltb-true}
use Rattle.nt_lexer.specs.Bytes.{Bytes}
use Rattle.nt_lexer.specs.Spellings.{tens}
use Rattle.nt_lexer.specs.Directives.{named}

abbrev are_small : List (Bytes × ℕ) → Bool
are_small table = list_all (λ e. nat_lt e.1 3) table

tens_small : are_small tens ≡ true
unfolding tens
tens_small = refl

and_both : (a b : Bool) → (a && b) ≡ true → (a ≡ true) × (b ≡ true)
and_both true b e = (refl, e)
and_both false b e = absurd cc

small_by : (n : ℕ) (rest : Option ℕ) (t : Bool) → nat_lt n 3 ≡ true → IfSome rest (λ m. m ≤ 2) → IfSome (cond t (Some n) rest) (λ m. m ≤ 2)
small_by n rest true e i = omega (arith, ltb-true n 3 e)
small_by n rest false e i = i

found_small : (table : List (Bytes × ℕ)) (text : Bytes) → are_small table ≡ true → IfSome (named table text) (λ m. m ≤ 2)
found_small [] text e = tt
found_small (x ∷ xs) text e =
    let both = and_both (nat_lt x.1 3) (are_small xs) e in
    small_by x.1 (named xs text) (bytes_eq x.0 text) both.0 (found_small xs text both.1)

pub ten_small : (text : Bytes) → IfSome (named tens text) (λ m. m ≤ 2)
ten_small text = found_small tens text tens_small
