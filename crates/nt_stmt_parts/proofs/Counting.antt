-- How many values a text takes after one more.
use Rattle.std.proofs.Common.{◌≡◌, ℕ, false, refl, arith}
use Rattle.std.specs.Prelude.{Option, Some, None, ◌-◌}
use Rattle.nt_typed_stmts.specs.Tables.{is_taken, one_more}

pub none_left : (o : Option ℕ) (n : ℕ) → n ≡ 0 → is_taken (one_more o) n ≡ false
none_left None n e = refl
none_left (Some m) n e = grind arith

pub one_left : (o : Option ℕ) (n : ℕ) → (n ≡ 0 → ⊥) → is_taken (one_more o) n ≡ is_taken o (n - 1)
one_left None n e = refl
one_left (Some m) n e = grind arith
