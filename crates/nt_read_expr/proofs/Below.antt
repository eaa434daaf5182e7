-- The readers of the next depth.
use Rattle.std.proofs.Common.{◌≡◌, ℕ, suc, ◌-◌, ◌<◌, Bool, true, false, None, refl, ap, arith}
use Rattle.nt_read_expr.specs.Tables.{Tokens}
use Rattle.nt_read_expr.specs.Reader as r
use Rattle.nt_read_expr.specs.Reader.{below}

is_suc : (d : ℕ) → 0 < d → d ≡ suc (d - 1)
is_suc d lt = omega arith

module _ (limit : ℕ) where
  pub whole_zero : (d : ℕ) (ts : Tokens) → d ≡ 0 → (below limit d).whole ts ≡ None
  unfolding below
  whole_zero d ts e = rw e refl

  pub whole_suc : (d : ℕ) (ts : Tokens) → 0 < d → (below limit d).whole ts ≡ r.whole limit (below limit (d - 1)) ts
  unfolding below
  whole_suc d ts lt = ap (λ n. (below limit n).whole ts) (is_suc d lt)

  pub operand_zero : (d : ℕ) (ts : Tokens) → d ≡ 0 → (below limit d).operand ts ≡ None
  unfolding below
  operand_zero d ts e = rw e refl

  pub operand_suc : (d : ℕ) (ts : Tokens) → 0 < d → (below limit d).operand ts ≡ r.operand limit (below limit (d - 1)) ts
  unfolding below
  operand_suc d ts lt = ap (λ n. (below limit n).operand ts) (is_suc d lt)

  pub inner_zero : (d : ℕ) (only : Bool) (ts : Tokens) → d ≡ 0 → r.inner limit d only ts ≡ None
  inner_zero d true ts e = operand_zero d ts e
  inner_zero d false ts e = whole_zero d ts e

  pub inner_operand : (d : ℕ) (only : Bool) (ts : Tokens) → 0 < d → only ≡ true → r.inner limit d only ts ≡ r.operand limit (below limit (d - 1)) ts
  inner_operand d true ts lt e = operand_suc d ts lt
  inner_operand d false ts lt e = absurd cc

  pub inner_whole : (d : ℕ) (only : Bool) (ts : Tokens) → 0 < d → only ≡ false → r.inner limit d only ts ≡ r.whole limit (below limit (d - 1)) ts
  inner_whole d true ts lt e = absurd cc
  inner_whole d false ts lt e = whole_suc d ts lt
