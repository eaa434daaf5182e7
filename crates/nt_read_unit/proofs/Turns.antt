-- Turns of the loops of src/, which count up.
use Rattle.std.proofs.Common.{◌≡◌, ℕ, ◌+◌, ◌-◌, ◌<◌, ◌≤◌, Bool, if◌then◌else◌, List, ◌++◌, Some, None, refl, ap, ◌∙◌}
use Rattle.nt_read_expr.specs.Tables.{Tokens}
use Rattle.nt_read_expr.specs.Reader.{Read, ◌>>=◌}
use Rattle.nt_read_expr.proofs.Basics.{one_and_more, no_and_one, bind_none, if_same, is_suc}
use Rattle.nt_read_unit.specs.Reader as r
use Rattle.nt_read_unit.specs.Reader.{groups_of, inside}

module _ {A : Type 0} (goes : Tokens → Bool) (group : Tokens → Read (List A)) where
  pub groups_turn : (end at : ℕ) (found : List A) (ts : Tokens) → at < end
      → groups_of goes group (end - at + 1) found ts
      ≡ (if goes ts then (group ts >>= λ p. groups_of goes group (end - (at + 1) + 1) (found ++ p.0) p.1) else Some (found, ts))
  unfolding groups_of
  groups_turn end at found ts lt = ap (λ f. groups_of goes group f found ts) (one_and_more end at lt)

  pub groups_end : (end at : ℕ) (found : List A) (ts : Tokens) → end ≤ at
      → groups_of goes group (end - at + 1) found ts ≡ (if goes ts then None else Some (found, ts))
  unfolding groups_of
  groups_end end at found ts le = ap (λ f. groups_of goes group f found ts) (no_and_one end at le) ∙ if_same (goes ts) _ None _ (bind_none (group ts))

pub inside_zero : (limit d : ℕ) (ts : Tokens) → d ≡ 0 → inside limit d ts ≡ None
unfolding inside
inside_zero limit d ts e = rw e refl

pub inside_suc : (limit d : ℕ) (ts : Tokens) → 0 < d → inside limit d ts ≡ r.structure limit (d - 1) (inside limit (d - 1)) ts
unfolding inside
inside_suc limit d ts lt = ap (λ n. inside limit n ts) (is_suc d lt)
