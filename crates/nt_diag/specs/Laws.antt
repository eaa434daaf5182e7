-- Laws of the order of refusals.
use Rattle.std.specs.Prelude.{◌≡◌, ◌⊎◌}
use Rattle.nt_diag.specs.Order.{Found, FoundNoLater}

-- one phase, one rule, one file and one offset
pub record IsSameFault (f g : Found) : Type 0 where
  pub phase : f.phase ≡ g.phase
  pub rule : f.refusal.rule ≡ g.refusal.rule
  pub file : f.refusal.place.file ≡ g.refusal.place.file
  pub offset : f.refusal.place.offset ≡ g.refusal.place.offset

-- of two faults one stands no later than the other, and where each does they are one fault: so there is one refusal at most
pub record OneRefusal : Type 0 where
  pub total : (f g : Found) → FoundNoLater f g ⊎ FoundNoLater g f
  pub chain : (f g h : Found) → FoundNoLater f g → FoundNoLater g h → FoundNoLater f h
  pub one : (f g : Found) → FoundNoLater f g → FoundNoLater g f → IsSameFault f g
