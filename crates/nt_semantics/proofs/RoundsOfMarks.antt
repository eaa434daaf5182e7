-- The same design in rounds: what the definition of a round takes, in what order.
use Rattle.std.proofs.Common.{◌≡◌, ℕ, suc, List, [], ◌∷◌, refl, ap, ◌∙◌}
use Rattle.std.specs.Prelude.{true, false, Some, None}
use Rattle.nt_design.specs.declared.design.Design.{Design}
use Rattle.nt_semantics.proofs.Marks.{two_drivers, m0, m1, m2, m3, m5, m6, starts, step0, step1, step2, step3, step4}
use Rattle.nt_semantics.specs.Execution.{is_active, enter}
use Rattle.nt_semantics.specs.Rounds.{Away, none_away, PhaseEnd, RoundState, Mark, Idle, start_rounds, round, phase, next, next_region, next_slot, declared_order, entry_of, marks_of, and_before, next_ready, away_after, net_entry}
use Rattle.nt_semantics.specs.declared.process.Process.{Process}
use Rattle.nt_semantics.specs.declared.process.Process.TheVariants.{Procedure, Assignment}
use Rattle.nt_semantics.specs.Same.{is_same}
use Rattle.nt_semantics.specs.State.{MachineState}
use Rattle.nt_semantics.specs.declared.event.Event.TheVariants.{Stmt, Assign, Resolve}
use Rattle.nt_semantics.specs.declared.event.Entry.{Entry}

-- all three processes use one variable
abbrev groups : List (List Process)
groups = (Procedure 0 ∷ Assignment 0 ∷ Assignment 1 ∷ []) ∷ []

abbrev at_start : RoundState
at_start = record { state = m0; ready = groups; away = none_away; begun = false }

starts_ready : start_rounds two_drivers groups ≡ at_start
starts_ready = rw starts refl

-- one entry of a phase
-- the procedure is delayed to moment 1
abbrev delayed : Away
delayed = record { inactive = []; later = (1, 0 ∷ []) ∷ [] }

phase_one : (n : ℕ) (d : Design) (s t : MachineState) (x : Process) (xs : List Process) (away : Away) → enter d s (entry_of d s x) ≡ Some t → phase (suc n) d s (x ∷ xs) away ≡ and_before (entry_of d s x) (marks_of d s t x) (phase n d t (next_ready d s t x xs) (away_after t x away))
unfolding phase
phase_one n d s t x xs away is = rw is refl

enters0 : enter two_drivers m0 (entry_of two_drivers m0 (Procedure 0)) ≡ Some m1
enters0 = rw step0 refl

enters1 : enter two_drivers m1 (entry_of two_drivers m1 (Assignment 0)) ≡ Some m2
enters1 = rw step1 refl

enters2 : enter two_drivers m2 (entry_of two_drivers m2 (Assignment 1)) ≡ Some m3
enters2 = rw step2 refl

-- both pending resolutions as one entry
enters3 : enter two_drivers m3 (net_entry m3 0 (declared_order two_drivers 0)) ≡ Some m5
enters3 = rw (step3, step4) refl

abbrev statement : Entry
statement = record { event = Stmt 0; count = 1 }

abbrev first : Entry
first = record { event = Assign 0; count = 1 }

abbrev second : Entry
second = record { event = Assign 1; count = 1 }

abbrev resolution : Entry
resolution = record { event = Resolve 0 (0 ∷ 1 ∷ []); count = 2 }

abbrev mark : Mark
mark = record { net = 0; slot = 1 }

abbrev phase_end : PhaseEnd
phase_end = record {
  state = m3;
  ready = [];
  away = delayed;
  marks = mark ∷ [];
  entries = statement ∷ first ∷ second ∷ [];
  how = Idle;
}

phase_is : (n : ℕ) → phase (suc (suc (suc n))) two_drivers m0 (Procedure 0 ∷ Assignment 0 ∷ Assignment 1 ∷ []) none_away ≡ phase_end
unfolding phase is_same
phase_is n =
    phase_one (suc (suc n)) two_drivers m0 m1 (Procedure 0) (Assignment 0 ∷ Assignment 1 ∷ []) none_away enters0
    ∙ (ap (and_before statement []) (phase_one (suc n) two_drivers m1 m2 (Assignment 0) (Assignment 1 ∷ []) delayed enters1)
    ∙ ap (λ r. and_before statement [] (and_before first [] r)) (phase_one n two_drivers m2 m3 (Assignment 1) [] delayed enters2))

abbrev after_one : RoundState
after_one = record { state = m5; ready = [] ∷ []; away = delayed; begun = true }

pub one_round : round two_drivers groups (declared_order two_drivers) at_start ≡ record { after = after_one; entries = statement ∷ first ∷ second ∷ resolution ∷ []; too_long = None }
unfolding round is_same
one_round = rw (phase_is 1021, enters3) refl

-- the next slot begins, and the procedure that was delayed is on its list
pub next_is : next 1 two_drivers groups (declared_order two_drivers) after_one ≡ Some (record { after = record { state = m6; ready = (Procedure 0 ∷ []) ∷ []; away = none_away; begun = true }; entries = []; too_long = None })
unfolding next next_region next_slot is_active
next_is = refl
