-- What a change of an object does to one procedure of a state (IEEE 1800-2017, 4.3).
use Rattle.std.specs.Prelude.{ℕ, length, slice_set}
use Rattle.nt_design.specs.declared.design.Design.{Design}
use Rattle.nt_design.specs.declared.object.Object.{Object}
use Rattle.nt_semantics.specs.State.{MachineState, count_at, each_below, standing_at, work_at}
use Rattle.nt_semantics.specs.Wake.{Waking, one_more_if, reads_at, standing_after, waking_at, work_after}

-- it stands where the change leads, and has that to do
abbrev pub led : ℕ → Waking → MachineState → MachineState
led p w s = record s {
  standings = slice_set s.standings p (standing_after (standing_at s p) w);
  work = slice_set s.work p (work_after (work_at s p) w);
}

abbrev pub woken_at : Design → Object → ℕ → MachineState → MachineState
woken_at d o p s = led p (waking_at d o s p) s

-- it does this to each procedure
abbrev pub procs_woken : Design → Object → MachineState → MachineState
procs_woken d o s = record s {
  standings = each_below (length s.standings) (λ p. standing_after (standing_at s p) (waking_at d o s p));
  work = each_below (length s.work) (λ p. work_after (work_at s p) (waking_at d o s p));
}

-- and each assignment that reads the object is to be evaluated once more
abbrev pub assigns_woken : Design → Object → MachineState → MachineState
assigns_woken d o s = record s {
  evaluations = each_below (length s.evaluations) (λ a. one_more_if (reads_at d o a) (count_at s.evaluations a));
}
