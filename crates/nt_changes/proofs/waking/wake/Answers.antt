use Rattle.std.proofs.Common.{◌≤◌, ◌^◌, List, ℕ, ap, subst, sym}
use Rattle.nt_semantics.specs.State.{MachineState, count_at}
use Rattle.nt_semantics.specs.declared.event.Event.TheVariants.{Assign}
use Rattle.nt_changes.proofs.Counting.{woken_is}
use Rattle.nt_changes.proofs.waking.wake.Goals as goal

pub wake_assigns-requires-clause-few : goal.wake_assigns-requires-clause-few
wake_assigns-requires-clause-few c a =
    subst (λ (l : List ℕ). count_at l a ≤ 2 ^ 62) (sym (ap (λ (m : MachineState). m.evaluations) c.in_ok-wake_procs.ensures)) (c.requires.few (Assign a))

pub returns : goal.returns
returns c =
    woken_is c.args.design.now c.args.object c.args.state.now c.wake_procs.new.state c.wake_assigns.new.state c.in_ok-wake_procs.ensures c.wake_assigns.ensures
