use Rattle.std.proofs.Common.{List, ℕ, ap, length, arith}
use Rattle.nt_changes.proofs.Counting.{all_counted}
use Rattle.nt_changes.proofs.assigns.wake_assigns.Goals as goal

pub returns : goal.returns
returns c =
    let long = ap (λ (l : List ℕ). length l) c.evaluations.ensures in
    all_counted c.args.design.now c.args.object c.args.state.now c.loop-assign.state c.loop-assign.assign c.loop-assign.invariant (omega (arith, c.loop-assign-test.false, long))
