use Rattle.std.proofs.Common.{List, ap, length, map, arith}
use Rattle.nt_design.specs.WellFormed.{signature_of}
use Rattle.nt_semantics.specs.Wake.{functions_of}
use Rattle.nt_semantics.specs.declared.standing.Standing.{Standing}
use Rattle.nt_wake.specs.Typed.{HeadTyped}
use Rattle.nt_changes.proofs.Heads.{head_typed}
use Rattle.nt_changes.proofs.Turning.{all_woken, found, goes_on, still}
use Rattle.nt_changes.proofs.procs.wake_procs.Goals as goal

pub wake_proc-requires-clause-typed : goal.wake_proc-requires-clause-typed
wake_proc-requires-clause-typed c =
    let long = ap (λ (l : List Standing). length l) c.standings.ensures in
    let proc = found c.args.design.now.procs c.loop-proc.proc (omega (arith, c.loop-proc-test.true, long, c.requires.state.standings)) in
    still (HeadTyped (map signature_of c.args.design.now.functions) (functions_of c.args.design.now)) c.args.design.now c.args.object c.args.state.now c.loop-proc.state c.loop-proc.proc c.loop-proc.invariant
    (head_typed c.args.design.now c.requires.design c.args.state.now c.requires.state c.loop-proc.proc proc.0 proc.1)

pub loop-proc-preserved : goal.loop-proc-preserved
loop-proc-preserved c =
    let long = ap (λ (l : List Standing). length l) c.standings.ensures in
    goes_on c.args.design.now c.args.object c.args.state.now c.loop-proc.state c.wake_proc.new.state c.loop-proc.proc c.loop-proc.invariant
    (omega (arith, c.loop-proc-test.true, long)) (omega (arith, c.loop-proc-test.true, long, c.requires.state.standings, c.requires.state.work)) c.in_ok-wake_proc.ensures

pub returns : goal.returns
returns c =
    let long = ap (λ (l : List Standing). length l) c.standings.ensures in
    all_woken c.args.design.now c.args.object c.args.state.now c.loop-proc.state c.loop-proc.proc c.loop-proc.invariant
    (omega (arith, c.loop-proc-test.false, long)) (omega (arith, c.loop-proc-test.false, long, c.requires.state.standings, c.requires.state.work))
