use Rattle.std.proofs.Common.{get_or}
use Rattle.std.proofs.lemmas.Option.{slice_get-get_or}
use Rattle.nt_interconnect.specs.declared.types.SegmentKind.TheVariants as kind
use Rattle.nt_interconnect.proofs.Joining.{none_yet, goes_on, stops}
use Rattle.nt_interconnect.proofs.types.type_of_class.Goals as goal

pub loop-at-init : goal.loop-at-init
loop-at-init c = none_yet c.args.kinds.now

pub returns-in-Err : goal.returns-in-Err
returns-in-Err c =
    let kinds = c.args.kinds.now in
    let at = c.loop-at.at in
    stops kinds c.loop-at.found (get_or kinds at kind.Interconnect) (record { rule = c.in-Err.rule; segment = at }) (slice_get-get_or kinds at kind.Interconnect c.loop-at-test.true) c.loop-at.invariant c.in-Err.ensures

pub loop-at-preserved : goal.loop-at-preserved
loop-at-preserved c =
    let kinds = c.args.kinds.now in
    let at = c.loop-at.at in
    goes_on kinds at c.loop-at.found c.in-Ok.next (get_or kinds at kind.Interconnect) (slice_get-get_or kinds at kind.Interconnect c.loop-at-test.true) c.loop-at.invariant c.in-Ok.ensures
