use Rattle.nt_named_types.specs.Judged.{none}
use Rattle.nt_named_types.proofs.Judging.{added_more}
use Rattle.nt_named_types.proofs.table.Table.open.Goals as goal

pub loop-what-init : goal.loop-what-init
loop-what-init c = rw c.new-table.ensures none

pub loop-what-preserved : goal.loop-what-preserved
loop-what-preserved c = added_more _ c.loop-what.what-index c.what-item.result c.loop-what-test.true c.what-item.is c.loop-what.invariant c.in_ok-add.ensures
