use Rattle.std.proofs.Common.{None}
use Rattle.nt_own_names.proofs.Naming.{names_start, names_turn, names_end, ended}
use Rattle.nt_own_names.proofs.named.twice.Goals as goal

pub loop-name-init : goal.loop-name-init
loop-name-init c = names_start c.args.names.now _ c.new-scope.ensures.names

pub loop-name-preserved : goal.loop-name-preserved
loop-name-preserved c =
    names_turn c.name-item.result (record { from = None; number = 0 }) c.in_ok-is_again.is_again c.fault.result c.earlier-least.result c.loop-name-test.true c.name-item.is c.loop-name.invariant c.in_ok-is_again.ensures.is c.in_ok-is_again.ensures.names c.fault.ensures c.earlier-least.ensures

pub returns : goal.returns
returns c = names_end (ended _ _ c.loop-name.auto.name-index-end c.loop-name-test.false) c.loop-name.invariant
