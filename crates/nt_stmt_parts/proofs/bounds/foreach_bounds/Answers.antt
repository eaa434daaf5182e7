use Rattle.std.proofs.Common.{◌∙◌}
use Rattle.nt_stmt_parts.proofs.Telling.{bounds_are, no_bounds_told, unnamed_bounds}
use Rattle.nt_stmt_parts.proofs.bounds.foreach_bounds.Goals as goal

pub returns-in-Err : goal.returns-in-Err
returns-in-Err c = unnamed_bounds c.args.scope.now c.args.at c.args.array.now _ c.in-Err.unfit _ c.in_ok-copy.ensures c.in-Err.ensures c.told_at.ensures

pub returns : goal.returns
returns c =
    no_bounds_told c.args.scope.now c.args.at c.args.array.now c.in-Err-bounds_of.rule _
    (bounds_are c.args.scope.now c.args.at c.args.array.now _ _ _ c.in_ok-copy.ensures c.in-Ok.ensures c.bounds_of.ensures ∙ c.in-Err-bounds_of.is) c.refused.ensures
