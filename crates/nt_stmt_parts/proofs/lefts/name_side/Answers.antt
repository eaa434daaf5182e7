use Rattle.std.proofs.Common.{refl}
use Rattle.nt_typed_stmts.specs.Tables.{name_node}
use Rattle.nt_things.proofs.Using.{stands_is}
use Rattle.nt_stmt_parts.proofs.Telling.{named, unnamed_told}
use Rattle.nt_stmt_parts.proofs.lefts.name_side.Goals as goal

pub left_of-requires : goal.left_of-requires
left_of-requires c = record { usable = stands_is c.requires.scope (named c.args.scope.now c.args.at c.args.name.now _ _ c.in_ok-copy.ensures c.in-Ok.ensures) }

pub returns-in-Ok-clause-left : goal.returns-in-Ok-clause-left
returns-in-Ok-clause-left c =
    c.left_of.ensures.left c.args.scope.now (name_node c.args.at c.args.name.now) refl (named c.args.scope.now c.args.at c.args.name.now _ _ c.in_ok-copy.ensures c.in-Ok.ensures)

pub returns-clause-left : goal.returns-clause-left
returns-clause-left c = unnamed_told c.args.scope.now c.args.at c.args.name.now _ c.in-Err.unfit _ c.in_ok-copy.ensures c.in-Err.ensures c.told_at.ensures
