use Rattle.std.proofs.Common.{subst}
use Rattle.nt_typing.specs.Typing.{Stands}
use Rattle.nt_typed_stmts.specs.Lefts as l
use Rattle.nt_stmt_parts.proofs.Telling.{many_told, misled_told}
use Rattle.nt_stmt_parts.proofs.lefts.left_of.Goals as goal

pub returns-in-Many-clause-left : goal.returns-in-Many-clause-left
returns-in-Many-clause-left c = λ s x e h. many_told s x _ c.in-Many.element c.args.at _ c.in-Many.is c.refused.ensures e h

pub returns-in-Ok-clause-left : goal.returns-in-Ok-clause-left
returns-in-Ok-clause-left c = λ s x e h. l.left (subst (Stands s x) c.in-Value.is h) c.in-Ok.ensures

pub returns-clause-left : goal.returns-clause-left
returns-clause-left c = λ s x e h. misled_told s x _ c.in-Value.kind c.in-Value.tree c.in-Err.unfit c.args.at _ c.in-Value.is c.told_at.ensures e c.in-Err.ensures h
