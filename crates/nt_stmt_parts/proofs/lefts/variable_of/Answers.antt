use Rattle.std.proofs.Common.{sym, subst}
use Rattle.nt_diag.specs.declared.rule.Rule.TheVariants as rule
use Rattle.nt_design.specs.declared.object.Object.TheVariants as object
use Rattle.nt_design.specs.declared.target.Target.TheVariants as target
use Rattle.nt_design.specs.declared.tree.Tree.TheOpen.{Tree-F}
use Rattle.nt_typed_stmts.specs.Lefts as l
use Rattle.nt_typed_stmts.specs.Lefts.{Reaches, Misled}
use Rattle.nt_stmt_parts.proofs.lefts.variable_of.Goals as goal

pub returns-in-Net : goal.returns-in-Net
returns-in-Net c = subst (λ o. Misled (Tree-F.Read o) rule.T10) (sym c.in-Net.is) (l.net _)

pub returns-in-Var : goal.returns-in-Var
returns-in-Var c =
    subst (λ o. Reaches (Tree-F.Read o) (target.Var c.in-Var.var c.new.result)) (sym c.in-Var.is)
    (subst (λ p. Reaches (Tree-F.Read (object.Var c.in-Var.var)) (target.Var c.in-Var.var p)) (sym c.new.ensures) (l.variable _))
