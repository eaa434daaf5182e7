use Rattle.nt_typing.specs.Typing as ty
use Rattle.nt_typing.specs.Faults as fa
use Rattle.nt_forms.proofs.Finishing.{gives_usable}
use Rattle.nt_things.proofs.Using.{part_usable}
use Rattle.nt_ast.specs.declared.expr.Expr.TheOpen.{Expr-F}
use Rattle.std.proofs.Common.{sym, ◌∙◌}
use Rattle.nt_typing.specs.Tables.{part_of}
use Rattle.nt_drafts.proofs.Closed.{two}
use Rattle.nt_forms.proofs.selects.part_form.Goals as goal

pub finish-requires : goal.finish-requires
finish-requires c = gives_usable _ _ (λ h e. part_usable c.args.of h _ _ e) c.part_of.ensures

pub returns : goal.returns
returns c = λ s x y z b u v. c.finish.ensures s (Expr-F.Part c.args.at x y z) _ c.part_of.ensures (λ h g. ty.part c.args.at x y z b u.constant u.counts v.constant v.counts (sym (two (part_of c.args.of) u.is v.is) ∙ g)) (λ r g. fa.part c.args.at x y z b u.constant u.counts v.constant v.counts (sym (two (part_of c.args.of) u.is v.is) ∙ g))
