use Rattle.std.proofs.Common.{sym}
use Rattle.nt_diag.specs.declared.rule.Rule.TheVariants as rule
use Rattle.nt_typing.specs.Faults.{base}
use Rattle.nt_forms.proofs.Seen.{seen_literal, seen_unary, seen_binary, seen_choose}
use Rattle.nt_forms.proofs.Asking.{drawn, lacks_at, flows_literal, flows_unary, flows_binary, flows_choose}
use Rattle.nt_forms.proofs.operands.base_of.Goals as goal

pub returns-in-Literal : goal.returns-in-Literal
returns-in-Literal c = λ s x e h. lacks_at base s x rule.T8 c.args.at c.refused.result c.refused.ensures e (flows_literal (drawn c.args.draft _ (seen_literal c.args.draft c.in-Literal.size c.in-Literal.value (sym c.in-Literal.ensures)) h))

pub returns-in-Unary : goal.returns-in-Unary
returns-in-Unary c = λ s x e h. lacks_at base s x rule.T8 c.args.at c.refused-in-Unary.result c.refused-in-Unary.ensures e (flows_unary (drawn c.args.draft _ (seen_unary c.args.draft c.in-Unary.size c.in-Unary.op c.in-Unary.inner c.in-Unary.of (sym c.in-Unary.ensures)) h))

pub returns-in-Binary : goal.returns-in-Binary
returns-in-Binary c = λ s x e h. lacks_at base s x rule.T8 c.args.at c.refused-in-Binary.result c.refused-in-Binary.ensures e (flows_binary (drawn c.args.draft _ (seen_binary c.args.draft c.in-Binary.size c.in-Binary.op c.in-Binary.first c.in-Binary.left c.in-Binary.second c.in-Binary.right (sym c.in-Binary.ensures)) h))

pub returns : goal.returns
returns c = λ s x e h. lacks_at base s x rule.T8 c.args.at c.refused-in-Choose.result c.refused-in-Choose.ensures e (flows_choose (drawn c.args.draft _ (seen_choose c.args.draft c.in-Choose.size c.in-Choose.test c.in-Choose.yes c.in-Choose.no (sym c.in-Choose.ensures)) h))
