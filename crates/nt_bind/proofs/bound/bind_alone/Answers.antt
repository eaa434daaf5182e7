use Rattle.std.proofs.Common.{ap, sym, ◌∙◌}
use Rattle.nt_drafts.specs.declared.drafts.Draft.TheViews.{out-Draft}
use Rattle.nt_bind.specs.Binding.{own_context}
use Rattle.nt_bind.proofs.Finding.{alone_binds, alone_refuses}
use Rattle.nt_bind.proofs.bound.bind_alone.Goals as goal

pub returns-in-None : goal.returns-in-None
returns-in-None c = λ s x e h. alone_refuses s x c.args.draft c.args.at c.refused.result c.refused.ensures e h (ap (λ d. own_context (out-Draft d)) (sym c.get.ensures) ∙ sym c.in-None.ensures)

pub returns-in_ok-close-in-Some : goal.returns-in_ok-close-in-Some
returns-in_ok-close-in-Some c = λ s x e h. alone_binds c.args.draft c.in-Some.size _ c.in_ok-close-in-Some.ensures h (ap (λ d. own_context (out-Draft d)) (sym c.get.ensures) ∙ sym c.in-Some.ensures)
