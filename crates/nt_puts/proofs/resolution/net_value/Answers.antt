use Rattle.std.proofs.Common.{List, ap, sym, ◌∙◌}
use Rattle.nt_design.specs.Parts.{Value}
use Rattle.nt_design.specs.declared.object.NetKind.TheVariants.{Unresolved}
use Rattle.nt_semantics.specs.Step as step
use Rattle.nt_puts.proofs.resolution.net_value.Goals as goal

pub returns-in_ok-only_driver-in-Unresolved-clause-value :
    goal.returns-in_ok-only_driver-in-Unresolved-clause-value
returns-in_ok-only_driver-in-Unresolved-clause-value c =
    ap (λ k. step.net_value c.args.design.now k c.args.net.now.shape c.args.values) c.in-Unresolved.is
    ∙ (ap (λ (vs : List Value). step.net_value c.args.design.now Unresolved c.args.net.now.shape vs) (sym c.as_slice-in-Unresolved.ensures) ∙ c.in_ok-only_driver-in-Unresolved.ensures c.args.design.now)
