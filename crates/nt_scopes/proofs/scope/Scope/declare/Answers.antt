use Rattle.std.proofs.Common.{sym, ap, ◌∙◌}
use Rattle.nt_scopes.specs.Means.{Names, added}
use Rattle.nt_scopes.proofs.Adding.{added_new}
use Rattle.nt_scopes.proofs.scope.Scope.declare.Goals as goal

pub returns-clause-names : goal.returns-clause-names
returns-clause-names c =
    let was = ap (λ (s : Names). s.names) c.self.view_is in
    added_new c.self.inside.entries.entries c.insert.new.self.entries c.args.name c.args.entry c.in_ok-insert.ensures.entries (sym c.contains_key.ensures ∙ c.if-contains_key.false)
    ∙ ap (λ names. added names c.args.name c.args.entry) was
