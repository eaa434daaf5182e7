use Rattle.std.proofs.Common.{ap, ◌∙◌, map, ◌++◌, ◌∷◌, []}
use Rattle.nt_types.specs.Units.{packages_of, homes_from}
use Rattle.nt_types.proofs.Scoping.{whole_told, unit_moved}
use Rattle.nt_types.proofs.scopes.built.Goals as goal

pub returns : goal.returns
returns c =
    let now = map (λ x. x.now) in
    let unit = c.in_ok-unit.ensures in
    whole_told
    (c.in_ok-package.ensures ∙ ap packages_of (ap now c.deref-2.ensures.value ∙ unit))
    (c.in_ok-home.ensures ∙ ap (homes_from 1) (ap now c.deref.ensures.value ∙ unit))
    (unit_moved _ _ c.new-what.ensures c.new-inner.ensures.items (ap now c.deref-3.ensures.value ∙ unit) c.in_ok-first.ensures)
    (c.in_ok-push.ensures.items ∙ ap (λ ss. ss ++ c.in_ok-first.first ∷ []) c.new-all.ensures.items)
    c.in_ok-add_all.ensures
