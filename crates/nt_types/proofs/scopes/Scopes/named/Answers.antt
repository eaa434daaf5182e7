use Rattle.std.proofs.Common.{◌≡◌, ℕ, List, [], ◌++◌, sym, ap, ◌∙◌, subst}
use Rattle.std.specs.Prelude.{option_map}
use Rattle.nt_value.specs.declared.place.Place.{Place}
use Rattle.nt_scopes.specs.declared.scope.Look.TheVariants as look
use Rattle.nt_scopes.specs.Means.{Names, Means, nowhere}
use Rattle.nt_types.specs.Units.{scope_by, scope_number}
use Rattle.nt_types.proofs.scopes.Scopes.named.Goals as goal

nowhere_told : (scopes : List Names) (at : Place) (name : List ℕ) (xs ys : List Names) → [] ≡ xs → [] ≡ ys → Means scopes at name (xs ++ ys) look.Unknown
nowhere_told scopes at name xs ys e f = subst (λ xs. Means scopes at name (xs ++ ys) look.Unknown) e (subst (λ ys. Means scopes at name ys look.Unknown) f nowhere)

pub returns-in-None-None : goal.returns-in-None-None
returns-in-None-None c =
    let scopes = c.args.self.now.scopes.items in
    nowhere_told scopes c.args.at c.args.path.now.name _ _
    (sym (ap (λ o. scope_by (option_map (λ s. s.now) o)) c.in-None-None.is-0) ∙ c.scope_at-inner.ensures ∙ ap (scope_number scopes) c.home_at.ensures)
    (sym (ap (λ o. scope_by (option_map (λ s. s.now) o)) c.in-None-None.is-1) ∙ c.scope_at-unit.ensures)
