-- A path has one meaning inside a function, and the function of specs/ gives it.
use Rattle.std.proofs.Common.{◌≡◌, ℕ, suc, ◌+◌, ◌<◌, ◌≤◌, Bool, true, false, cond, List, [], ◌∷◌, ◌++◌, drop, take, length, get_or, refl, sym, ap, ◌∙◌, subst, arith, add-one}
use Rattle.std.specs.Prelude.{Option, Some, None, MatchOption}
use Rattle.std.specs.Map.{lookup}
use Rattle.std.specs.Str.{bytes_eq}
use Rattle.nt_value.specs.declared.place.Place.{Place}
use Rattle.nt_ast.specs.declared.path.Path.{Path}
use Rattle.nt_scopes.specs.declared.scope.Entry.{Entry}
use Rattle.nt_scopes.specs.declared.scope.Look.{Look}
use Rattle.nt_scopes.specs.Choices.{IsFound}
use Rattle.nt_scopes.specs.Means.{counts, Declares, declares}
use Rattle.nt_types.specs.Units.{UnitScopes, MeansAt}
use Rattle.nt_types.specs.Looks.{look_at, held_by, held_in}
use Rattle.nt_types.proofs.Finding.{held_is, path_is, found}
use Rattle.nt_bodies.specs.declared.body.Inside.{Inside}
use Rattle.nt_bodies.specs.declared.body.Inside.TheVariants as inside
use Rattle.nt_bodies.specs.Bodies.{innermost, MeansInside, of_loop, of_function, outside, of_package, own_or, loop_or, inside_by, inside_at}

held_here : {own : List (List ℕ × Entry)} {at : Place} {name : List ℕ} {t : ℕ} → Declares own at name t → held_in own at name ≡ Some t
held_here {at = at} (declares e p c) = ap (λ o. held_by o at) p ∙ ap (λ b. cond b (Some e.number) None) c

not_held : {P : ℕ → Type 0} (o : Option ℕ) → IsFound P o → IsFound P None → o ≡ None
not_held None f none = refl
not_held (Some t) f none = absurd (none t f)

pub inside_found : {s : UnitScopes} {own : List (List ℕ × Entry)} {loops : List (List ℕ)} {path : Path} {x : Inside} → MeansInside s own loops path x → x ≡ inside_at s own loops path
inside_found {s = s} {own = own} {loops = loops} {path = path} (of_loop k e f) = sym (ap (inside_by s own loops path) e ∙ ap (loop_or s own path) f)
inside_found {s = s} {own = own} {loops = loops} {path = path} (of_function t e f d) = sym (ap (inside_by s own loops path) e ∙ ap (loop_or s own path) f ∙ ap (own_or s path) (held_here d))
inside_found {s = s} {own = own} {loops = loops} {path = path} (outside l e f none m) =
    ap inside.Outside (found m)
    ∙ sym (ap (inside_by s own loops path) e ∙ ap (loop_or s own path) f ∙ ap (own_or s path) (not_held {P = Declares own path.at path.name} (held_in own path.at path.name) (held_is own path.at path.name) none))
inside_found {s = s} {own = own} {loops = loops} {path = path} (of_package l scope e m) = ap inside.Outside (found m) ∙ sym (ap (inside_by s own loops path) e)

pub one : (s : UnitScopes) (own : List (List ℕ × Entry)) (loops : List (List ℕ)) (path : Path) (a b : Inside) → MeansInside s own loops path a → MeansInside s own loops path b → a ≡ b
one s own loops path a b m n = inside_found m ∙ sym (inside_found n)

own_is : (s : UnitScopes) (own : List (List ℕ × Entry)) (loops : List (List ℕ)) (path : Path) (o : Option ℕ) → path.scope ≡ None → innermost loops path.name ≡ None → IsFound (Declares own path.at path.name) o
    → MeansInside s own loops path (own_or s path o)
own_is s own loops path None e f h = outside (look_at s path) e f h (path_is s path)
own_is s own loops path (Some t) e f h = of_function t e f h

loop_is : (s : UnitScopes) (own : List (List ℕ × Entry)) (loops : List (List ℕ)) (path : Path) (o : Option ℕ) → path.scope ≡ None → innermost loops path.name ≡ o → MeansInside s own loops path (loop_or s own path o)
loop_is s own loops path None e f = own_is s own loops path (held_in own path.at path.name) e f (held_is own path.at path.name)
loop_is s own loops path (Some k) e f = of_loop k e f

scope_is : (s : UnitScopes) (own : List (List ℕ × Entry)) (loops : List (List ℕ)) (path : Path) (o : Option (List ℕ)) → path.scope ≡ o → MeansInside s own loops path (inside_by s own loops path o)
scope_is s own loops path None e = loop_is s own loops path (innermost loops path.name) e refl
scope_is s own loops path (Some scope) e = of_package (look_at s path) scope e (path_is s path)

pub inside_is : (s : UnitScopes) (own : List (List ℕ × Entry)) (loops : List (List ℕ)) (path : Path) → MeansInside s own loops path (inside_at s own loops path)
inside_is s own loops path = scope_is s own loops path path.scope refl
