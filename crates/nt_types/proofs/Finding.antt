-- The function of what a path means gives what it means.
use Rattle.std.proofs.Common.{◌≡◌, ℕ, zero, suc, ◌⊎◌, inl, inr, Bool, true, false, cond, List, [], ◌∷◌, length, slice_get, refl, sym, ap, subst, arith}
use Rattle.std.specs.Prelude.{Option, Some, None, ◌&&◌}
use Rattle.std.specs.Map.{lookup}
use Rattle.std.specs.Str.{bytes_eq}
use Rattle.std.proofs.lemmas.Bool.{cases_Bool}
use Rattle.nt_value.specs.declared.place.Place.{Place}
use Rattle.nt_ast.specs.declared.path.Path.{Path}
use Rattle.nt_scopes.specs.declared.scope.Entry.{Entry}
use Rattle.nt_scopes.specs.declared.scope.Import.{Import}
use Rattle.nt_scopes.specs.declared.scope.Look.{Look}
use Rattle.nt_scopes.specs.declared.scope.Look.TheVariants as look
use Rattle.nt_scopes.specs.Choices.{Among, among, IsFound, Choice, both}
use Rattle.nt_scopes.specs.Means.{Names, is_before, counts, is_import_of, Declares, Gives, ImportedIn, MeansIn, own, by_name as named_in, by_wildcard, Means, here, further, nowhere, MeansOf, of_package}
use Rattle.nt_scopes.proofs.Choosing.{both_choices, same_choice}
use Rattle.nt_scopes.proofs.Looking.{held_none, held_some, held_later, import_one, import_none, import_other, import_later, import_nowhere, of_none, of_missing}
use Rattle.nt_types.specs.Units.{UnitScopes, chain_at, MeansAt, by_name, by_package, no_package, later_package}
use Rattle.nt_types.specs.Looks.{held_by, held_in, one_look, package_look, import_look, imports_look, or_look, look_in, look_through, look_package, look_path, look_at}
use Rattle.nt_types.proofs.Paths.{one_path}

-- ---- declarations
held_entry : (names : List (List ℕ × Entry)) (at : Place) (name : List ℕ) (e : Entry) → lookup (bytes_eq name) names ≡ Some e → IsFound (Declares names at name) (held_by (Some e) at)
held_entry names at name e p = elim (cases_Bool (counts e.from at)) [
  | inl t ↦ subst (λ o. IsFound (Declares names at name) o) (sym (ap (λ b. cond b (Some e.number) None) t)) (held_some e p t)
  | inr f ↦ subst (λ o. IsFound (Declares names at name) o) (sym (ap (λ b. cond b (Some e.number) None) f)) (λ t d. held_later e p f t d)
]

held_at : (names : List (List ℕ × Entry)) (at : Place) (name : List ℕ) (o : Option Entry) → lookup (bytes_eq name) names ≡ o → IsFound (Declares names at name) (held_by o at)
held_at names at name None e = λ t d. held_none e t d
held_at names at name (Some e) p = held_entry names at name e p

pub held_is : (names : List (List ℕ × Entry)) (at : Place) (name : List ℕ) → IsFound (Declares names at name) (held_in names at name)
held_is names at name = held_at names at name (lookup (bytes_eq name) names) refl

-- ---- imports
from_package : (scopes : List Names) (at : Place) (name : List ℕ) (w : Bool) (i : Import) (p : Names) (o : Option ℕ) → is_import_of w name i.name ≡ true → is_before i.at at ≡ true → slice_get scopes i.package ≡ Some p
    → IsFound (Declares p.names at name) o → Choice (Gives scopes at name w i) (one_look o)
from_package scopes at name w i p None a b e f = λ t g. import_none p e f t g
from_package scopes at name w i p (Some t) a b e f = import_one p t a b e f

from_scope : (scopes : List Names) (at : Place) (name : List ℕ) (w : Bool) (i : Import) (o : Option Names) → is_import_of w name i.name ≡ true → is_before i.at at ≡ true → slice_get scopes i.package ≡ o
    → Choice (Gives scopes at name w i) (package_look o at name)
from_scope scopes at name w i None a b e = λ t g. import_nowhere e t g
from_scope scopes at name w i (Some p) a b e = from_package scopes at name w i p (held_in p.names at name) a b e (held_is p.names at name)

from_import : (scopes : List Names) (at : Place) (name : List ℕ) (w : Bool) (i : Import) (a b : Bool) → is_import_of w name i.name ≡ a → is_before i.at at ≡ b
    → Choice (Gives scopes at name w i) (cond (a && b) (package_look (slice_get scopes i.package) at name) look.Unknown)
from_import scopes at name w i true true e f = from_scope scopes at name w i (slice_get scopes i.package) e f refl
from_import scopes at name w i true false e f = λ t g. import_later f t g
from_import scopes at name w i false b e f = λ t g. import_other e t g

import_is : (scopes : List Names) (at : Place) (name : List ℕ) (w : Bool) (i : Import) → Choice (Gives scopes at name w i) (import_look scopes at name w i)
import_is scopes at name w i = from_import scopes at name w i (is_import_of w name i.name) (is_before i.at at) refl refl

among_cons : {A : Type 0} (F : A → ℕ → Type 0) (x : A) (xs : List A) (t : ℕ) → F x t ⊎ Among F (length xs) xs t → Among F (length (x ∷ xs)) (x ∷ xs) t
among_cons F x xs t (inl f) = among 0 x (omega arith) refl f
among_cons F x xs t (inr (among k y lt at f)) = among (suc k) y (omega arith) at f

cons_among : {A : Type 0} (F : A → ℕ → Type 0) (x : A) (xs : List A) (t : ℕ) → Among F (length (x ∷ xs)) (x ∷ xs) t → F x t ⊎ Among F (length xs) xs t
cons_among F x xs t (among zero y lt at f) = let e : x ≡ y = cc in inl (subst (λ y. F y t) (sym e) f)
cons_among F x xs t (among (suc k) y lt at f) = inr (among k y (omega arith) at f)

none_at_all : {A : Type 0} (F : A → ℕ → Type 0) (t : ℕ) → Among F (length {A = A} []) [] t → ⊥
none_at_all F t (among k x lt at f) = absurd (omega arith)

imports_are : (scopes : List Names) (at : Place) (name : List ℕ) (w : Bool) (is : List Import) → Choice (Among (Gives scopes at name w) (length is) is) (imports_look scopes at name w is)
imports_are scopes at name w [] = λ t h. none_at_all (Gives scopes at name w) t h
imports_are scopes at name w (i ∷ is) =
    let F = Gives scopes at name w in
    same_choice (λ t. F i t ⊎ Among F (length is) is t) (Among F (length (i ∷ is)) (i ∷ is)) (both (import_look scopes at name w i) (imports_look scopes at name w is))
    (λ t h. among_cons F i is t h) (λ t h. cons_among F i is t h)
    (both_choices (F i) (Among F (length is) is) (import_look scopes at name w i) (imports_look scopes at name w is) (import_is scopes at name w i) (imports_are scopes at name w is))

-- ---- one scope
in_imports : (scopes : List Names) (at : Place) (name : List ℕ) (s : Names) (a b : Look) → IsFound (Declares s.names at name) None → Choice (ImportedIn scopes s at name false) a → Choice (ImportedIn scopes s at name true) b
    → MeansIn scopes at name s (or_look a b)
in_imports scopes at name s look.Unknown b none c d = by_wildcard b none c d
in_imports scopes at name s (look.One t) b none c d = named_in (look.One t) none c (λ e. cc)
in_imports scopes at name s look.Ambiguous b none c d = named_in look.Ambiguous none c (λ e. cc)

in_scope : (scopes : List Names) (at : Place) (name : List ℕ) (s : Names) (o : Option ℕ) → IsFound (Declares s.names at name) o
    → MeansIn scopes at name s (or_look (one_look o) (or_look (imports_look scopes at name false s.imports) (imports_look scopes at name true s.imports)))
in_scope scopes at name s None f = in_imports scopes at name s _ _ f (imports_are scopes at name false s.imports) (imports_are scopes at name true s.imports)
in_scope scopes at name s (Some t) f = own t f

scope_is : (scopes : List Names) (at : Place) (name : List ℕ) (s : Names) → MeansIn scopes at name s (look_in scopes at name s)
scope_is scopes at name s = in_scope scopes at name s (held_in s.names at name) (held_is s.names at name)

-- ---- scopes from the innermost one on
onward : (scopes : List Names) (at : Place) (name : List ℕ) (s : Names) (outer : List Names) (a b : Look) → MeansIn scopes at name s a → Means scopes at name outer b → Means scopes at name (s ∷ outer) (or_look a b)
onward scopes at name s outer look.Unknown b m n = further m n
onward scopes at name s outer (look.One t) b m n = here (look.One t) m (λ e. cc)
onward scopes at name s outer look.Ambiguous b m n = here look.Ambiguous m (λ e. cc)

chain_is : (scopes : List Names) (at : Place) (name : List ℕ) (chain : List Names) → Means scopes at name chain (look_through scopes at name chain)
chain_is scopes at name [] = nowhere
chain_is scopes at name (s ∷ outer) = onward scopes at name s outer (look_in scopes at name s) (look_through scopes at name outer) (scope_is scopes at name s) (chain_is scopes at name outer)

-- ---- packages
of_one : (scopes : List Names) (at : Place) (name : List ℕ) (k : ℕ) (p : Names) (o : Option ℕ) → slice_get scopes k ≡ Some p → IsFound (Declares p.names at name) o → MeansOf scopes at name k (one_look o)
of_one scopes at name k p None e f = of_missing p e f
of_one scopes at name k p (Some t) e f = of_package p t e f

of_scope : (scopes : List Names) (at : Place) (name : List ℕ) (k : ℕ) (o : Option Names) → slice_get scopes k ≡ o → MeansOf scopes at name k (package_look o at name)
of_scope scopes at name k None e = of_none e
of_scope scopes at name k (Some p) e = of_one scopes at name k p (held_in p.names at name) e (held_is p.names at name)

of_entry : (s : UnitScopes) (path : Path) (scope : List ℕ) (e : Entry) → path.scope ≡ Some scope → lookup (bytes_eq scope) s.packages ≡ Some e → MeansAt s path (look_package s.scopes path.at path.name (Some e))
of_entry s path scope e is found =
    let yes = package_look (slice_get s.scopes e.number) path.at path.name in
    elim (cases_Bool (counts e.from path.at)) [
      | inl t ↦ subst (λ l. MeansAt s path l) (sym (ap (λ b. cond b yes look.Unknown) t)) (by_package yes scope e is found t (of_scope s.scopes path.at path.name e.number (slice_get s.scopes e.number) refl))
      | inr f ↦ subst (λ l. MeansAt s path l) (sym (ap (λ b. cond b yes look.Unknown) f)) (later_package scope e is found f)
    ]

of_found : (s : UnitScopes) (path : Path) (scope : List ℕ) (o : Option Entry) → path.scope ≡ Some scope → lookup (bytes_eq scope) s.packages ≡ o → MeansAt s path (look_package s.scopes path.at path.name o)
of_found s path scope None is found = no_package scope is found
of_found s path scope (Some e) is found = of_entry s path scope e is found

path_at : (s : UnitScopes) (path : Path) (o : Option (List ℕ)) → path.scope ≡ o → MeansAt s path (look_path s path.at path.name o)
path_at s path None is = by_name _ is (chain_is s.scopes path.at path.name (chain_at s path.at))
path_at s path (Some scope) is = of_found s path scope (lookup (bytes_eq scope) s.packages) is refl

pub path_is : (s : UnitScopes) (path : Path) → MeansAt s path (look_at s path)
path_is s path = path_at s path path.scope refl

-- what a path means is what the function gives
pub found : {s : UnitScopes} {path : Path} {l : Look} → MeansAt s path l → l ≡ look_at s path
found {s = s} {path = path} m = one_path m (path_is s path)
