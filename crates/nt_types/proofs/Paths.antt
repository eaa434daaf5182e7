-- A path has one meaning.
use Rattle.std.proofs.Common.{◌≡◌, ℕ, true, false, List, refl, sym, ap, ◌∙◌, subst}
use Rattle.std.specs.Prelude.{Option, Some, None}
use Rattle.std.specs.Map.{lookup}
use Rattle.std.specs.Str.{bytes_eq}
use Rattle.nt_value.specs.declared.place.Place.{Place}
use Rattle.nt_ast.specs.declared.path.Path.{Path}
use Rattle.nt_scopes.specs.declared.scope.Entry.{Entry}
use Rattle.nt_scopes.specs.declared.scope.Look.{Look}
use Rattle.nt_scopes.specs.Means.{counts, MeansOf}
use Rattle.nt_scopes.proofs.Looking.{one, one_of}
use Rattle.nt_types.specs.Units.{UnitScopes, MeansAt, by_name, by_package, no_package, later_package}

some_back : {A : Type 0} {o : Option A} {a b : A} → o ≡ Some a → o ≡ Some b → a ≡ b
some_back e f = cc

none_some : {A : Type 0} {o : Option A} {a : A} → o ≡ None → o ≡ Some a → ⊥
none_some e f = cc

entry_back : (ks : List (List ℕ × Entry)) (o : Option (List ℕ)) (n m : List ℕ) (e f : Entry) → o ≡ Some n → o ≡ Some m → lookup (bytes_eq n) ks ≡ Some e → lookup (bytes_eq m) ks ≡ Some f → e ≡ f
entry_back ks o n m e f p q g h = some_back g (ap (λ x. lookup (bytes_eq x) ks) (some_back p q) ∙ h)

no_entry : (ks : List (List ℕ × Entry)) (o : Option (List ℕ)) (n m : List ℕ) (f : Entry) → o ≡ Some n → o ≡ Some m → lookup (bytes_eq n) ks ≡ None → lookup (bytes_eq m) ks ≡ Some f → ⊥
no_entry ks o n m f p q g h = none_some g (ap (λ x. lookup (bytes_eq x) ks) (some_back p q) ∙ h)

both_ways : (e f : Entry) (at : Place) → e ≡ f → counts e.from at ≡ true → counts f.from at ≡ false → ⊥
both_ways e f at same p q = let g = sym (ap (λ (x : Entry). counts x.from at) same) ∙ p in cc

pub one_path : {s : UnitScopes} {path : Path} {a b : Look} → MeansAt s path a → MeansAt s path b → a ≡ b
one_path (by_name l e m) (by_name k f n) = one m n
one_path (by_name l e m) (by_package k scope x f g h n) = absurd (none_some e f)
one_path (by_name l e m) (no_package scope f g) = absurd (none_some e f)
one_path (by_name l e m) (later_package scope x f g h) = absurd (none_some e f)
one_path (by_package l scope x e f g m) (by_name k h n) = absurd (none_some h e)
one_path {s = s} {path = path} {b = b} (by_package l scope x e f g m) (by_package k sc y h i j n) =
    one_of m (subst (λ (z : Entry). MeansOf s.scopes path.at path.name z.number b) (sym (entry_back s.packages path.scope scope sc x y e h f i)) n)
one_path {s = s} {path = path} (by_package l scope x e f g m) (no_package sc h i) = absurd (no_entry s.packages path.scope sc scope x h e i f)
one_path {s = s} {path = path} (by_package l scope x e f g m) (later_package sc y h i j) = absurd (both_ways x y path.at (entry_back s.packages path.scope scope sc x y e h f i) g j)
one_path (no_package scope e f) (by_name l g m) = absurd (none_some g e)
one_path {s = s} {path = path} (no_package scope e f) (by_package l sc x g h i m) = absurd (no_entry s.packages path.scope scope sc x e g f h)
one_path (no_package scope e f) (no_package sc g h) = refl
one_path (no_package scope e f) (later_package sc x g h i) = refl
one_path (later_package scope x e f g) (by_name l h m) = absurd (none_some h e)
one_path {s = s} {path = path} (later_package scope x e f g) (by_package l sc y h i j m) = absurd (both_ways y x path.at (entry_back s.packages path.scope sc scope y x h e i f) j g)
one_path (later_package scope x e f g) (no_package sc h i) = refl
one_path (later_package scope x e f g) (later_package sc y h i j) = refl
