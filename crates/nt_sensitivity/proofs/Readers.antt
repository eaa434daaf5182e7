-- An object is read by several together where it is by one of them.
use Rattle.std.proofs.Common.{◌≡◌, List, [], ◌∷◌, map, refl, ap, ◌∙◌}
use Rattle.std.specs.Prelude.{Bool, ◌||◌}
use Rattle.std.specs.List.{flat_map, list_any}
use Rattle.std.proofs.lemmas.List.Folds.{list_any-append}
use Rattle.nt_value.specs.declared.kind.Edge.{Edge}
use Rattle.nt_design.specs.Reads.{event_trees, joined, reads_of}
use Rattle.nt_design.specs.declared.object.Object.{Object}
use Rattle.nt_design.specs.declared.tree.Tree.{Tree}
use Rattle.nt_semantics.specs.Same.{is_one_of, is_same_object}
use Rattle.nt_sensitivity.specs.Readers.{is_reader}

pub joined_any : {A B : Type 0} (p : B → Bool) (f : A → List B) (xs : List A) → list_any p (joined (map f xs)) ≡ list_any (λ x. list_any p (f x)) xs
joined_any p f [] = refl
joined_any p f (x ∷ xs) = list_any-append p (f x) (joined (map f xs)) ∙ ap (λ b. list_any p (f x) || b) (joined_any p f xs)

pub flat_any : {A B : Type 0} (p : B → Bool) (f : A → List B) (xs : List A) → list_any p (flat_map f xs) ≡ list_any (λ x. list_any p (f x)) xs
flat_any p f [] = refl
flat_any p f (x ∷ xs) = list_any-append p (f x) (flat_map f xs) ∙ ap (λ b. list_any p (f x) || b) (flat_any p f xs)

-- the objects that expressions read together
pub read_trees : (o : Object) (trees : List Tree) → is_one_of (joined (map reads_of trees)) o ≡ list_any (is_reader o) trees
read_trees o trees = joined_any (is_same_object o) reads_of trees

pub events_any : (o : Object) (on : List (Edge × Tree)) → list_any (is_reader o) (event_trees on) ≡ list_any (λ (e : Edge × Tree). is_reader o e.1) on
events_any o [] = refl
events_any o (e ∷ on) = ap (λ b. is_reader o e.1 || b) (events_any o on)

pub read_events : (o : Object) (on : List (Edge × Tree)) → is_one_of (flat_map reads_of (event_trees on)) o ≡ list_any (λ (e : Edge × Tree). is_reader o e.1) on
read_events o on = flat_any (is_same_object o) reads_of (event_trees on) ∙ events_any o on
