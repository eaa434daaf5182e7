-- What a name means: one thing, scope by scope.
use Rattle.std.proofs.Common.{◌≡◌, ℕ, suc, ◌+◌, ◌<◌, ◌≤◌, Bool, true, false, List, ◌∷◌, length, get_or, drop, map, slice_get, Option, Some, None, refl, sym, ap, subst, ◌∙◌, add-one}
use Rattle.std.specs.Map.{lookup}
use Rattle.std.specs.Str.{bytes_eq}
use Rattle.std.proofs.Math.Seq.{drop-cons}
use Rattle.std.proofs.lemmas.List.{drop_all}
use Rattle.nt_value.specs.declared.place.Place.{Place}
use Rattle.nt_scopes.specs.declared.scope.Entry.{Entry}
use Rattle.nt_scopes.specs.declared.scope.Import.{Import}
use Rattle.nt_scopes.specs.declared.scope.Look.{Look}
use Rattle.nt_scopes.specs.declared.scope.Look.TheVariants as look
use Rattle.nt_scopes.specs.Choices.{Choice}
use Rattle.nt_scopes.specs.Means.{Names, is_before, counts, Declares, declares, is_import_of, Gives, imported, ImportedIn, MeansIn, own, by_name, by_wildcard, Means, here, further, nowhere, MeansOf, of_package, not_there}
use Rattle.nt_scopes.specs.Laws.{OneMeaning}
use Rattle.nt_scopes.proofs.Choosing.{one_choice}

-- ---- declarations
entry_same : {o : Option Entry} {e f : Entry} → o ≡ Some e → o ≡ Some f → e ≡ f
entry_same p q = cc

declares_same : {names : List (List ℕ × Entry)} {at : Place} {name : List ℕ} (e : Entry) → lookup (bytes_eq name) names ≡ Some e → (t : ℕ) → Declares names at name t → t ≡ e.number
declares_same e p t (declares f q r) = ap (λ x. x.number) (entry_same q p)

declares_one : {names : List (List ℕ × Entry)} {at : Place} {name : List ℕ} (t u : ℕ) → Declares names at name t → Declares names at name u → t ≡ u
declares_one t u (declares e p q) h = sym (declares_same e p u h)

pub held_none : {names : List (List ℕ × Entry)} {at : Place} {name : List ℕ} → lookup (bytes_eq name) names ≡ None → (t : ℕ) → Declares names at name t → ⊥
held_none e t (declares f q r) = cc

pub held_some : {names : List (List ℕ × Entry)} {at : Place} {name : List ℕ} (e : Entry) → lookup (bytes_eq name) names ≡ Some e → counts e.from at ≡ true → Declares names at name e.number
held_some e p q = declares e p q

counts_same : {a b : Entry} (at : Place) → a ≡ b → counts a.from at ≡ true → counts b.from at ≡ true
counts_same at e h = subst (λ (x : Entry). counts x.from at ≡ true) e h

pub held_later : {names : List (List ℕ × Entry)} {at : Place} {name : List ℕ} (e : Entry) → lookup (bytes_eq name) names ≡ Some e → counts e.from at ≡ false → (t : ℕ) → Declares names at name t → ⊥
held_later {at = at} e p q t (declares f r s) = let g = counts_same at (entry_same r p) s in cc

-- ---- imports
gives_same : {scopes : List Names} {at : Place} {name : List ℕ} {w : Bool} {i : Import} (p : Names) (t : ℕ) → slice_get scopes i.package ≡ Some p → Declares p.names at name t
    → (u : ℕ) → Gives scopes at name w i u → u ≡ t
gives_same {at = at} {name = name} p t e h u (imported q a b f g) = let s : q ≡ p = cc in declares_one u t (subst (λ (q : Names). Declares q.names at name u) s g) h

pub import_one : {scopes : List Names} {at : Place} {name : List ℕ} {w : Bool} {i : Import} (p : Names) (t : ℕ) → is_import_of w name i.name ≡ true → is_before i.at at ≡ true → slice_get scopes i.package ≡ Some p
    → Declares p.names at name t → Choice (Gives scopes at name w i) (look.One t)
import_one p t a b e h = (imported p a b e h, λ u g. gives_same p t e h u g)

pub import_none : {scopes : List Names} {at : Place} {name : List ℕ} {w : Bool} {i : Import} (p : Names) → slice_get scopes i.package ≡ Some p → ((t : ℕ) → Declares p.names at name t → ⊥)
    → (t : ℕ) → Gives scopes at name w i t → ⊥
import_none {at = at} {name = name} p e none t (imported q a b f g) = let s : q ≡ p = cc in none t (subst (λ (q : Names). Declares q.names at name t) s g)

pub import_other : {scopes : List Names} {at : Place} {name : List ℕ} {w : Bool} {i : Import} → is_import_of w name i.name ≡ false → (t : ℕ) → Gives scopes at name w i t → ⊥
import_other e t (imported q a b f g) = cc

pub import_later : {scopes : List Names} {at : Place} {name : List ℕ} {w : Bool} {i : Import} → is_before i.at at ≡ false → (t : ℕ) → Gives scopes at name w i t → ⊥
import_later e t (imported q a b f g) = cc

pub import_nowhere : {scopes : List Names} {at : Place} {name : List ℕ} {w : Bool} {i : Import} → slice_get scopes i.package ≡ None → (t : ℕ) → Gives scopes at name w i t → ⊥
import_nowhere e t (imported q a b f g) = cc

-- ---- one scope
known_found : (F : ℕ → Type 0) (l : Look) → Choice F l → ((t : ℕ) → F t → ⊥) → l ≡ look.Unknown
known_found F look.Unknown c none = refl
known_found F (look.One t) c none = absurd (none t c.0)
known_found F look.Ambiguous c none = absurd (none c.0 c.2)

module _ {scopes : List Names} {at : Place} {name : List ℕ} where
  means_in_one : {s : Names} {a b : Look} → MeansIn scopes at name s a → MeansIn scopes at name s b → a ≡ b
  means_in_one (own t d) (own u e) = ap look.One (declares_one t u d e)
  means_in_one (own t d) (by_name l n c k) = absurd (n t d)
  means_in_one (own t d) (by_wildcard l n c w) = absurd (n t d)
  means_in_one (by_name l n c k) (own u e) = absurd (n u e)
  means_in_one {s = s} (by_name l n c k) (by_name m o d j) = one_choice (ImportedIn scopes s at name false) l m c d
  means_in_one {s = s} (by_name l n c k) (by_wildcard m o d w) = absurd (k (known_found (ImportedIn scopes s at name false) l c d))
  means_in_one (by_wildcard l n c w) (own u e) = absurd (n u e)
  means_in_one {s = s} (by_wildcard l n c w) (by_name m o d j) = absurd (j (known_found (ImportedIn scopes s at name false) m d c))
  means_in_one {s = s} (by_wildcard l n c w) (by_wildcard m o d v) = one_choice (ImportedIn scopes s at name true) l m w v

  pub one : {chain : List Names} {a b : Look} → Means scopes at name chain a → Means scopes at name chain b → a ≡ b
  one (here l m k) (here n o j) = means_in_one m o
  one (here l m k) (further n o) = absurd (k (means_in_one m n))
  one (further m n) (here l o k) = absurd (k (means_in_one o m))
  one (further m n) (further o p) = one n p
  one nowhere nowhere = refl

  pub one_of : {k : ℕ} {a b : Look} → MeansOf scopes at name k a → MeansOf scopes at name k b → a ≡ b
  one_of (of_package p t e d) (of_package q u f g) = let s : q ≡ p = cc in ap look.One (declares_one t u d (subst (λ (q : Names). Declares q.names at name u) s g))
  one_of (of_package p t e d) (not_there n) = absurd (n p t e d)
  one_of (not_there n) (of_package p t e d) = absurd (n p t e d)
  one_of (not_there n) (not_there m) = refl

  -- ---- a name of a package
  pub of_none : {k : ℕ} → slice_get scopes k ≡ None → MeansOf scopes at name k look.Unknown
  of_none e = not_there (λ p t f d. cc)

  pub of_missing : {k : ℕ} (p : Names) → slice_get scopes k ≡ Some p → ((t : ℕ) → Declares p.names at name t → ⊥) → MeansOf scopes at name k look.Unknown
  of_missing p e none = not_there (λ q t f d. let s : q ≡ p = cc in none t (subst (λ (q : Names). Declares q.names at name t) s d))

-- ---- the scopes one after the other: what a name means in the rest it means in all
pub record Rest (scopes : List Names) (at : Place) (name : List ℕ) (all rest : List Names) : Type 0 where
  pub same : (l : Look) → Means scopes at name rest l → Means scopes at name all l

dropped : {A : Type 0} (f : A → Names) (xs : List A) (k : ℕ) (x : A) → k < length xs → x ≡ get_or xs k x → map f (drop k xs) ≡ f x ∷ map f (drop (k + 1) xs)
dropped f xs k x lt is = ap (map f) (drop-cons xs k x lt ∙ ap (λ y. y ∷ drop (suc k) xs) (sym is) ∙ ap (λ n. x ∷ drop n xs) (sym (add-one k)))

module _ {scopes : List Names} {at : Place} {name : List ℕ} where
  pub rest_start : (all : List Names) → Rest scopes at name all all
  rest_start all = record { same = λ l m. m }

  pub rest_turn : {all : List Names} {A : Type 0} (f : A → Names) (xs : List A) (k : ℕ) (x : A) → k < length xs → x ≡ get_or xs k x → Rest scopes at name all (map f (drop k xs))
      → MeansIn scopes at name (f x) look.Unknown → Rest scopes at name all (map f (drop (k + 1) xs))
  rest_turn f xs k x lt is r m = record { same = λ l n. r.same l (subst (λ ss. Means scopes at name ss l) (sym (dropped f xs k x lt is)) (further m n)) }

  pub rest_found : {all : List Names} {A : Type 0} (f : A → Names) (xs : List A) (k : ℕ) (x : A) (l : Look) → k < length xs → x ≡ get_or xs k x → Rest scopes at name all (map f (drop k xs))
      → MeansIn scopes at name (f x) l → (l ≡ look.Unknown → ⊥) → Means scopes at name all l
  rest_found f xs k x l lt is r m ne = r.same l (subst (λ ss. Means scopes at name ss l) (sym (dropped f xs k x lt is)) (here l m ne))

  pub rest_end : {all : List Names} {A : Type 0} (f : A → Names) (xs : List A) (k : ℕ) → length xs ≤ k → Rest scopes at name all (map f (drop k xs)) → Means scopes at name all look.Unknown
  rest_end f xs k le r = r.same look.Unknown (subst (λ ss. Means scopes at name (map f ss) look.Unknown) (sym (drop_all k xs le)) nowhere)

pub one_meaning_holds : OneMeaning
one_meaning_holds = record { one = λ scopes at name chain a b m n. one m n; one_of = λ scopes at name k a b m n. one_of m n }
