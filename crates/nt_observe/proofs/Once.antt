-- Each object once, where it stands first.
use Rattle.std.proofs.Common.{◌≡◌, ℕ, ◌+◌, ◌<◌, length, take, get_or, add-one, append-nil, inl, inr, Bool, true, false, not, cond, ◌||◌, List, [], ◌∷◌, ◌++◌, filter, refl, sym, ap, ◌∙◌}
use Rattle.std.specs.List.{flat_map}
use Rattle.std.specs.Prelude.{option_to_list, Option, Some, None}
use Rattle.std.proofs.lemmas.Grind.{flat_map-append}
use Rattle.std.proofs.Math.Seq.{take-suc}
use Rattle.std.proofs.lemmas.Bool.{cases_Bool, eqb-true, eq-eqb}
use Rattle.std.proofs.lemmas.List.Elements.{filter-append}
use Rattle.nt_design.specs.declared.object.Object.{Object}
use Rattle.nt_design.specs.declared.object.Object.TheVariants.{Net, Var}
use Rattle.nt_semantics.specs.Same.{is_same_object, is_one_of}
use Rattle.nt_semantics.specs.Texts.{first_of_each}
use Rattle.nt_design.specs.declared.design.Scoped.{Scoped}
use Rattle.nt_observe.specs.Shown.{with_object, with_maybe}

same_object : (a b : Object) → is_same_object a b ≡ true → a ≡ b
same_object (Net m) (Net n) e = ap Net (eqb-true m n e)
same_object (Var v) (Var w) e = ap Var (eqb-true v w e)
same_object (Net n) (Var v) e = cc
same_object (Var v) (Net n) e = cc

itself : (a : Object) → is_same_object a a ≡ true
itself (Net m) = eq-eqb m m refl
itself (Var v) = eq-eqb v v refl

swapped : (a b : Object) → is_same_object a b ≡ true → is_same_object b a ≡ true
swapped a b e = ap (λ x. is_same_object x a) (sym (same_object a b e)) ∙ itself a

abbrev others : Object → List Object → List Object
others p xs = filter (λ y. not (is_same_object p y)) xs

-- one that differs from p is among the others as it is among all
among_others : (p o : Object) (xs : List Object) → is_same_object o p ≡ false → is_one_of (others p xs) o ≡ is_one_of xs o
among_others p o [] e = refl
among_others p o (x ∷ xs) e =
    let kept = λ (b : Bool). is_one_of (cond (not b) (x ∷ others p xs) (others p xs)) o in
    elim (cases_Bool (is_same_object p x)) [
      | inl t ↦
          let f : is_same_object o x ≡ false = ap (is_same_object o) (sym (same_object p x t)) ∙ e in
          ap kept t ∙ among_others p o xs e ∙ sym (ap (λ b. b || is_one_of xs o) f)
      | inr t ↦ ap kept t ∙ ap (λ b. is_same_object o x || b) (among_others p o xs e)
    ]

others_once : (p o : Object) (xs : List Object) → others p (with_object xs o) ≡ cond (is_one_of xs o) (others p xs) (others p xs ++ others p (o ∷ []))
others_once p o xs = elim (cases_Bool (is_one_of xs o)) [
  | inl t ↦ ap (λ b. others p (cond b xs (xs ++ o ∷ []))) t ∙ sym (ap (λ b. cond b (others p xs) (others p xs ++ others p (o ∷ []))) t)
  | inr t ↦ ap (λ b. others p (cond b xs (xs ++ o ∷ []))) t ∙ filter-append (λ y. not (is_same_object p y)) xs (o ∷ []) ∙ sym (ap (λ b. cond b (others p xs) (others p xs ++ others p (o ∷ []))) t)
]

no_end : (ys : List Object) → ys ++ [] ≡ ys
no_end [] = refl
no_end (y ∷ ys) = ap (λ zs. y ∷ zs) (no_end ys)

nothing_more : (b : Bool) (xs : List Object) → cond b xs (xs ++ []) ≡ xs
nothing_more true xs = refl
nothing_more false xs = no_end xs

true_false : true ≡ false → ⊥
true_false e = cc

two_ways : (b : Bool) (p : Object) (ys : List Object) (o : Object) → p ∷ cond b ys (ys ++ o ∷ []) ≡ cond b (p ∷ ys) ((p ∷ ys) ++ o ∷ [])
two_ways true p ys o = refl
two_ways false p ys o = refl

-- one object more stands at the end, where it didn't stand before
pub first_more : (xs : List Object) (o : Object) → first_of_each (xs ++ o ∷ []) ≡ with_object (first_of_each xs) o
first_more [] o = refl
first_more (p ∷ xs) o =
    let all = first_of_each xs in
    let step : first_of_each ((p ∷ xs) ++ o ∷ []) ≡ p ∷ cond (is_one_of all o) (others p all) (others p all ++ others p (o ∷ [])) =
    ap (λ ys. p ∷ others p ys) (first_more xs o) ∙ ap (λ ys. p ∷ ys) (others_once p o all) in
    elim (cases_Bool (is_same_object o p)) [
      | inl t ↦
          let gone : others p (o ∷ []) ≡ [] = ap (λ b. cond (not b) (o ∷ []) []) (swapped o p t) in
          step ∙ ap (λ ys. p ∷ cond (is_one_of all o) (others p all) (others p all ++ ys)) gone ∙ ap (λ ys. p ∷ ys) (nothing_more (is_one_of all o) (others p all))
          ∙ sym (ap (λ b. cond (b || is_one_of (others p all) o) (p ∷ others p all) ((p ∷ others p all) ++ o ∷ [])) t)
      | inr t ↦
          let differs : is_same_object p o ≡ false = elim (cases_Bool (is_same_object p o)) [ inl u ↦ absurd (true_false (sym (swapped p o u) ∙ t)) | inr u ↦ u ] in
          let stays : others p (o ∷ []) ≡ o ∷ [] = ap (λ b. cond (not b) (o ∷ []) []) differs in
          step ∙ ap (λ ys. p ∷ cond (is_one_of all o) (others p all) (others p all ++ ys)) stays
          ∙ two_ways (is_one_of all o) p (others p all) o
          ∙ sym (ap (λ b. cond (b || is_one_of (others p all) o) (p ∷ others p all) ((p ∷ others p all) ++ o ∷ [])) t
          ∙ ap (λ b. cond b (p ∷ others p all) ((p ∷ others p all) ++ o ∷ [])) (among_others p o all t))
    ]

maybe_more : (xs : List Object) (o : Option Object) → first_of_each (xs ++ option_to_list o) ≡ with_maybe (first_of_each xs) o
maybe_more xs None = ap first_of_each (append-nil xs)
maybe_more xs (Some o) = first_more xs o

abbrev objects_in : List Scoped → List Object
objects_in scopes = flat_map (λ (s : Scoped). option_to_list s.object) scopes

pub scoped_more : (scopes : List Scoped) (k : ℕ) (x : Scoped) (all now : List Object) → k < length scopes → x ≡ get_or scopes k x → all ≡ first_of_each (objects_in (take k scopes)) → now ≡ with_maybe all x.object
    → now ≡ first_of_each (objects_in (take (k + 1) scopes))
scoped_more scopes k x all now lt at is more =
    let front : take (k + 1) scopes ≡ take k scopes ++ x ∷ [] = ap (λ n. take n scopes) (add-one k) ∙ take-suc scopes k x lt ∙ ap (λ y. take k scopes ++ y ∷ []) (sym at) in
    let objects : objects_in (take (k + 1) scopes) ≡ objects_in (take k scopes) ++ option_to_list x.object =
    ap objects_in front ∙ flat_map-append (λ (s : Scoped). option_to_list s.object) (take k scopes) (x ∷ []) ∙ ap (λ ys. objects_in (take k scopes) ++ ys) (append-nil (option_to_list x.object)) in
    more ∙ ap (λ ys. with_maybe ys x.object) is ∙ sym (maybe_more (objects_in (take k scopes)) x.object) ∙ sym (ap first_of_each objects)
