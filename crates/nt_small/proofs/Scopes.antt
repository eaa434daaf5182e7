-- The names of a module.
use Rattle.std.proofs.Common.{◌≡◌, ℕ, zero, suc, ◌+◌, ◌≤◌, ◌<◌, List, [], ◌∷◌, ◌++◌, length, take, map, Some, None, slice_get, option_to_list, refl, sym, ◌∙◌, ap, arith}
use Rattle.std.proofs.lemmas.List.Elements.{All-nil, All-cons}
use Rattle.std.proofs.lemmas.Option.{slice_get_within}
use Rattle.std.specs.List.{All, flat_map, range_with_len}
use Rattle.nt_design.specs.WellFormed.{IsScoped}
use Rattle.nt_design.specs.declared.design.Design.{Design}
use Rattle.nt_design.specs.declared.design.Scoped.{Scoped}
use Rattle.nt_design.specs.declared.object.Object.TheVariants as object
use Rattle.nt_small.specs.Elaboration.{net_names, scopes_of}
use Rattle.nt_small.proofs.Gathering.{take_at}

abbrev net_scoped : ℕ → List ℕ → Scoped
net_scoped n name = record { depth = 1; name = name; object = Some (object.Net n) }

names_push : (n : ℕ) (names : List (List ℕ)) (name : List ℕ) → net_names n (names ++ name ∷ []) ≡ net_names n names ++ net_scoped (n + length names) name ∷ []
names_push n [] name = ap (λ k. net_scoped k name ∷ []) (omega arith)
names_push n (x ∷ xs) name =
    ap (λ l. net_scoped n x ∷ l) (names_push (n + 1) xs name ∙ ap (λ k. net_names (n + 1) xs ++ net_scoped k name ∷ []) (omega arith))

length_front : {X : Type 0} (xs : List X) (i : ℕ) → i ≤ length xs → length (take i xs) ≡ i
length_front xs zero h = refl
length_front [] (suc i) h = absurd (omega (arith, h))
length_front (x ∷ xs) (suc i) h = ap suc (length_front xs i (omega (arith, h)))

-- one more name
pub one_more_name : (top : List ℕ) (names : List (List ℕ)) (i : ℕ) (name : List ℕ) (old new : List Scoped) (scoped : Scoped) → slice_get names i ≡ Some name → scoped ≡ record { depth = 1; name = name; object = Some (object.Net i) } → old ≡ scopes_of top (take i names) → new ≡ old ++ scoped ∷ [] → new ≡ scopes_of top (take (i + 1) names)
one_more_name top names i name old new scoped at is so_far more =
    let within = slice_get_within names i name at in
    let front = length_front names i (omega (arith, within)) in
    more
    ∙ (λ j. so_far j ++ is j ∷ [])
    ∙ ap (λ l. module_scoped ∷ l) (ap (λ k. net_names 0 (take i names) ++ net_scoped k name ∷ []) (omega (arith, front)) ∙ sym (names_push 0 (take i names) name) ∙ ap (net_names 0) (sym (take_at names i name at)))
  where
    module_scoped : Scoped
    module_scoped = record { depth = 0; name = top; object = None }

-- each name is that of a net
names_scoped : (d : Design) (n : ℕ) (names : List (List ℕ)) → n + length names ≤ length d.nets → All (λ (s : Scoped). IsScoped d s.object) (net_names n names)
names_scoped d n [] h = All-nil (λ (s : Scoped). IsScoped d s.object)
names_scoped d n (name ∷ names) h =
    let below : n < length d.nets = omega (arith, h) in
    All-cons (λ (s : Scoped). IsScoped d s.object) (net_scoped n name) (net_names (n + 1) names) below (names_scoped d (n + 1) names (omega (arith, h)))

pub all_scoped : (d : Design) (top : List ℕ) (names : List (List ℕ)) → length names ≡ length d.nets → All (λ (s : Scoped). IsScoped d s.object) (scopes_of top names)
all_scoped d top names same =
    All-cons (λ (s : Scoped). IsScoped d s.object) (record { depth = 0; name = top; object = None }) (net_names 0 names) tt (names_scoped d 0 names (omega (arith, same)))

-- and they name the nets in order
names_named : (n : ℕ) (names : List (List ℕ)) → flat_map (λ (s : Scoped). option_to_list s.object) (net_names n names) ≡ map (λ k. object.Net k) (range_with_len n (length names))
names_named n [] = refl
names_named n (name ∷ names) = ap (λ l. object.Net n ∷ l) (names_named (n + 1) names)

pub all_named : (top : List ℕ) (names : List (List ℕ)) → flat_map (λ (s : Scoped). option_to_list s.object) (scopes_of top names) ≡ map (λ k. object.Net k) (range_with_len 0 (length names))
all_named top names = names_named 0 names
