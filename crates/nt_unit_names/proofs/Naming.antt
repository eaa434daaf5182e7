-- Names of items, one after the other.
use Rattle.std.proofs.Common.{◌≡◌, ℕ, zero, suc, ◌+◌, ◌<◌, ◌≤◌, ◌⊎◌, inl, inr, Bool, true, false, cond, List, [], ◌∷◌, ◌++◌, length, take, get_or, refl, sym, ap, ◌∙◌, subst, arith, add-one, append_assoc}
use Rattle.std.specs.Prelude.{Option, Some, None, is_some, not, ◌||◌, if◌then◌else◌}
use Rattle.std.specs.List.{list_any}
use Rattle.std.specs.Map.{lookup}
use Rattle.std.specs.Str.{bytes_eq}
use Rattle.std.proofs.lemmas.Bool.{cases_Bool}
use Rattle.std.proofs.lemmas.Slice.Eq.{bytes_eq-Decides}
use denote.Hole.Carrier.{roll}
use Rattle.nt_items.specs.declared.item.Item.TheVariants as i
use Rattle.std.proofs.lemmas.Grind.{flat_map-append}
use Rattle.nt_value.specs.declared.place.Place.{Place}
use Rattle.nt_diag.specs.declared.refusal.Refusal.{Refusal}
use Rattle.nt_diag.specs.declared.rule.Rule.TheVariants as rule
use Rattle.nt_diag.specs.Order.{IsLeastOf, IsLeast, Among, AmongAll, earlier}
use Rattle.nt_diag.proofs.Least.{Best, best_start, best_turn, best_to, least_one, alike_least, both_least}
use Rattle.nt_items.specs.declared.item.Item.{Item}
use Rattle.nt_items.specs.declared.item.Item.TheOpen.{Item-F}
use Rattle.nt_items.specs.declared.item.Item.TheViews.{out-Item, roll-Item, out-roll-Item}
use Rattle.nt_items.specs.declared.item.Units.{Units}
use Rattle.std.proofs.Math.Seq.{take-suc}
use Rattle.nt_scopes.specs.declared.scope.Entry.{Entry}
use Rattle.nt_scopes.specs.Means.{Names, added}
use Rattle.nt_unit_names.specs.Items.{ItemNode, declared_name, item_place, is_name, declares, is_declared, is_there}
use Rattle.nt_unit_names.specs.Faults.{refusal, unit_of, ItemFault, twice, missing, ScopeFault, PackageFault, in_package, FileFault, PackagesFault, NameFault, in_unit, in_packages}
use Rattle.nt_unit_names.specs.Answers.{Holds, is_again, AgainTold, ItemTold, ScopeTold, TellsAgain, TellsItem, TellsScope}

or_assoc : (a b c : Bool) → ((a || b) || c) ≡ (a || (b || c))
or_assoc true b c = refl
or_assoc false b c = refl

or_false : (a : Bool) → (a || false) ≡ a
or_false true = refl
or_false false = refl

pub any_append : {A : Type 0} (p : A → Bool) (xs ys : List A) → list_any p (xs ++ ys) ≡ (list_any p xs || list_any p ys)
any_append p [] ys = refl
any_append p (x ∷ xs) ys = ap (λ b. p x || b) (any_append p xs ys) ∙ sym (or_assoc (p x) (list_any p xs) (list_any p ys))

pub there_append : (xs ys : List Item) (at : Place) (scope : List ℕ) (name : Option (List ℕ)) → is_there (xs ++ ys) at scope name ≡ (is_there xs at scope name || is_there ys at scope name)
there_append xs ys at scope None = any_append _ xs ys
there_append xs ys at scope (Some n) = any_append _ xs ys

pub there_none : (at : Place) (scope : List ℕ) (name : Option (List ℕ)) → is_there [] at scope name ≡ false
there_none at scope None = refl
there_none at scope (Some n) = refl

append_none : {A : Type 0} (xs : List A) → xs ++ [] ≡ xs
append_none [] = refl
append_none (x ∷ xs) = ap (λ ys. x ∷ ys) (append_none xs)

take_more : {A : Type 0} (xs : List A) (i : ℕ) (x : A) → i < length xs → x ≡ get_or xs i x → take (i + 1) xs ≡ take i xs ++ x ∷ []
take_more xs i x lt at = ap (λ n. take n xs) (add-one i) ∙ take-suc xs i x lt ∙ ap (λ y. take i xs ++ y ∷ []) (sym at)

-- the unit of the files up to one
pub unit_more : (files : List Units) (i : ℕ) (f : Units) → i < length files → f ≡ get_or files i f → unit_of (take (i + 1) files) ≡ unit_of (take i files) ++ f.items
unit_more files i f lt at = ap unit_of (take_more files i f lt at) ∙ flat_map-append (λ (f : Units). f.items) (take i files) (f ∷ []) ∙ ap (λ ys. unit_of (take i files) ++ ys) (append_none f.items)

-- ---- a scope has a name more
lookup_at : (b : Bool) (e : Entry) (o : Option Entry) (c : Bool) → (is_some o || c) ≡ (is_some o || c) → is_some (if b then Some e else o) ≡ (b || is_some o)
lookup_at true e o c h = refl
lookup_at false e o c h = refl

one_lookup : (b : Bool) (e : Entry) → is_some (if b then Some e else None) ≡ b
one_lookup true e = refl
one_lookup false e = refl

snoc_at : (b : Bool) (e : Entry) (o q : Option Entry) (c : Bool) → is_some q ≡ (is_some o || c) → is_some (if b then Some e else q) ≡ (is_some (if b then Some e else o) || c)
snoc_at true e o q c h = refl
snoc_at false e o q c h = h

lookup_snoc : (p : List ℕ → Bool) (ks : List (List ℕ × Entry)) (k : List ℕ) (e : Entry) → is_some (lookup p (ks ++ (k, e) ∷ [])) ≡ (is_some (lookup p ks) || p k)
lookup_snoc p [] k e = one_lookup (p k) e
lookup_snoc p (f ∷ ks) k e = snoc_at (p f.0) f.1 (lookup p ks) (lookup p (ks ++ (k, e) ∷ [])) (p k) (lookup_snoc p ks k e)

bytes_same : (xs ys : List ℕ) → bytes_eq xs ys ≡ true → xs ≡ ys
bytes_same xs ys h = (bytes_eq-Decides xs ys).0 h

kept : (a b : Bool) → (b ≡ true → a ≡ true) → a ≡ (a || b)
kept true b h = refl
kept false true h = h refl
kept false false h = refl

added_old : (ks : List (List ℕ × Entry)) (name n : List ℕ) (e : Entry) → is_some (lookup (bytes_eq name) ks) ≡ true → is_some (lookup (bytes_eq n) ks) ≡ (is_some (lookup (bytes_eq n) ks) || bytes_eq n name)
added_old ks name n e h = kept _ _ (λ t. subst (λ m. is_some (lookup (bytes_eq m) ks) ≡ true) (sym (bytes_same n name t)) h)

pub added_has : (ks : List (List ℕ × Entry)) (name n : List ℕ) (e : Entry) → is_some (lookup (bytes_eq n) (added ks name e)) ≡ (is_some (lookup (bytes_eq n) ks) || bytes_eq n name)
added_has ks name n e =
    let if_old = λ (b : Bool). is_some (lookup (bytes_eq n) (cond b ks (ks ++ (name, e) ∷ []))) in
    elim (cases_Bool (is_some (lookup (bytes_eq name) ks))) [
      | inl t ↦ ap if_old t ∙ added_old ks name n e t
      | inr f ↦ ap if_old f ∙ lookup_snoc (bytes_eq n) ks name e
    ]

declared_more : (n : List ℕ) (before : List Item) (x : Item) → is_declared n (before ++ x ∷ []) ≡ (is_declared n before || is_name n (declared_name (out-Item x)))
declared_more n before x = any_append (declares n) before (x ∷ []) ∙ ap (λ b. is_declared n before || b) (or_false (declares n x))

not_not : (a : Bool) → not (not a) ≡ a
not_not true = refl
not_not false = refl

pub again_some : {old new : Names} {x : Item} {is_new : Bool} (name : List ℕ) (e : Entry) → Some name ≡ declared_name (out-Item x) → new.names ≡ added old.names name e
    → is_new ≡ not (is_some (lookup (bytes_eq name) old.names)) → TellsAgain old x new (not is_new)
again_some {old = old} {new = new} {x = x} {is_new = is_new} name e is names f before h =
    record {
      is = ap not f ∙ not_not _ ∙ h.same name ∙ ap (λ o. is_again o before) is;
      holds = record {
        same = λ n.
            ap (λ ks. is_some (lookup (bytes_eq n) ks)) names ∙ added_has old.names name n e
            ∙ ap (λ b. b || bytes_eq n name) (h.same n)
            ∙ ap (λ o. is_declared n before || is_name n o) is
            ∙ sym (declared_more n before x);
      };
    }

-- ---- the fault of an item
again_name : {o : Option (List ℕ)} (before : List Item) → true ≡ is_again o before → (name : List ℕ) × (o ≡ Some name) × (is_declared name before ≡ true)
again_name {o = None} before e = cc
again_name {o = Some name} before e = (name, refl, sym e)

only_twice : {unit before : List Item} {x : ItemNode} {s : Refusal} → true ≡ is_again (declared_name x) before → ItemFault unit before x s → s ≡ refusal rule.T5 (item_place x)
only_twice e (twice _ n f g) = refl
only_twice e (missing at scope name f) = cc

pub item_again : {unit before : List Item} {x : Item} {scope : Names} (p : Place) → p ≡ item_place (out-Item x) → AgainTold before x scope true → ItemTold unit before x scope (Some (refusal rule.T5 p))
item_again {unit = unit} {before = before} {x = x} {scope = scope} p at a =
    let n = again_name before a.is in
    let f : ItemFault unit before (out-Item x) (refusal rule.T5 (item_place (out-Item x))) = twice (out-Item x) n.0 n.1 n.2 in
    subst (λ p. ItemTold unit before x scope (Some (refusal rule.T5 p))) (sym at)
    (record { best = least_one (ItemFault unit before (out-Item x)) _ f (λ s h. only_twice a.is h); holds = a.holds })

not_twice : {name : List ℕ} (x : ItemNode) (before : List Item) → false ≡ is_again (declared_name x) before → declared_name x ≡ Some name → is_declared name before ≡ true → ⊥
not_twice x before e f g = let h = e ∙ ap (λ o. is_again o before) f ∙ g in cc

none_there : {unit before : List Item} {s : Refusal} {at : Place} {scope : List ℕ} {name : Option (List ℕ)} → ItemFault unit before (Item-F.Import at scope name) s → s ≡ refusal rule.T4 at
none_there (twice _ n f g) = cc
none_there (missing _ _ _ f) = refl

pub item_missing : {unit before : List Item} {x : Item} {names : Names} (at : Place) (scope : List ℕ) (name : Option (List ℕ)) → out-Item x ≡ Item-F.Import at scope name → is_there unit at scope name ≡ false
    → AgainTold before x names false → ItemTold unit before x names (Some (refusal rule.T4 at))
item_missing {unit = unit} {before = before} {x = x} {names = names} at scope name is e a =
    let f : ItemFault unit before (Item-F.Import at scope name) (refusal rule.T4 at) = missing at scope name e in
    record { best = subst (λ y. IsLeast (ItemFault unit before y) (refusal rule.T4 at)) (sym is) (least_one (ItemFault unit before (Item-F.Import at scope name)) _ f (λ s h. none_there h)); holds = a.holds }

there_fault : {unit before : List Item} {s : Refusal} {at : Place} {scope : List ℕ} {name : Option (List ℕ)} → is_there unit at scope name ≡ true → ItemFault unit before (Item-F.Import at scope name) s → ⊥
there_fault e (twice _ n f g) = cc
there_fault e (missing _ _ _ f) = cc

pub item_there : {unit before : List Item} {x : Item} {names : Names} (at : Place) (scope : List ℕ) (name : Option (List ℕ)) → out-Item x ≡ Item-F.Import at scope name → is_there unit at scope name ≡ true
    → AgainTold before x names false → ItemTold unit before x names None
item_there {unit = unit} {before = before} {x = x} at scope name is e a = record { best = λ r f. there_fault e (subst (λ y. ItemFault unit before y r) is f); holds = a.holds }

other_fault : {unit before : List Item} {x : ItemNode} {s : Refusal} → ((at : Place) (scope : List ℕ) (name : Option (List ℕ)) → x ≡ Item-F.Import at scope name → ⊥) → false ≡ is_again (declared_name x) before → ItemFault unit before x s → ⊥
other_fault {before = before} n e (twice x m f g) = not_twice x before e f g
other_fault n e (missing at scope name f) = n at scope name refl

pub item_other : {unit before : List Item} {x : Item} {names : Names} → ((at : Place) (scope : List ℕ) (name : Option (List ℕ)) → out-Item x ≡ Item-F.Import at scope name → ⊥) → AgainTold before x names false → ItemTold unit before x names None
item_other n a = record { best = λ r f. other_fault n a.is f; holds = a.holds }

pub seen_import : (x : Item) (at : Place) (scope : List ℕ) (name : Option (List ℕ)) → x ≡ i.Import at scope name → out-Item x ≡ Item-F.Import at scope name
unfolding roll-Item roll
seen_import x at scope name e = ap out-Item e ∙ out-roll-Item (Item-F.Import at scope name)

-- ---- the items of a scope
pub record ScopeSoFar (unit before items : List Item) (n : ℕ) (scope : Names) (least : Option Refusal) : Type 0 where
  pub best : Best (Among (λ (k : ℕ) (x : Item) (r : Refusal). ItemFault unit (before ++ take k items) (out-Item x) r) n items) least
  pub holds : Holds scope (before ++ take n items)

holds_same : {scope : Names} (xs ys : List Item) → xs ≡ ys → Holds scope xs → Holds scope ys
holds_same {scope = scope} xs ys e h = subst (λ xs. Holds scope xs) e h

pub scope_start : {unit items : List Item} {scope : Names} (before : List Item) → Holds scope before → ScopeSoFar unit before items 0 scope None
scope_start {unit = unit} {items = items} before h =
    record {
      best = best_start (λ (k : ℕ) (x : Item) (r : Refusal). ItemFault unit (before ++ take k items) (out-Item x) r) items;
      holds = holds_same before (before ++ []) (sym (append_none before)) h;
    }

pub scope_turn : {unit items : List Item} {old new : Names} {n : ℕ} {a : Option Refusal} (before : List Item) (x : Item) (b c : Option Refusal) → n < length items → x ≡ get_or items n x
    → ScopeSoFar unit before items n old a → TellsItem unit old x new b → c ≡ earlier a b → ScopeSoFar unit before items (n + 1) new c
scope_turn {items = items} {n = n} before x b c lt at so t e =
    let w = t (before ++ take n items) so.holds in
    record {
      best = best_turn x b c lt at so.best w.best e;
      holds = holds_same ((before ++ take n items) ++ x ∷ []) (before ++ take (n + 1) items) (append_assoc before (take n items) (x ∷ []) ∙ ap (λ ys. before ++ ys) (sym (take_more items n x lt at))) w.holds;
    }

take_whole : {A : Type 0} (xs : List A) (n : ℕ) → length xs ≤ n → take n xs ≡ xs
take_whole [] zero le = refl
take_whole [] (suc n) le = refl
take_whole (x ∷ xs) zero le = absurd (omega arith)
take_whole (x ∷ xs) (suc n) le = ap (λ ys. x ∷ ys) (take_whole xs n (omega arith))

pub scope_end : {unit items : List Item} {scope : Names} {n : ℕ} {a : Option Refusal} (before : List Item) → n ≡ length items → ScopeSoFar unit before items n scope a → ScopeTold unit before items scope a
scope_end {items = items} {n = n} before e so =
    record {
      best = best_to (length items) e so.best;
      holds = holds_same (before ++ take n items) (before ++ items) (ap (λ ys. before ++ ys) (take_whole items n (omega (arith, e)))) so.holds;
    }

-- a scope without names
pub empty_scope : {scope : Names} → scope.names ≡ [] → Holds scope []
empty_scope {scope = scope} e = record { same = λ n. ap (λ ks. is_some (lookup (bytes_eq n) ks)) e }

-- ---- files
pub record UnitSoFar (unit : List Item) (files : List Units) (n : ℕ) (scope : Names) (least : Option Refusal) : Type 0 where
  pub best : Best (Among (FileFault unit files) n files) least
  pub holds : Holds scope (unit_of (take n files))

pub unit_start : {unit : List Item} {files : List Units} {scope : Names} → scope.names ≡ [] → UnitSoFar unit files 0 scope None
unit_start {unit = unit} {files = files} e = record { best = best_start (FileFault unit files) files; holds = empty_scope e }

pub unit_turn : {unit : List Item} {files : List Units} {old new : Names} {n : ℕ} {a : Option Refusal} (f : Units) (b c : Option Refusal) → n < length files → f ≡ get_or files n f
    → UnitSoFar unit files n old a → TellsScope unit old f.items new b → c ≡ earlier a b → UnitSoFar unit files (n + 1) new c
unit_turn {files = files} {n = n} f b c lt at so t e =
    let w = t (unit_of (take n files)) so.holds in
    record {
      best = best_turn f b c lt at so.best w.best e;
      holds = holds_same (unit_of (take n files) ++ f.items) (unit_of (take (n + 1) files)) (sym (unit_more files n f lt at)) w.holds;
    }

-- ---- a package
pub seen_package : (x : Item) (at : Place) (name : List ℕ) (items : List Item) → x ≡ i.Package at name items → out-Item x ≡ Item-F.Package at name items
unfolding roll-Item roll
seen_package x at name items e = ap out-Item e ∙ out-roll-Item (Item-F.Package at name items)

inside : {unit : List Item} {at : Place} {name : List ℕ} {items : List Item} {r : Refusal} → PackageFault unit (Item-F.Package at name items) r → ScopeFault unit [] items r
inside (in_package at name items f) = f

pub package_told : {unit items : List Item} {scope : Names} {r : Option Refusal} (x : Item) (at : Place) (name : List ℕ) → out-Item x ≡ Item-F.Package at name items → ScopeTold unit [] items scope r
    → IsLeastOf (PackageFault unit (out-Item x)) r
package_told {unit = unit} {items = items} {r = r} x at name e w =
    subst (λ y. IsLeastOf (PackageFault unit y) r) (sym e) (alike_least (ScopeFault unit [] items) (PackageFault unit (Item-F.Package at name items)) r (λ s f. in_package at name items f) (λ s f. inside f) w.best)

from_names : {files : List Units} {r : Refusal} → NameFault files r → AmongAll (FileFault (unit_of files) files) files r ⊎ AmongAll (PackagesFault (unit_of files)) files r
from_names (in_unit f) = inl f
from_names (in_packages f) = inr f

pub names_told : (files : List Units) (a b c : Option Refusal) → IsLeastOf (AmongAll (FileFault (unit_of files) files) files) a → IsLeastOf (AmongAll (PackagesFault (unit_of files)) files) b → c ≡ earlier a b → IsLeastOf (NameFault files) c
names_told files a b c f g e =
    both_least (AmongAll (FileFault (unit_of files) files) files) (AmongAll (PackagesFault (unit_of files)) files) (NameFault files) a b c f g e
    (λ r h. elim h [ inl x ↦ in_unit x | inr y ↦ in_packages y ]) (λ r h. from_names h)

pub ended : (i n : ℕ) → i ≤ n → n ≤ i → i ≡ n
ended i n le ge = omega (arith, le, ge)
