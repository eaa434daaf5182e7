-- Scopes of items.
use Rattle.std.proofs.Common.{◌≡◌, ℕ, ◌+◌, ◌<◌, List, [], ◌∷◌, ◌++◌, map, length, take, get_or, refl, sym, ap, ◌∙◌, subst, arith, append_assoc, length-append}
use Rattle.std.specs.Prelude.{Option}
use Rattle.std.proofs.lemmas.Grind.{flat_map-append}
use Rattle.nt_items.specs.declared.item.Item.{Item}
use Rattle.nt_items.specs.declared.item.Item.TheViews.{out-Item}
use Rattle.nt_scopes.specs.declared.scope.Entry.{Entry}
use Rattle.nt_scopes.specs.declared.scope.Import.{Import}
use Rattle.nt_scopes.specs.Means.{Names}
use Rattle.nt_types.specs.declared.parts.What.{What}
use Rattle.nt_types.specs.declared.units.Home.{Home}
use Rattle.nt_types.specs.Parts.{Part, unit_name, parts_of, inner_parts, names_from, Adds}
use Rattle.nt_types.specs.Units.{all_imports, imports_of, inner_items, parts_under, unit_parts, unit_names, inner_scopes, scope_of, IsScope, IsInner, AreParts, IsUnit, packages_of, homes_from, UnitScopes, scopes_of, scope_by}
use Rattle.nt_types.proofs.Adding.{map_append, map_length, take_more}
use Rattle.nt_types.proofs.Listing.{append_none}

pub scope_told : {packages : List (List ℕ × Entry)} {before after : List What} {a b c : Names} {parts : List Part} {items : List Item} → a.names ≡ [] → a.imports ≡ [] → Adds a b before after parts
    → c.imports ≡ b.imports ++ all_imports packages items → c.names ≡ b.names → IsScope packages before after parts items c
scope_told {packages = packages} {before = before} {parts = parts} {items = items} none no_imports adds imports names =
    record {
      names = names ∙ adds.names ∙ ap (λ ks. names_from ks (length before) parts) none;
      imports = imports ∙ ap (λ is. is ++ all_imports packages items) (adds.imports ∙ no_imports);
      whats = adds.whats;
    }

-- ---- the unit, by references to its items
pub imports_more : {A : Type 0} (now : A → Item) (packages : List (List ℕ × Entry)) (xs : List A) (i : ℕ) (x : A) → i < length xs → x ≡ get_or xs i x
    → all_imports packages (map now (take i xs)) ++ imports_of packages (out-Item (now x)) ≡ all_imports packages (map now (take (i + 1) xs))
imports_more now packages xs i x lt at =
    ap (λ ps. all_imports packages (map now (take i xs)) ++ ps) (sym (append_none (imports_of packages (out-Item (now x)))))
    ∙ sym (flat_map-append (λ x. imports_of packages (out-Item x)) (map now (take i xs)) (now x ∷ []))
    ∙ ap (all_imports packages) (sym (map_append now (take i xs) (x ∷ [])) ∙ sym (ap (map now) (take_more xs i x lt at)))

-- ---- one item after the other
names_append : (scope : Option (List ℕ)) (names : List (List ℕ × Entry)) (n : ℕ) (xs : List Item) (x : Item)
    → unit_names scope names n (xs ++ x ∷ []) ≡ names_from (unit_names scope names n xs) (n + length (unit_parts scope xs)) (parts_of scope (out-Item x))
names_append scope names n [] x = let e : n ≡ n + 0 = omega arith in ap (λ m. names_from names m (parts_of scope (out-Item x))) e
names_append scope names n (y ∷ xs) x =
    let here = parts_under scope (out-Item y) in
    let rest = unit_parts scope xs in
    let e : (n + length here) + length rest ≡ n + length (here ++ rest) = let l = length-append here rest in omega (arith, l) in
    names_append scope (names_from names n (parts_of scope (out-Item y))) (n + length here) xs x
    ∙ ap (λ m. names_from (unit_names scope (names_from names n (parts_of scope (out-Item y))) (n + length here) xs) m (parts_of scope (out-Item x))) e

abbrev own_scope : Option (List ℕ) → List (List ℕ × Entry) → ℕ → Item → Names
own_scope scope packages n x = scope_of packages (n + length (parts_of scope (out-Item x))) (inner_parts (out-Item x)) (inner_items (out-Item x))

inner_append : (scope : Option (List ℕ)) (packages : List (List ℕ × Entry)) (n : ℕ) (xs : List Item) (x : Item)
    → inner_scopes scope packages n (xs ++ x ∷ []) ≡ inner_scopes scope packages n xs ++ own_scope scope packages (n + length (unit_parts scope xs)) x ∷ []
inner_append scope packages n [] x = let e : n ≡ n + 0 = omega arith in ap (λ m. own_scope scope packages m x ∷ []) e
inner_append scope packages n (y ∷ xs) x =
    let here = parts_under scope (out-Item y) in
    let rest = unit_parts scope xs in
    let e : (n + length here) + length rest ≡ n + length (here ++ rest) = let l = length-append here rest in omega (arith, l) in
    ap (λ ss. own_scope scope packages n y ∷ ss)
    (inner_append scope packages (n + length here) xs x ∙ ap (λ m. inner_scopes scope packages (n + length here) xs ++ own_scope scope packages m x ∷ []) e)

abbrev made : List (List ℕ × Entry) → List Import → Names
made names imports = record { names = names; imports = imports }

record_same : (packages : List (List ℕ × Entry)) (n : ℕ) (parts : List Part) (items : List Item) (s : Names) → s.names ≡ names_from [] n parts → s.imports ≡ all_imports packages items → s ≡ scope_of packages n parts items
record_same packages n parts items s e f = ap (λ ks. made ks s.imports) e ∙ ap (λ is. made (names_from [] n parts) is) f

pub parts_none : (scope : Option (List ℕ)) (packages : List (List ℕ × Entry)) (ws : List What) (s : Names) (ss : List Names) → AreParts scope packages [] ws ws s s ss ss
parts_none scope packages ws s ss = record { names = refl; imports = refl; scopes = sym (append_none ss); whats = sym (append_none ws) }

pub parts_more : {scope : Option (List ℕ)} {packages : List (List ℕ × Entry)} {unit : List Item} {a b c d : List What} {old mid new : Names} {olds mids : List Names} (x : Item) (s : Names)
    → AreParts scope packages unit a b old mid olds mids → Adds mid new b c (parts_of scope (out-Item x)) → IsInner packages x c d s
    → AreParts scope packages (unit ++ x ∷ []) a d old new olds (mids ++ s ∷ [])
parts_more {scope = scope} {packages = packages} {unit = unit} {a = a} {b = b} {c = c} {old = old} {mid = mid} {olds = olds} x s so adds one =
    let what = (λ (p : Part). p.what) in
    let rest = unit_parts scope unit in
    let own = parts_of scope (out-Item x) in
    let here = inner_parts (out-Item x) in
    let n : length b ≡ length a + length rest = ap length so.whats ∙ length-append a (map what rest) ∙ ap (λ m. length a + m) (map_length what rest) in
    let m : length c ≡ (length a + length rest) + length own = ap length adds.whats ∙ length-append b (map what own) ∙ ap (λ m. length b + m) (map_length what own) ∙ ap (λ k. k + length own) n in
    let is : s ≡ own_scope scope packages (length a + length rest) x = record_same packages _ here (inner_items (out-Item x)) s (one.names ∙ ap (λ m. names_from [] m here) m) one.imports in
    record {
      names =
          adds.names ∙ ap (λ ks. names_from ks (length b) own) so.names ∙ ap (λ m. names_from (unit_names scope old.names (length a) unit) m own) n
          ∙ sym (names_append scope old.names (length a) unit x);
      imports = adds.imports ∙ so.imports;
      scopes =
          ap (λ ss. ss ++ s ∷ []) so.scopes ∙ append_assoc olds (inner_scopes scope packages (length a) unit) (s ∷ [])
          ∙ ap (λ t. olds ++ (inner_scopes scope packages (length a) unit ++ t ∷ [])) is
          ∙ ap (λ ss. olds ++ ss) (sym (inner_append scope packages (length a) unit x));
      whats =
          one.whats ∙ ap (λ ws. ws ++ map what here) adds.whats ∙ append_assoc b (map what own) (map what here)
          ∙ ap (λ ws. b ++ ws) (sym (map_append what own here)) ∙ ap (λ ws. ws ++ map what (own ++ here)) so.whats
          ∙ append_assoc a (map what rest) (map what (own ++ here))
          ∙ ap (λ ws. a ++ ws) (sym (map_append what rest (own ++ here)) ∙ ap (map what) (ap (λ ps. rest ++ ps) (sym (append_none (own ++ here))) ∙ sym (flat_map-append (λ x. parts_under scope (out-Item x)) unit (x ∷ []))));
    }

pub parts_same : {scope : Option (List ℕ)} {packages : List (List ℕ × Entry)} {a b : List What} {old new : Names} {olds news : List Names} (xs ys : List Item) → xs ≡ ys
    → AreParts scope packages xs a b old new olds news → AreParts scope packages ys a b old new olds news
parts_same {scope = scope} {packages = packages} {a = a} {b = b} {old = old} {new = new} {olds = olds} {news = news} xs ys e f = subst (λ xs. AreParts scope packages xs a b old new olds news) e f

pub refs_more : {A : Type 0} (now : A → Item) (xs : List A) (i : ℕ) (x : A) → i < length xs → x ≡ get_or xs i x → map now (take i xs) ++ now x ∷ [] ≡ map now (take (i + 1) xs)
refs_more now xs i x lt at = sym (map_append now (take i xs) (x ∷ [])) ∙ sym (ap (map now) (take_more xs i x lt at))

pub unit_told : {scope : Option (List ℕ)} {packages : List (List ℕ × Entry)} {unit : List Item} {before after : List What} {olds news : List Names} {a b c : Names} → scope ≡ unit_name → a.names ≡ [] → a.imports ≡ []
    → AreParts scope packages unit before after a b olds news → c.imports ≡ b.imports ++ all_imports packages unit → c.names ≡ b.names → IsUnit packages unit before after olds news c
unit_told {packages = packages} {unit = unit} {before = before} {after = after} {olds = olds} {news = news} {a = a} {b = b} {c = c} e none no_imports parts imports names =
    let p : AreParts unit_name packages unit before after a b olds news = subst (λ scope. AreParts scope packages unit before after a b olds news) e parts in
    record {
      names = names ∙ p.names ∙ ap (λ ks. unit_names unit_name ks (length before) unit) none;
      imports = imports ∙ ap (λ is. is ++ all_imports packages unit) (p.imports ∙ no_imports);
      scopes = p.scopes;
      whats = p.whats;
    }

-- ---- all of it
abbrev whole_of : List Names → List (List ℕ × Entry) → List What → List Home → UnitScopes
whole_of scopes packages whats homes = record { scopes = scopes; packages = packages; whats = whats; homes = homes }

pub whole_told : {unit : List Item} {whole : List What} {first : Names} {inner heads all : List Names} {packages : List (List ℕ × Entry)} {homes : List Home} → packages ≡ packages_of unit → homes ≡ homes_from 1 unit
    → IsUnit packages unit [] whole [] inner first → heads ≡ first ∷ [] → all ≡ heads ++ inner → whole_of all packages whole homes ≡ scopes_of unit
whole_told {unit = unit} {whole = whole} {first = first} {inner = inner} {all = all} {packages = packages} {homes = homes} is at one head more =
    let f : first ≡ made (unit_names unit_name [] 0 unit) (all_imports (packages_of unit) unit) =
    ap (λ ks. made ks first.imports) one.names ∙ ap (λ is. made (unit_names unit_name [] 0 unit) is) (one.imports ∙ ap (λ ps. all_imports ps unit) is) in
    let g : inner ≡ inner_scopes unit_name (packages_of unit) 0 unit = one.scopes ∙ ap (λ ps. inner_scopes unit_name ps 0 unit) is in
    let ss : all ≡ made (unit_names unit_name [] 0 unit) (all_imports (packages_of unit) unit) ∷ inner_scopes unit_name (packages_of unit) 0 unit =
    more ∙ ap (λ ss. ss ++ inner) head ∙ ap (λ s. s ∷ inner) f ∙ ap (λ ss. made (unit_names unit_name [] 0 unit) (all_imports (packages_of unit) unit) ∷ ss) g in
    let scopes = made (unit_names unit_name [] 0 unit) (all_imports (packages_of unit) unit) ∷ inner_scopes unit_name (packages_of unit) 0 unit in
    ap (λ xs. whole_of xs packages whole homes) ss
    ∙ ap (λ ps. whole_of scopes ps whole homes) is
    ∙ ap (λ vs. whole_of scopes (packages_of unit) vs homes) one.whats
    ∙ ap (λ hs. whole_of scopes (packages_of unit) (map (λ (p : Part). p.what) (unit_parts unit_name unit)) hs) at

pub unit_moved : {packages : List (List ℕ × Entry)} {before after : List What} {olds news : List Names} {s : Names} (xs ys : List Item) → before ≡ [] → olds ≡ [] → xs ≡ ys → IsUnit packages xs before after olds news s → IsUnit packages ys [] after [] news s
unit_moved {packages = packages} {before = before} {after = after} {olds = olds} {news = news} {s = s} xs ys e f g w =
    subst (λ b. IsUnit packages ys b after [] news s) e (subst (λ o. IsUnit packages ys before after o news s) f (subst (λ xs. IsUnit packages xs before after olds news s) g w))

pub by_number : (o : Option Names) (p : Option Names) → o ≡ p → scope_by o ≡ scope_by p
by_number o p e = ap scope_by e
