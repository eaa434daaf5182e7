-- Names, one after the other, and the least fault of them.
use Rattle.std.proofs.Common.{◌≡◌, ℕ, zero, suc, ◌+◌, ◌<◌, ◌≤◌, ◌⊎◌, inl, inr, Bool, true, false, List, [], ◌∷◌, ◌++◌, length, take, get_or, slice_get, refl, sym, ap, ◌∙◌, subst, arith, add-one}
use Rattle.std.specs.Prelude.{Option, Some, None, Result, IfOk, is_some, ◌||◌}
use Rattle.std.specs.Map.{lookup}
use Rattle.std.specs.Str.{bytes_eq}
use denote.Hole.Carrier.{roll}
use Rattle.std.proofs.Math.Seq.{take-suc}
use Rattle.nt_value.specs.declared.place.Place.{Place}
use Rattle.nt_diag.specs.declared.refusal.Refusal.{Refusal}
use Rattle.nt_diag.specs.declared.rule.Rule.TheVariants as rule
use Rattle.nt_diag.specs.Order.{IsLeastOf, Among, AmongAll, among, earlier}
use Rattle.nt_diag.proofs.Least.{Best, best_start, best_turn, best_to, least_one, both_least}
use Rattle.nt_ast.specs.declared.path.Declared.{Declared}
use Rattle.nt_ast.specs.declared.types.TypeTree.{TypeTree}
use Rattle.nt_ast.specs.declared.types.TypeTree.TheOpen.{TypeTree-F}
use Rattle.nt_ast.specs.declared.types.TypeTree.TheViews.{out-TypeTree, roll-TypeTree, out-roll-TypeTree}
use Rattle.nt_ast.specs.declared.types.TypeTree.TheVariants as t
use Rattle.nt_scopes.specs.declared.scope.Entry.{Entry}
use Rattle.nt_scopes.specs.Means.{added}
use Rattle.nt_unit_names.specs.Faults.{refusal}
use Rattle.nt_unit_names.proofs.Naming.{added_has, any_append}
use Rattle.nt_own_names.specs.declared.named.Named.{Named}
use Rattle.nt_own_names.specs.Twice.{is_named, IsAgain, fault_if, Twice, member_names, TypeTwice, members, inside}

take_more : {A : Type 0} (xs : List A) (i : ℕ) (x : A) → i < length xs → x ≡ get_or xs i x → take (i + 1) xs ≡ take i xs ++ x ∷ []
take_more xs i x lt at = ap (λ n. take n xs) (add-one i) ∙ take-suc xs i x lt ∙ ap (λ y. take i xs ++ y ∷ []) (sym at)

or_false : (a : Bool) → (a || false) ≡ a
or_false true = refl
or_false false = refl

named_more : (name : List ℕ) (before : List Named) (d : Named) → is_named name (before ++ d ∷ []) ≡ (is_named name before || bytes_eq name d.name)
named_more name before d = any_append (λ (d : Named). bytes_eq name d.name) before (d ∷ []) ∙ ap (λ b. is_named name before || b) (or_false (bytes_eq name d.name))

-- the scope has the names of the first n, and this is the least fault of them
pub record SoFar (names : List Named) (n : ℕ) (scope : List (List ℕ × Entry)) (least : Option Refusal) : Type 0 where
  pub holds : (name : List ℕ) → is_some (lookup (bytes_eq name) scope) ≡ is_named name (take n names)
  pub best : Best (Among (λ (k : ℕ) (d : Named) (r : Refusal). IsAgain (take k names) d r) n names) least

pub names_start : (names : List Named) (scope : List (List ℕ × Entry)) → scope ≡ [] → SoFar names 0 scope None
names_start names scope e =
    record {
      holds = λ n. ap (λ ks. is_some (lookup (bytes_eq n) ks)) e;
      best = best_start (λ (k : ℕ) (d : Named) (r : Refusal). IsAgain (take k names) d r) names;
    }

again_least : (before : List Named) (d : Named) (b : Bool) → b ≡ is_named d.name before → IsLeastOf (IsAgain before d) (fault_if b d.at)
again_least before d true e = least_one (IsAgain before d) (refusal rule.T5 d.at) (sym e, refl) (λ r f. f.1)
again_least before d false e = λ r f. let g = f.0 in cc

pub names_turn : {names : List Named} {old new : List (List ℕ × Entry)} {n : ℕ} {a : Option Refusal} (d : Named) (e : Entry) (b : Bool) (f c : Option Refusal) → n < length names → d ≡ get_or names n d
    → SoFar names n old a → b ≡ is_some (lookup (bytes_eq d.name) old) → new ≡ added old d.name e → f ≡ fault_if b d.at → c ≡ earlier a f → SoFar names (n + 1) new c
names_turn {names = names} {old = old} {n = n} d e b f c lt at so is more fault least =
    record {
      holds = λ m.
          ap (λ ks. is_some (lookup (bytes_eq m) ks)) more ∙ added_has old d.name m e
          ∙ ap (λ x. x || bytes_eq m d.name) (so.holds m)
          ∙ sym (named_more m (take n names) d)
          ∙ ap (is_named m) (sym (take_more names n d lt at));
      best = best_turn d f c lt at so.best (subst (λ o. IsLeastOf (IsAgain (take n names) d) o) (sym fault) (again_least (take n names) d b (is ∙ so.holds d.name))) least;
    }

pub names_end : {names : List Named} {scope : List (List ℕ × Entry)} {n : ℕ} {a : Option Refusal} → n ≡ length names → SoFar names n scope a → IsLeastOf (Twice names) a
names_end {names = names} e so = best_to (length names) e so.best

pub ended : (i n : ℕ) → i ≤ n → n ≤ i → i ≡ n
ended i n le ge = omega (arith, le, ge)

-- ---- structures
slice_within : {A : Type 0} (xs : List A) (k : ℕ) (x : A) → slice_get xs k ≡ Some x → k < length xs
slice_within [] k x e = cc
slice_within (y ∷ ys) zero x e = omega arith
slice_within (y ∷ ys) (suc k) x e = let le = slice_within ys k x e in omega (arith, le)

from_struct : {at : Place} {ms : List (TypeTree × Declared)} {r : Refusal} → TypeTwice (TypeTree-F.Struct at ms) r → Twice (member_names ms) r ⊎ AmongAll (λ (k : ℕ) (m : TypeTree × Declared) (r : Refusal). TypeTwice (out-TypeTree m.0) r) ms r
from_struct (members at ms f) = inl f
from_struct (inside at ms k m is f) = inr (among k m (slice_within ms k m is) is f)

to_struct : {at : Place} {ms : List (TypeTree × Declared)} {r : Refusal} → Twice (member_names ms) r ⊎ AmongAll (λ (k : ℕ) (m : TypeTree × Declared) (r : Refusal). TypeTwice (out-TypeTree m.0) r) ms r → TypeTwice (TypeTree-F.Struct at ms) r
to_struct {at = at} {ms = ms} (inl f) = members at ms f
to_struct {at = at} {ms = ms} (inr (among k m lt is f)) = inside at ms k m is f

pub struct_told : (x : TypeTree) (at : Place) (ms : List (TypeTree × Declared)) (a b c : Option Refusal) → out-TypeTree x ≡ TypeTree-F.Struct at ms → IsLeastOf (Twice (member_names ms)) a
    → IsLeastOf (AmongAll (λ (k : ℕ) (m : TypeTree × Declared) (r : Refusal). TypeTwice (out-TypeTree m.0) r) ms) b → c ≡ earlier a b → IsLeastOf (TypeTwice (out-TypeTree x)) c
struct_told x at ms a b c e f g h =
    subst (λ y. IsLeastOf (TypeTwice y) c) (sym e)
    (both_least (Twice (member_names ms)) (AmongAll (λ (k : ℕ) (m : TypeTree × Declared) (r : Refusal). TypeTwice (out-TypeTree m.0) r) ms) (TypeTwice (TypeTree-F.Struct at ms)) a b c f g h (λ r x. to_struct x) (λ r x. from_struct x))

-- ---- lists of names
pub three : {A : Type 0} {a b c d : List A} (xs ys zs : List A) → a ≡ [] → b ≡ a ++ xs → c ≡ b ++ ys → d ≡ c ++ zs → d ≡ (xs ++ ys) ++ zs
three xs ys zs e f g h = h ∙ ap (λ q. q ++ zs) (g ∙ ap (λ q. q ++ ys) (f ∙ ap (λ q. q ++ xs) e))

pub told_of : {E : Type 0} {a : List Named} (res : Result (Option Refusal) E) (b : List Named) → a ≡ b → IfOk res (λ r. IsLeastOf (Twice a) r) → IfOk res (λ r. IsLeastOf (Twice b) r)
told_of res b e f = subst (λ ns. IfOk res (λ r. IsLeastOf (Twice ns) r)) e f

pub seen_struct : (x : TypeTree) (at : Place) (ms : List (TypeTree × Declared)) → x ≡ t.Struct at ms → out-TypeTree x ≡ TypeTree-F.Struct at ms
unfolding roll-TypeTree roll
seen_struct x at ms e = ap out-TypeTree e ∙ out-roll-TypeTree (TypeTree-F.Struct at ms)
