-- Plans by the numbers of their items.
use Rattle.std.proofs.Common.{◌≡◌, ℕ, zero, suc, ◌+◌, List, [], ◌∷◌, ◌++◌, length, refl, ap, sym, subst, ◌∙◌, arith}
use Rattle.std.specs.Prelude.{Option, Some, None, slice_get, get_or}
use Rattle.std.proofs.lemmas.List.{length-append, append_assoc}
use Rattle.std.proofs.lemmas.Option.{slice_get_read}
use Rattle.std.proofs.Math.Seq.{get_or-append_seam}
use Rattle.nt_ast.specs.declared.expr.Key.{Key}
use Rattle.nt_ast.specs.declared.expr.Expr.{Expr}
use Rattle.nt_kinds.specs.declared.kind.Kind.{Kind}
use Rattle.nt_typing.specs.Tables.{one_item as the_one, with_plan, by_name, in_order, items_for, other_items}
use Rattle.nt_patterns.specs.Keys.{chosen}
use Rattle.nt_patterns.specs.Picks.{Items, Slots, Plan, Picks, no_picks, more_picks, Picked, IsFound, no_item, one_item, many_items}
use Rattle.nt_patterns.specs.declared.found.Found.{Found}

-- 0 to n - 1
abbrev pub counted : ℕ → List ℕ
counted zero = []
counted (suc n) = counted n ++ n ∷ []

-- what the rest gives, the whole gives
pub record Going (items : Items) (slots rest : Slots) (is : List ℕ) : Type 0 where
  pub none : by_name rest items ≡ None → by_name slots items ≡ None
  pub some : (js : List ℕ) (plan : Plan) → by_name rest items ≡ Some plan → Picks items rest js plan → Picked items slots (is ++ js) (by_name slots items)

pub going_first : (items : Items) (slots : Slots) → Going items slots slots []
going_first items slots = record { none = λ e. e; some = λ js plan e p. record { plan = plan; is_plan = e; picks = p } }

-- the chosen item of a slot
pub chosen_none : {items : Items} {xs ys : List Expr} (f g : Found) → IsFound items xs f → IsFound items ys g → chosen f g ≡ None → the_one xs ys ≡ None
chosen_none _ _ no_item no_item e = refl
chosen_none _ _ no_item (one_item i item h) e = cc
chosen_none _ _ no_item (many_items x y rest) e = refl
chosen_none _ _ (one_item i item h) b e = cc
chosen_none _ _ (many_items x y rest) b e = refl

pub record Chosen (items : Items) (xs ys : List Expr) (i : ℕ) : Type 0 where
  pub item : Option Key × Expr
  pub at : slice_get items i ≡ Some item
  pub is : the_one xs ys ≡ Some item.1

some_back : {A : Type 0} {a b : A} → Some a ≡ Some b → a ≡ b
some_back e = cc

pub chosen_some : {items : Items} {xs ys : List Expr} (f g : Found) (i : ℕ) → IsFound items xs f → IsFound items ys g → chosen f g ≡ Some i → Chosen items xs ys i
chosen_some _ _ i no_item no_item e = cc
chosen_some {items = items} _ _ i no_item (one_item j item h) e = record { item = item; at = subst (λ j. slice_get items j ≡ Some item) (some_back e) h; is = refl }
chosen_some _ _ i no_item (many_items x y rest) e = cc
chosen_some {items = items} _ _ i (one_item j item h) b e = record { item = item; at = subst (λ j. slice_get items j ≡ Some item) (some_back e) h; is = refl }
chosen_some _ _ i (many_items x y rest) b e = cc

none_none : (k : Kind) (o : Option Plan) → with_plan k None o ≡ None
none_none k o = refl

some_none : (k : Kind) (x : Expr) → with_plan k (Some x) None ≡ None
some_none k x = refl

append_one : (is : List ℕ) (i : ℕ) (js : List ℕ) → (is ++ i ∷ []) ++ js ≡ is ++ i ∷ js
append_one [] i js = refl
append_one (j ∷ is) i js = ap (λ ks. j ∷ ks) (append_one is i js)

module _ (items : Items) (slots rest : Slots) (slot : Option (List ℕ) × Kind) (is : List ℕ) (h : Going items slots (slot ∷ rest) is) where
  pub going_none : the_one (items_for slot.0 items) (other_items items) ≡ None → by_name slots items ≡ None
  going_none e = h.none (ap (λ o. with_plan slot.1 o (by_name rest items)) e)

  pub going_more : (i : ℕ) → Chosen items (items_for slot.0 items) (other_items items) i → Going items slots rest (is ++ i ∷ [])
  going_more i c = record {
    none = λ e. h.none (ap (λ o. with_plan slot.1 o (by_name rest items)) c.is ∙ ap (λ o. with_plan slot.1 (Some c.item.1) o) e);
    some = λ js plan e p.
        subst (λ ks. Picked items slots ks (by_name slots items)) (sym (append_one is i js))
        (h.some (i ∷ js) ((c.item.1, slot.1) ∷ plan) (ap (λ o. with_plan slot.1 o (by_name rest items)) c.is ∙ ap (λ o. with_plan slot.1 (Some c.item.1) o) e) (more_picks slot i c.item c.at p));
  }

append_none : (is : List ℕ) → is ++ [] ≡ is
append_none [] = refl
append_none (i ∷ is) = ap (λ js. i ∷ js) (append_none is)

pub going_end : (items : Items) (slots : Slots) (is : List ℕ) → Going items slots [] is → Picked items slots is (by_name slots items)
going_end items slots is h = subst (λ is. Picked items slots is (by_name slots items)) (append_none is) (h.some [] [] refl no_picks)

at_seam : (before : Items) (i : Option Key × Expr) (rest : Items) (k : ℕ) → k ≡ length before → slice_get (before ++ i ∷ rest) k ≡ Some i
at_seam before i rest k e =
    let n = length-append before (i ∷ rest) in
    slice_get_read (before ++ i ∷ rest) (length (before ++ i ∷ rest)) k i refl (omega (arith, n, e)) (sym (ap (λ k. get_or (before ++ i ∷ rest) k i) e ∙ get_or-append_seam before i rest i))

-- one item after another
ordered_by : (slot : Option (List ℕ) × Kind) (i : Option Key × Expr) (o : Option Plan) → o ≡ None → with_plan slot.1 (Some i.1) o ≡ None
ordered_by slot i o e = ap (λ o. with_plan slot.1 (Some i.1) o) e

pub order_none : (slots : Slots) (items : Items) → (length slots ≡ length items → ⊥) → in_order slots items ≡ None
order_none [] [] n = absurd (n refl)
order_none [] (i ∷ items) n = refl
order_none (s ∷ slots) [] n = refl
order_none (s ∷ slots) (i ∷ items) n = ordered_by s i (in_order slots items) (order_none slots items (λ e. n (ap suc e)))

-- k to k + n - 1
abbrev pub from : ℕ → ℕ → List ℕ
from k zero = []
from k (suc n) = k ∷ from (suc k) n

from_more : (k n : ℕ) → from k n ++ (k + n) ∷ [] ≡ from k (suc n)
from_more k zero = ap (λ m. m ∷ []) (let e : k + 0 ≡ k = omega arith in e)
from_more k (suc n) = ap (λ js. k ∷ js) (ap (λ m. from (suc k) n ++ m ∷ []) (let e : k + suc n ≡ suc k + n = omega arith in e) ∙ from_more (suc k) n)

pub counted_from : (n : ℕ) → counted n ≡ from 0 n
counted_from zero = refl
counted_from (suc n) = ap (λ js. js ++ n ∷ []) (counted_from n) ∙ ap (λ m. from 0 n ++ m ∷ []) (let e : n ≡ 0 + n = omega arith in e) ∙ from_more 0 n

picked_more : (items : Items) (slot : Option (List ℕ) × Kind) (slots : Slots) (k : ℕ) (item : Option Key × Expr) (js : List ℕ) (o : Option Plan) → slice_get items k ≡ Some item
    → Picked items slots js o → Picked items (slot ∷ slots) (k ∷ js) (with_plan slot.1 (Some item.1) o)
picked_more items slot slots k item js o e h = record { plan = (item.1, slot.1) ∷ h.plan; is_plan = ap (λ o. with_plan slot.1 (Some item.1) o) h.is_plan; picks = more_picks slot k item e h.picks }

suc_back : (n m : ℕ) → suc n ≡ suc m → n ≡ m
suc_back n m e = omega (arith, e)

order_from : (before rest : Items) (slots : Slots) (k : ℕ) → k ≡ length before → length slots ≡ length rest → Picked (before ++ rest) slots (from k (length slots)) (in_order slots rest)
order_from before [] [] k e n = record { plan = []; is_plan = refl; picks = no_picks }
order_from before [] (s ∷ slots) k e n = absurd (omega (arith, n))
order_from before (i ∷ rest) [] k e n = absurd (omega (arith, n))
order_from before (i ∷ rest) (s ∷ slots) k e n =
    let next : length (before ++ i ∷ []) ≡ length before + 1 = length-append before (i ∷ []) in
    picked_more (before ++ i ∷ rest) s slots k i (from (suc k) (length slots)) (in_order slots rest) (at_seam before i rest k e)
    (subst (λ all. Picked all slots (from (suc k) (length slots)) (in_order slots rest)) (append_assoc before (i ∷ []) rest)
    (order_from (before ++ i ∷ []) rest slots (suc k) (omega (arith, e, next)) (suc_back (length slots) (length rest) n)))

pub order_picked : (items : Items) (slots : Slots) (n : ℕ) (is : List ℕ) → length slots ≡ length items → length slots ≡ n → is ≡ counted n → Picked items slots is (in_order slots items)
order_picked items slots n is e g h =
    subst (λ is. Picked items slots is (in_order slots items)) (sym (h ∙ counted_from n ∙ ap (from 0) (sym g))) (order_from [] items slots 0 refl e)

-- the loops
pub names_none : (items : Items) (slots rest all : Slots) (slot : Option (List ℕ) × Kind) (is : List ℕ) (f g : Found) (o : Option ℕ) → all ≡ slot ∷ rest → Going items slots all is
    → IsFound items (items_for slot.0 items) f → IsFound items (other_items items) g → o ≡ chosen f g → o ≡ None → by_name slots items ≡ None
names_none items slots rest all slot is f g o e h a b c n = going_none items slots rest slot is (subst (λ all. Going items slots all is) e h) (chosen_none f g a b (sym c ∙ n))

pub names_more : (items : Items) (slots rest all : Slots) (slot : Option (List ℕ) × Kind) (is js : List ℕ) (f g : Found) (o : Option ℕ) (i : ℕ) → all ≡ slot ∷ rest → Going items slots all is
    → IsFound items (items_for slot.0 items) f → IsFound items (other_items items) g → o ≡ chosen f g → o ≡ Some i → js ≡ is ++ i ∷ [] → Going items slots rest js
names_more items slots rest all slot is js f g o i e h a b c n p =
    subst (Going items slots rest) (sym p) (going_more items slots rest slot is (subst (λ all. Going items slots all is) e h) i (chosen_some f g i a b (sym c ∙ n)))

pub names_end : (items : Items) (slots all : Slots) (is : List ℕ) → all ≡ [] → Going items slots all is → Picked items slots is (by_name slots items)
names_end items slots all is e h = going_end items slots is (subst (λ all. Going items slots all is) e h)
