-- The items of a pattern so far: what the rest gives, the whole gives.
use Rattle.std.proofs.Common.{◌≡◌, ◌⊎◌, ℕ, ◌+◌, ◌++◌, Bool, true, false, List, [], ◌∷◌, drop, Option, Some, None, Result, Ok, Err, refl, sym, ap, ◌∙◌, subst, arith, inl, inr}
use Rattle.std.specs.Prelude.{if◌then◌else◌, option_map, slice_get, suc}
use Rattle.std.proofs.lemmas.List.{append_assoc}
use Rattle.nt_value.specs.declared.place.Place.{Place}
use Rattle.nt_diag.specs.declared.rule.Rule.{Rule}
use Rattle.nt_diag.specs.declared.refusal.Fault.{Fault as Failure}
use Rattle.nt_diag.specs.declared.refusal.Fault.TheVariants as fault
use Rattle.nt_diag.specs.declared.refusal.Refusal.{Refusal}
use Rattle.nt_diag.specs.Order.{NoLater, IsLeastOf, earlier, is_no_later}
use Rattle.nt_diag.proofs.Least.{Best, best_join}
use Rattle.nt_ast.specs.Places.{Placed}
use Rattle.nt_ast.specs.declared.expr.Key.{Key}
use Rattle.nt_ast.specs.declared.expr.Expr.{Expr}
use Rattle.nt_ast.specs.declared.expr.Expr.TheViews.{out-Expr}
use Rattle.nt_const.specs.Tells.{refusal}
use Rattle.nt_design.specs.declared.tree.Tree.{Tree}
use Rattle.nt_kinds.specs.declared.kind.Kind.{Kind}
use Rattle.nt_kinds.specs.declared.kind.Kind.TheViews.{out-Kind}
use Rattle.nt_typing.specs.Tables.{planned, slots_of}
use Rattle.nt_patterns.specs.Picks.{Items, Slots, Plan, PicksFor}
use Rattle.nt_typing.specs.Typing.{Goes, AllGo, none_go, more_go}
use Rattle.nt_typing.specs.Faults.{Need, Asked, goes, Among, here, there, Misses, all_go}
use Rattle.nt_typing.specs.Places.{exprs, RefusesTo, RefusesOperand, Scattered, somewhere}
use Rattle.nt_typing.specs.declared.scope.Scope.{Scope}
use Rattle.nt_typing.proofs.Excluded.{no_misses, fit_goes}
use Rattle.nt_typing.proofs.Least.{same}
use Rattle.nt_typing.proofs.LeastTo.{refuse_going}
use Rattle.nt_forms.specs.Walks.{Sends, SomeSent}
use Rattle.nt_bind.specs.Patterns.{Joins, ended, ended_by}
use Rattle.nt_bind.specs.declared.gather.Gathered.{Gathered}
use Rattle.nt_bind.proofs.Walking.{Slot, numbered, picks_at}

-- no later than the least fault so far, if there is one
abbrev pub Later : Option Refusal → Refusal → Type 0
Later None u = ⊥
Later (Some r) u = NoLater r u

pub record Picking (s : Scope) (plan : List (Expr × Kind)) (i : ℕ) (all : Gathered) : Type 0 where
  pub goes : all.least ≡ None → (us : List Tree) → AllGo s (drop i plan) us → AllGo s plan (all.trees ++ us)
  pub is : (r : Refusal) → all.least ≡ Some r → Among s (all_go plan) r.rule r.place
  pub up : (t : Rule) (q : Place) → Among s (all_go (drop i plan)) t q → Among s (all_go plan) t q
  pub scattered : (f : ℕ) → Scattered f (exprs (all_go plan)) → Scattered f (exprs (all_go (drop i plan)))
  pub split : (f : ℕ) → Scattered f (exprs (all_go plan)) → (t : Rule) (q : Place) → Among s (all_go plan) t q → Among s (all_go (drop i plan)) t q ⊎ Later all.least (refusal t q)

none_some : {r : Refusal} → None ≡ Some r → ⊥
none_some e = cc

some_back : {A : Type 0} {a b : A} → Some a ≡ Some b → a ≡ b
some_back e = cc

pub picking_first : (s : Scope) (plan : List (Expr × Kind)) (all : Gathered) → all ≡ record { trees = []; least = None } → Picking s plan 0 all
picking_first s plan all e =
    subst (Picking s plan 0) (sym e)
    (record { goes = λ g us h. h; is = λ r g. absurd (none_some g); up = λ t q h. h; scattered = λ f h. h; split = λ f h t q w. inl w })

-- the earlier one of two
best_later : (o : Option Refusal) → Best (Later o) o
best_later None = record { best = λ r h. h }
best_later (Some r) = record { best = record { is = same r.rule r.place; least = λ u h. h } }

later_of : (F : Refusal → Type 0) (o : Option Refusal) (u : Refusal) → IsLeastOf F o → F u → Later o u
later_of F None u h w = h u w
later_of F (Some r) u h w = h.least u w

pub later_old : (o : Option Refusal) (r u : Refusal) → Later o u → Later (earlier o (Some r)) u
later_old o r u h = later_of (λ u. Later o u ⊎ Later (Some r) u) (earlier o (Some r)) u (best_join (best_later o) (best_later (Some r))).best (inl h)

pub later_new : (o : Option Refusal) (r u : Refusal) → NoLater r u → Later (earlier o (Some r)) u
later_new o r u h = later_of (λ u. Later o u ⊎ Later (Some r) u) (earlier o (Some r)) u (best_join (best_later o) (best_later (Some r))).best (inr h)

-- it is one of the two
either_by : (b : Bool) (x r u : Refusal) → (if b then Some x else Some r) ≡ Some u → (Some x ≡ Some u) ⊎ (r ≡ u)
either_by true x r u e = inl e
either_by false x r u e = inr (some_back e)

either : (o : Option Refusal) (r u : Refusal) → earlier o (Some r) ≡ Some u → (o ≡ Some u) ⊎ (r ≡ u)
either None r u e = inr (some_back e)
either (Some x) r u e = either_by (is_no_later x r) x r u e

never_by : (b : Bool) (x r : Refusal) → (if b then Some x else Some r) ≡ None → ⊥
never_by true x r e = cc
never_by false x r e = cc

never : (o : Option Refusal) (r : Refusal) → earlier o (Some r) ≡ None → ⊥
never None r e = cc
never (Some x) r e = never_by (is_no_later x r) x r e

-- ---- one item more
first_placed : (f : ℕ) (n : Need) (x : Expr) (rest : Asked) → Scattered f (exprs ((n, x) ∷ rest)) → (P : Type 0) → ((i j : ℕ) → Placed f i j (out-Expr x) → P) → P
first_placed f n x rest (somewhere {i = i} {j = j} _ _ a z) P go = go i j a

rest_placed : (f : ℕ) (n : Need) (x : Expr) (rest : Asked) → Scattered f (exprs ((n, x) ∷ rest)) → Scattered f (exprs rest)
rest_placed f n x rest (somewhere _ _ a z) = z

module _ (s : Scope) (plan : List (Expr × Kind)) (i : ℕ) (x : Expr) (k : Kind) (e : drop i plan ≡ (x, k) ∷ drop (i + 1) plan) where
  asked_is : all_go (drop i plan) ≡ (goes k, x) ∷ all_go (drop (i + 1) plan)
  asked_is = ap all_go e

  in_here : (t : Rule) (q : Place) → Misses s (goes k) (out-Expr x) t q → Among s (all_go (drop i plan)) t q
  in_here t q m = subst (λ ns. Among s ns t q) (sym asked_is) (here x _ m)

  in_rest : (t : Rule) (q : Place) → Among s (all_go (drop (i + 1) plan)) t q → Among s (all_go (drop i plan)) t q
  in_rest t q m = subst (λ ns. Among s ns t q) (sym asked_is) (there x _ m)

  by_first : (P : Type 0) (t : Rule) (q : Place) → (Misses s (goes k) (out-Expr x) t q → P) → Among s ((goes k, x) ∷ all_go (drop (i + 1) plan)) t q → Among s (all_go (drop (i + 1) plan)) t q ⊎ P
  by_first P t q go (here _ _ m) = inr (go m)
  by_first P t q go (there _ _ w) = inl w

  rest_scattered : (f : ℕ) → Scattered f (exprs (all_go (drop i plan))) → Scattered f (exprs (all_go (drop (i + 1) plan)))
  rest_scattered f h = rest_placed f (goes k) x (all_go (drop (i + 1) plan)) (subst (λ ns. Scattered f (exprs ns)) asked_is h)

  picking_tree : (all : Gathered) (a : Tree) → Goes s (out-Expr x) k a → Picking s plan i all → Picking s plan (i + 1) (record { trees = all.trees ++ a ∷ []; least = all.least })
  picking_tree all a g h = record {
    goes = λ n us p. subst (AllGo s plan) (sym (append_assoc all.trees (a ∷ []) us)) (h.goes n (a ∷ us) (subst (λ ys. AllGo s ys (a ∷ us)) (sym e) (more_go x k _ g p)));
    is = h.is;
    up = λ t q w. h.up t q (in_rest t q w);
    scattered = λ f w. rest_scattered f (h.scattered f w);
    split = λ f w t q m. elim (h.split f w t q m) [
      | inr l ↦ inr l
      | inl u ↦ elim (by_first ⊥ t q (λ m. no_misses m (fit_goes g)) (subst (λ ns. Among s ns t q) asked_is u)) [
        | inl r ↦ inl r
        | inr z ↦ absurd z
      ]
    ];
  }

  picking_fault : (all : Gathered) (r : Refusal) → RefusesTo s (out-Expr x) k r → Picking s plan i all → Picking s plan (i + 1) (record { trees = all.trees; least = earlier all.least (Some r) })
  picking_fault all r g h =
      let m : RefusesOperand s (goes k) (out-Expr x) r = refuse_going k (out-Expr x) r g in
      record {
        goes = λ n us p. absurd (never all.least r n);
        is = λ u n. elim (either all.least r u n) [
          | inl o ↦ h.is u o
          | inr o ↦ subst (λ u. Among s (all_go plan) u.rule u.place) o (h.up r.rule r.place (in_here r.rule r.place m.is))
        ];
        up = λ t q w. h.up t q (in_rest t q w);
        scattered = λ f w. rest_scattered f (h.scattered f w);
        split = λ f w t q n. elim (h.split f w t q n) [
          | inr l ↦ inr (later_old all.least r (refusal t q) l)
          | inl u ↦ by_first (Later (earlier all.least (Some r)) (refusal t q)) t q
              (λ o. later_new all.least r (refusal t q)
              (first_placed f (goes k) x (all_go (drop (i + 1) plan)) (subst (λ ns. Scattered f (exprs ns)) asked_is (h.scattered f w)) (NoLater r (refusal t q)) (λ a b z. m.least f a b z t q o)))
              (subst (λ ns. Among s ns t q) asked_is u)
        ];
      }

  pub picking_more : (all next : Gathered) (r : Result Tree Failure) → Sends s (out-Expr x) k r → Joins all r next → Picking s plan i all → Picking s plan (i + 1) next
  picking_more all next (Ok a) g j h = subst (Picking s plan (i + 1)) (sym j) (picking_tree all a g h)
  picking_more all next (Err (fault.Refused r)) g j h = subst (Picking s plan (i + 1)) (sym j) (picking_fault all r g h)
  picking_more all next (Err (fault.OutOfMemory o)) g j h = absurd j

-- ---- all of them
append_none : (ts : List Tree) → ts ++ [] ≡ ts
append_none [] = refl
append_none (t ∷ ts) = ap (λ us. t ∷ us) (append_none ts)

none_left : (s : Scope) (t : Rule) (q : Place) → Among s [] t q → ⊥
none_left s t q h = elim h [ ]

ends_by : (s : Scope) (plan : List (Expr × Kind)) (i : ℕ) (all : Gathered) (o : Option Refusal) → all.least ≡ o → drop i plan ≡ [] → Picking s plan i all → SomeSent s plan (ended_by all.trees o)
ends_by s plan i all None n e h = subst (AllGo s plan) (append_none all.trees) (h.goes n [] (subst (λ ys. AllGo s ys []) (sym e) none_go))
ends_by s plan i all (Some r) n e h = record {
  is = h.is r n;
  least = λ f w t q m. elim (h.split f w t q m) [
    | inl u ↦ absurd (none_left s t q (subst (λ ys. Among s (all_go ys) t q) e u))
    | inr l ↦ subst (λ o. Later o (refusal t q)) n l
  ];
}

pub picking_end : (s : Scope) (plan : List (Expr × Kind)) (i : ℕ) (all : Gathered) (r : Result (List Tree) Failure) → r ≡ ended all → drop i plan ≡ [] → Picking s plan i all → SomeSent s plan r
picking_end s plan i all r g e h = subst (SomeSent s plan) (sym g) (ends_by s plan i all all.least refl e h)

-- ---- a turn over the numbers
pub never_none : {A B : Type 0} (now : A → B) (o : Option A) (y : B) → option_map now o ≡ Some y → ((a : A) → o ≡ Some a → ⊥) → ⊥
never_none now None y e go = cc
never_none now (Some a) y e go = go a refl

pub record Turn (s : Scope) (k : Kind) (items : Items) (plan : Plan) (i n : ℕ) : Type 0 where
  pub slots : Slots
  pub is_slots : slots_of (out-Kind k) ≡ Some slots
  pub at : Slot items slots n plan i
  pub next : drop i plan ≡ (at.item.1, at.slot.1) ∷ drop (i + 1) plan

pub turn_at : (s : Scope) (k : Kind) (items : Items) (is : List ℕ) (plan : Plan) (i n : ℕ) → PicksFor (λ v. v) items (slots_of (out-Kind k)) (Some is) → planned k items ≡ Some plan → slice_get is i ≡ Some n → Turn s k items plan i n
turn_at s k items is plan i n h e g =
    let b = numbered (slots_of (out-Kind k)) items is plan h e in
    let p = picks_at i n b.picks g in
    let one : suc i ≡ i + 1 = omega arith in
    record { slots = b.slots; is_slots = b.is_slots; at = p; next = p.rest ∙ ap (λ j. (p.item.1, p.slot.1) ∷ drop j plan) one }

pub turn_picks : (s : Scope) (k own : Kind) (items : Items) (plan : Plan) (i n : ℕ) (pair : Option Key × Expr) (all next : Gathered) (r : Result Tree Failure) (t : Turn s k items plan i n)
    → slice_get items n ≡ Some pair → Some own ≡ Some t.at.slot.1 → Sends s (out-Expr pair.1) own r → Joins all r next → Picking s plan i all → Picking s plan (i + 1) next
turn_picks s k own items plan i n pair all next r t e f g j h =
    let same : pair ≡ t.at.item = some_back (sym e ∙ t.at.item_is) in
    let x = subst (λ (p : Option Key × Expr). Sends s (out-Expr p.1) own r) same g in
    picking_more s plan i t.at.item.1 t.at.slot.1 t.next all next r (subst (λ k. Sends s (out-Expr t.at.item.1) k r) (some_back f) x) j h
