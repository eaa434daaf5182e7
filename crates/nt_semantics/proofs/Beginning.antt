-- What a slot begins with.
use Rattle.std.proofs.Common.{◌≡◌, ℕ, zero, suc, ◌≤◌, nat_lt, Bool, true, false, not, ◌&&◌, ◌||◌, if◌then◌else◌, List, [], ◌∷◌, length, Option, Some, None, refl, sym, ◌∙◌, subst, arith}
use Rattle.std.specs.Prelude.{nat_le}
use Rattle.std.specs.List.{list_any}
use Rattle.std.proofs.lemmas.Bool.{false≢true, ltb-false, leb-true}
use Rattle.std.proofs.lemmas.Option.{same_Some}
use Rattle.nt_semantics.specs.Execution.{is_over, is_active, has_inactive, activate, move_updates, move, begin_next, begin_slot, next_moment}
use Rattle.nt_semantics.specs.State.{MachineState, standing_at, count_at}
use Rattle.nt_semantics.specs.StateFits.{AtMost}
use Rattle.nt_semantics.specs.Step.{is_pending_at, is_some_put}
use Rattle.nt_design.specs.declared.put.Put.{Put}
use Rattle.nt_semantics.specs.declared.event.Event.TheVariants.{Stmt, Assign as AssignEvent, Update, Resolve}
use Rattle.nt_semantics.specs.Slots.{Few}
use Rattle.nt_semantics.specs.Laws.{SlotsBeginSmall}

none_some : {A : Type 0} (x : A) → None ≡ Some x → ⊥
none_some x h = cc

-- ---- tests that are false
not_both : (a b : Bool) → (not a && b) ≡ true → a ≡ false
not_both true b h = absurd (false≢true h)
not_both false b h = refl

second : (a b : Bool) → (a && b) ≡ true → b ≡ true
second true b h = h
second false b h = absurd (false≢true h)

not_true : (a : Bool) → not a ≡ true → a ≡ false
not_true true h = absurd (false≢true h)
not_true false h = refl

none_left : (a b : Bool) → (a || b) ≡ false → a ≡ false
none_left true b h = absurd (false≢true (sym h))
none_left false b h = refl

none_right : (a b : Bool) → (a || b) ≡ false → b ≡ false
none_right true b h = absurd (false≢true (sym h))
none_right false b h = h

count_none : (counts : List ℕ) (i : ℕ) → list_any (nat_lt 0) counts ≡ false → count_at counts i ≡ 0
count_none [] i h = refl
count_none (n ∷ counts) zero h = omega (arith, ltb-false 0 n (none_left (nat_lt 0 n) (list_any (nat_lt 0) counts) h))
count_none (n ∷ counts) (suc i) h = count_none counts i (none_right (nat_lt 0 n) (list_any (nat_lt 0) counts) h)

no_puts : (puts : List Put) → is_some_put puts ≡ false → length puts ≡ 0
no_puts [] h = refl
no_puts (put ∷ puts) h = absurd (false≢true (sym h))

-- ---- the state at a slot's end
record IsOver (s : MachineState) : Type 0 where
  evaluations : (a : ℕ) → count_at s.evaluations a ≡ 0
  resolutions : (n : ℕ) → count_at s.resolutions n ≡ 0
  moved : length s.moved ≡ 0
  inactive : has_inactive s ≡ false
  nonblocking : is_some_put s.nonblocking ≡ false

over_is : (s : MachineState) → is_over s ≡ true → IsOver s
unfolding is_active
over_is s h =
    let idle = not_both (is_active s) (not (has_inactive s) && not (is_some_put s.nonblocking)) h in
    let others = none_right (list_any (is_pending_at s) s.standings) _ idle in
    let later = none_right (list_any (nat_lt 0) s.evaluations) _ others in
    let rest = second (not (is_active s)) (not (has_inactive s) && not (is_some_put s.nonblocking)) h in
    record {
      evaluations = λ a. count_none s.evaluations a (none_left (list_any (nat_lt 0) s.evaluations) _ others);
      resolutions = λ n. count_none s.resolutions n (none_left (list_any (nat_lt 0) s.resolutions) _ later);
      moved = no_puts s.moved (none_right (list_any (nat_lt 0) s.resolutions) _ later);
      inactive = not_both (has_inactive s) (not (is_some_put s.nonblocking)) rest;
      nonblocking = not_true (is_some_put s.nonblocking) (second (not (has_inactive s)) (not (is_some_put s.nonblocking)) rest);
    }

one_or_none : (b : Bool) → (if b then 1 else 0) ≤ 1
one_or_none true = omega arith
one_or_none false = omega arith

few_in : (m : ℕ) (s : MachineState) → IsOver s → Few 1 (begin_slot m s)
few_in m s over = record {
  copies = at_most;
  updates = omega (arith, over.moved, no_puts s.nonblocking over.nonblocking);
}
  where
    at_most : AtMost 1 (begin_slot m s)
    at_most (Stmt p) = one_or_none (is_pending_at (begin_slot m s) (standing_at (begin_slot m s) p))
    at_most (AssignEvent a) = omega (arith, over.evaluations a)
    at_most Update = omega (arith, over.moved)
    at_most (Resolve n order) = omega (arith, over.resolutions n)

pub begins_small : SlotsBeginSmall
begins_small until s t is h = of_finish s.finished (sym to_begin ∙ h)
  where
    over : IsOver s
    over = over_is s is

    to_begin : move until s ≡ (if s.finished then None else begin_next until s (next_moment s.standings))
    to_begin = (λ i. if over.inactive i then Some (activate s) else (if over.nonblocking i then Some (move_updates s) else (if s.finished then None else begin_next until s (next_moment s.standings))))

    within : (m : ℕ) → nat_le m until ≡ true → m ≤ until
    within m below = leb-true m until below

    of_moment : (o : Option ℕ) → begin_next until s o ≡ Some t → (t.moment ≤ until) × Few 1 t
    of_moment None g = absurd (none_some t g)
    of_moment (Some m) g = of_limit (nat_le m until) refl g
      where
        of_limit : (b : Bool) → nat_le m until ≡ b → (if b then Some (begin_slot m s) else None) ≡ Some t → (t.moment ≤ until) × Few 1 t
        of_limit false below g = absurd (none_some t g)
        of_limit true below g =
            subst (λ (x : MachineState). (x.moment ≤ until) × Few 1 x) (same_Some (begin_slot m s) t g) (within m below, few_in m s over)

    of_finish : (b : Bool) → (if b then None else begin_next until s (next_moment s.standings)) ≡ Some t → (t.moment ≤ until) × Few 1 t
    of_finish true g = absurd (none_some t g)
    of_finish false g = of_moment (next_moment s.standings) g
