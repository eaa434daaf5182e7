-- How a run that makes its moves when they are due goes on.
use Rattle.std.proofs.Common.{◌≡◌, ◌⊎◌, inl, inr, ℕ, Bool, true, false, not, ◌&&◌, if◌then◌else◌, List, [], ◌∷◌, ◌++◌, Option, Some, None, option_and_then, unwrap_or, refl, sym, ◌∙◌, ap, subst, append_assoc, append-nil}
use Rattle.std.proofs.lemmas.Option.{same_Some}
use Rattle.std.proofs.lemmas.Bool.{false≢true}
use Rattle.nt_design.specs.declared.design.Design.{Design}
use Rattle.nt_semantics.specs.Execution.{is_active, has_inactive, is_over, activate, move_updates, move, begin_next, next_moment, settle, run, ended, seen, if_some, Observation, observation_of}
use Rattle.nt_semantics.specs.State.{MachineState, start_state}
use Rattle.nt_semantics.specs.Step.{step, is_some_put}
use Rattle.nt_semantics.specs.declared.event.Event.{Event}
use Rattle.nt_semantics.proofs.Filling.{move_fills}
use Rattle.nt_semantics.specs.Slots.{settle_here, run_here}
use Rattle.nt_semantics.proofs.MovingHere.{settle_active, settle_idle}
use Rattle.nt_semantics.specs.Slots.{Reached}
use Rattle.nt_runs.proofs.Lists.{none_some}
use Rattle.nt_semantics.proofs.Acting.{step_active}

-- ---- moves
settles : (until : ℕ) (s : MachineState) (b : Bool) (o : Option MachineState) → is_active s ≡ b → move until s ≡ o → settle until s ≡ (if b then s else unwrap_or o s)
unfolding settle
settles until s b o h k = (λ i. if h i then s else unwrap_or (k i) s)

active_settled : (until : ℕ) (s : MachineState) → is_active s ≡ true → settle until s ≡ s
active_settled until s h = settles until s true (move until s) h refl

pub moved_settled : (until : ℕ) (s t : MachineState) → is_active s ≡ false → move until s ≡ Some t → settle until s ≡ t
moved_settled until s t h k = settles until s false (Some t) h k

pub unmoved_settled : (until : ℕ) (s : MachineState) → is_active s ≡ false → move until s ≡ None → settle until s ≡ s
unmoved_settled until s h k = settles until s false None h k

active_unseen : (s : MachineState) → is_active s ≡ true → seen s ≡ []
active_unseen s h = ap (λ b. if not b && (not (has_inactive s) && not (is_some_put s.nonblocking)) then observation_of s ∷ [] else []) h

pub over_seen : (s : MachineState) → is_over s ≡ true → seen s ≡ observation_of s ∷ []
over_seen s h = ap (λ b. if b then observation_of s ∷ [] else []) h

left_unseen : (s : MachineState) → is_over s ≡ false → seen s ≡ []
left_unseen s h = ap (λ b. if b then observation_of s ∷ [] else []) h

-- ---- what ends in a run with one event more
run_more : (until : ℕ) (d : Design) (es : List Event) (e : Event) (s m u : MachineState) → run until d es s ≡ Some m → step d (settle until m) e ≡ Some u → run until d (es ++ e ∷ []) s ≡ Some u
run_more until d [] e s m u runs more =
    ap (option_and_then (λ x. Some x)) (subst (λ (x : MachineState). step d (settle until x) e ≡ Some u) (sym (same_Some s m runs)) more)
run_more until d (x ∷ es) e s m u runs more = of_step (λ t. run_more until d es e t m u) (step d (settle until s) x) runs
  where
    of_step : ((t : MachineState) → run until d es t ≡ Some m → step d (settle until m) e ≡ Some u → run until d (es ++ e ∷ []) t ≡ Some u) → (o : Option MachineState) → option_and_then (run until d es) o ≡ Some m → option_and_then (run until d (es ++ e ∷ [])) o ≡ Some u
    of_step go None h = absurd (none_some m h)
    of_step go (Some t) h = go t h more

ended_more : (until : ℕ) (d : Design) (es : List Event) (e : Event) (s m u : MachineState) → run until d es s ≡ Some m → step d (settle until m) e ≡ Some u → ended until d (es ++ e ∷ []) s ≡ ended until d es s ++ seen u
ended_more until d [] e s m u runs more =
    ap (λ o. seen s ++ if_some [] (ended until d []) o) (subst (λ (x : MachineState). step d (settle until x) e ≡ Some u) (sym (same_Some s m runs)) more)
ended_more until d (x ∷ es) e s m u runs more =
    of_step (λ t. ended_more until d es e t m u) (step d (settle until s) x) runs
  where
    of_step : ((t : MachineState) → run until d es t ≡ Some m → step d (settle until m) e ≡ Some u → ended until d (es ++ e ∷ []) t ≡ ended until d es t ++ seen u) → (o : Option MachineState) → option_and_then (run until d es) o ≡ Some m → seen s ++ if_some [] (ended until d (es ++ e ∷ [])) o ≡ (seen s ++ if_some [] (ended until d es) o) ++ seen u
    of_step go None h = absurd (none_some m h)
    of_step go (Some t) h = ap (λ l. seen s ++ l) (go t h more) ∙ sym (append_assoc (seen s) (ended until d es t) (seen u))

-- ---- one event, one move
module _ (until : ℕ) (d : Design) where
  pub reached_start : Reached until d [] [] (seen (start_state d)) (start_state d)
  reached_start = record { last = start_state d; runs = refl; same = refl; ended_are = refl }

  reached_step : (es : List Event) (slots : List Observation) (s u : MachineState) (e : Event) → Reached until d es slots (seen s) s → step d s e ≡ Some u → Reached until d (es ++ e ∷ []) slots (seen u) u
  reached_step es slots s u e r h =
      let active = step_active d s u e h in
      let here : settle until r.last ≡ s = sym r.same ∙ active_settled until s active in
      let more : step d (settle until r.last) e ≡ Some u = ap (λ x. step d x e) here ∙ h in
      record {
        last = u;
        runs = run_more until d es e (start_state d) r.last u r.runs more;
        same = refl;
        ended_are = ap (λ l. l ++ seen u) (sym (append-nil slots) ∙ ap (λ l. slots ++ l) (sym (active_unseen s active)) ∙ r.ended_are) ∙ sym (ended_more until d es e (start_state d) r.last u r.runs more);
      }

  -- a move that was made, behind which nothing is to be shown
  pub reached_move : (es : List Event) (slots : List Observation) (s t : MachineState) → Reached until d es slots [] s → is_active s ≡ false → move until s ≡ Some t → Reached until d es slots (seen t) t
  reached_move es slots s t r empty h =
      let active = move_fills until s t h in
      record {
        last = r.last;
        runs = r.runs;
        same = active_settled until t active ∙ sym (moved_settled until s t empty h) ∙ r.same;
        ended_are = ap (λ l. slots ++ l) (active_unseen t active) ∙ r.ended_are;
      }

  reached_left : (es : List Event) (slots left more : List Observation) (s : MachineState) → left ≡ more → Reached until d es slots left s → Reached until d es slots more s
  reached_left es slots left more s same r = subst (λ (l : List Observation). Reached until d es slots l s) same r

  -- a move within the slot
  reached_settled : (es : List Event) (slots : List Observation) (s : MachineState) → Reached until d es slots (seen s) s → Reached until d es slots (seen (settle_here s)) (settle_here s)
  reached_settled es slots s r = of_active (is_active s) refl
    where
      at : (t : MachineState) → settle_here s ≡ t → Reached until d es slots (seen t) t → Reached until d es slots (seen (settle_here s)) (settle_here s)
      at t same = subst (λ (x : MachineState). Reached until d es slots (seen x) x) (sym same)

      over_is : (inactive put : Bool) → is_active s ≡ false → has_inactive s ≡ inactive → is_some_put s.nonblocking ≡ put → is_over s ≡ (not inactive && not put)
      over_is inactive put empty h k = (λ i. not (empty i) && (not (h i) && not (k i)))

      of_put : (put : Bool) → is_some_put s.nonblocking ≡ put → is_active s ≡ false → has_inactive s ≡ false → Reached until d es slots (seen (settle_here s)) (settle_here s)
      of_put true k empty h =
          at (move_updates s) (settle_idle s false empty ∙ (λ i. if h i then activate s else (if k i then move_updates s else s))) (reached_move es slots s (move_updates s) (reached_left es slots (seen s) [] s (left_unseen s (over_is false true empty h k)) r) empty (λ i. if h i then Some (activate s) else (if k i then Some (move_updates s) else (if s.finished then None else begin_next until s (next_moment s.standings)))))
      of_put false k empty h =
          at s (settle_idle s false empty ∙ (λ i. if h i then activate s else (if k i then move_updates s else s))) r

      of_inactive : (inactive : Bool) → has_inactive s ≡ inactive → is_active s ≡ false → Reached until d es slots (seen (settle_here s)) (settle_here s)
      of_inactive true h empty =
          at (activate s) (settle_idle s false empty ∙ (λ i. if h i then activate s else (if is_some_put s.nonblocking then move_updates s else s))) (reached_move es slots s (activate s) (reached_left es slots (seen s) [] s (left_unseen s (over_is true (is_some_put s.nonblocking) empty h refl)) r) empty (λ i. if h i then Some (activate s) else (if is_some_put s.nonblocking then Some (move_updates s) else (if s.finished then None else begin_next until s (next_moment s.standings)))))
      of_inactive false h empty = of_put (is_some_put s.nonblocking) refl empty h

      of_active : (b : Bool) → is_active s ≡ b → Reached until d es slots (seen (settle_here s)) (settle_here s)
      of_active true h = at s (settle_active s h) r
      of_active false h = of_inactive (has_inactive s) refl h

  -- events of a slot
  reached_here : (es fs : List Event) (slots : List Observation) (s m : MachineState) → Reached until d es slots (seen s) s → run_here d fs s ≡ Some m → Reached until d (es ++ fs) slots (seen m) m
  reached_here es [] slots s m r h =
      subst (λ (l : List Event). Reached until d l slots (seen m) m) (sym (append-nil es)) (subst (λ (x : MachineState). Reached until d es slots (seen x) x) (same_Some s m h) r)
  reached_here es (e ∷ fs) slots s m r h =
      of_step (λ t. reached_here (es ++ e ∷ []) fs slots t m) (step d (settle_here s) e) refl h
    where
      of_step : ((t : MachineState) → Reached until d (es ++ e ∷ []) slots (seen t) t → run_here d fs t ≡ Some m → Reached until d ((es ++ e ∷ []) ++ fs) slots (seen m) m) → (o : Option MachineState) → step d (settle_here s) e ≡ o → option_and_then (run_here d fs) o ≡ Some m → Reached until d (es ++ e ∷ fs) slots (seen m) m
      of_step go None is k = absurd (none_some m k)
      of_step go (Some t) is k =
          subst (λ (l : List Event). Reached until d l slots (seen m) m) (append_assoc es (e ∷ []) fs) (go t (reached_step es slots (settle_here s) t e (reached_settled es slots s r) is) k)

  pub reached_went : (es fs : List Event) (slots : List Observation) (s m t : MachineState) → Reached until d es slots (seen s) s → run_here d fs s ≡ Some m → (t ≡ m) ⊎ (t ≡ settle_here m) → Reached until d (es ++ fs) slots (seen t) t
  reached_went es fs slots s m t r h (inl same) = subst (λ (x : MachineState). Reached until d (es ++ fs) slots (seen x) x) (sym same) (reached_here es fs slots s m r h)
  reached_went es fs slots s m t r h (inr moved) = subst (λ (x : MachineState). Reached until d (es ++ fs) slots (seen x) x) (sym moved) (reached_settled (es ++ fs) slots m (reached_here es fs slots s m r h))

  -- where no move is left, the state is that of the execution
  pub reached_last : (es : List Event) (slots left : List Observation) (s : MachineState) (r : Reached until d es slots left s) → is_active s ≡ false → move until s ≡ None → r.last ≡ s
  reached_last es slots left s r empty none = of_active (is_active r.last) refl
    where
      still : settle until r.last ≡ s
      still = sym r.same ∙ unmoved_settled until s empty none

      of_move : (o : Option MachineState) → is_active r.last ≡ false → move until r.last ≡ o → r.last ≡ s
      of_move None h k = sym (unmoved_settled until r.last h k) ∙ still
      of_move (Some x) h k =
          let x_is : x ≡ s = sym (moved_settled until r.last x h k) ∙ still in
          absurd (false≢true (sym empty ∙ ap is_active (sym x_is) ∙ move_fills until r.last x k))

      of_active : (b : Bool) → is_active r.last ≡ b → r.last ≡ s
      of_active true h = sym (active_settled until r.last h) ∙ still
      of_active false h = of_move (move until r.last) h refl
