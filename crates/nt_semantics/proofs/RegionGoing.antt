-- The next region leads within a slot from where it begins, and the next slot begins by the one move that there is.
use Rattle.std.specs.Prelude.{All, Contains}
use Rattle.std.proofs.Common.{◌≡◌, inl, inr, ℕ, zero, suc, ◌+◌, ◌≤◌, Bool, true, false, not, ◌&&◌, if◌then◌else◌, List, [], ◌∷◌, length, map, get_or, Option, Some, None, option_and_then, refl, sym, ◌∙◌, ap, subst, arith}
use Rattle.std.proofs.lemmas.Bool.{false≢true}
use Rattle.std.proofs.lemmas.List.{length-map}
use Rattle.std.proofs.lemmas.List.Elements.{All-cons, All-nil}
use Rattle.std.proofs.lemmas.Option.{same_Some}
use Rattle.nt_design.specs.declared.design.Design.{Design}
use Rattle.nt_design.specs.declared.process.Proc.{Proc}
use Rattle.nt_design.specs.declared.put.Put.{Put}
use Rattle.nt_semantics.proofs.GoingHere.{runs_here}
use Rattle.nt_semantics.proofs.Growing.{few_grow, step_grows}
use Rattle.nt_semantics.proofs.MovingHere.{run_settled, settle_idle}
use Rattle.nt_semantics.proofs.RegionFitting.{moved_same, update_is}
use Rattle.nt_semantics.proofs.Waking.{none_some}
use Rattle.nt_semantics.specs.Execution.{activate, begin_next, expansion, has_inactive, if_some, is_active, is_entry, move, move_updates, next_moment, steps}
use Rattle.nt_semantics.specs.Groups.{processes}
use Rattle.nt_semantics.specs.Laws.{RegionGoes, RoundsStartTied, SlotGoes}
use Rattle.nt_semantics.specs.Rounds.{RoundEnd, RoundState, after_activation, after_begin, next_region, next_slot, perform, update_entry, update_round, with_woken, without_entries, woken}
use Rattle.nt_semantics.specs.Slots.{Few, Went, run_here, settle_here}
use Rattle.nt_semantics.specs.State.{MachineState, is_comb, standing_at}
use Rattle.nt_semantics.specs.StateFits.{AtMost}
use Rattle.nt_semantics.specs.Step.{is_pending_at, is_some_put, put_var}
use Rattle.nt_semantics.specs.declared.event.Entry.{Entry}
use Rattle.nt_semantics.specs.declared.event.Event.TheVariants.{Stmt, Assign as AssignEvent, Update, Resolve}
use Rattle.nt_semantics.specs.declared.process.Process.{Process}
use Rattle.nt_semantics.specs.declared.standing.Standing.{Standing}
use Rattle.nt_semantics.specs.declared.standing.Standing.TheVariants.{Unbegun, Ready, Inactive, Later, Over}

-- ---- Inactive events become active
one_or_none : (b : Bool) → (if b then 1 else 0) ≤ 1
one_or_none true = omega arith
one_or_none false = omega arith

few_active : (most : ℕ) (s : MachineState) → 1 ≤ most → Few most s → Few (most + 0) (activate s)
few_active most s some few = record { copies = at_most; updates = omega (arith, few.updates) }
  where
    at_most : AtMost (most + 0) (activate s)
    at_most (Stmt p) = omega (arith, one_or_none (is_pending_at (activate s) (standing_at (activate s) p)), some)
    at_most (AssignEvent a) = omega (arith, few.copies (AssignEvent a))
    at_most Update = omega (arith, few.copies Update)
    at_most (Resolve n order) = omega (arith, few.copies (Resolve n order))

activation_goes : (d : Design) (s : MachineState) → is_active s ≡ false → has_inactive s ≡ true → Went d s [] None (activate s)
activation_goes d s idle some = record {
  reached = s;
  runs = refl;
  here = inr (sym (settle_idle s false idle ∙ ap (λ b. if b then activate s else (if is_some_put s.nonblocking then move_updates s else s)) some));
  counted = All-nil (λ (entry : Entry). is_entry d entry ≡ true);
  long = tt;
  moment = refl;
  grows = λ most one few. few_active most s one few;
}

-- ---- nonblocking updates
few_moved : (most : ℕ) (s : MachineState) → s.moved ≡ [] → Few most s → Few most (move_updates s)
few_moved most s none few = record { copies = at_most; updates = omega (arith, few.updates, none_there) }
  where
    none_there : length s.moved ≡ 0
    none_there = ap (λ (l : List Put). length l) none

    at_most : AtMost most (move_updates s)
    at_most (Stmt p) = few.copies (Stmt p)
    at_most (AssignEvent a) = few.copies (AssignEvent a)
    at_most Update = omega (arith, few.updates, none_there)
    at_most (Resolve n order) = few.copies (Resolve n order)

abbrev updates : List Put → List Entry
updates puts = map (λ put. update_entry) puts

-- what moved updates do one after another
record Goes (d : Design) (puts : List Put) (s t : MachineState) : Type 0 where
  runs : steps d (expansion (updates puts)) s ≡ Some t
  moment : t.moment ≡ s.moment
  grows : (most : ℕ) → Few most s → Few (most + length puts) t

perform_goes : (d : Design) (groups : List (List Process)) (puts : List Put) (r : RoundState) → r.state.moved ≡ puts → Goes d puts r.state (perform d groups puts r).state
perform_goes d groups [] r moved = record {
  runs = refl;
  moment = refl;
  grows = λ most few. subst (λ k. Few k r.state) (more_none most) few;
}
  where
    more_none : (most : ℕ) → most ≡ most + 0
    more_none most = omega arith
perform_goes d groups (put ∷ puts) r moved =
    let t = put_var d put (record r.state { moved = puts }) in
    let here = update_is d r.state put puts moved in
    let rest = perform_goes d groups puts (record r { state = t; ready = with_woken groups (woken d r.state t) r.ready }) (moved_same d put (record r.state { moved = puts })) in
    let first = step_grows d r.state t Update here in
    subst (λ (o : Option MachineState). Goes d (put ∷ puts) r.state (if_some r goes o).state) (sym here) (record {
      runs = ap (option_and_then (steps d (expansion (updates puts)))) here ∙ rest.runs;
      moment = rest.moment ∙ first.moment;
      grows = λ most few. subst (λ k. Few k (goes t).state) (one_first most) (rest.grows (most + 1) (few_grow most r.state t first few));
    })
  where
    goes : MachineState → RoundState
    goes t = perform d groups puts (record r { state = t; ready = with_woken groups (woken d r.state t) r.ready })

    one_first : (most : ℕ) → (most + 1) + length puts ≡ most + length (put ∷ puts)
    one_first most = omega arith

all_entries : (d : Design) (puts : List Put) → All (λ (entry : Entry). is_entry d entry ≡ true) (updates puts)
all_entries d [] = All-nil (λ (entry : Entry). is_entry d entry ≡ true)
all_entries d (put ∷ puts) = All-cons (λ (e : Entry). is_entry d e ≡ true) update_entry (updates puts) refl (all_entries d puts)

-- several updates, the first after the move that it needs
after_move : (d : Design) (puts : List Put) (s t : MachineState) → settle_here s ≡ move_updates s → is_some_put puts ≡ true → steps d (expansion (updates puts)) (move_updates s) ≡ Some t → run_here d (expansion (updates puts)) s ≡ Some t
after_move d [] s t settled some h = absurd (false≢true some)
after_move d (put ∷ puts) s t settled some h =
    sym (run_settled d Update (expansion (updates puts)) s) ∙ ap (run_here d (expansion (updates (put ∷ puts)))) settled ∙ runs_here d (expansion (updates (put ∷ puts))) (move_updates s) t h

updates_go : (d : Design) (r : RoundState) → r.state.moved ≡ [] → is_active r.state ≡ false → has_inactive r.state ≡ false → is_some_put r.state.nonblocking ≡ true → Went d r.state (update_round d (processes d ∷ []) r).entries None (update_round d (processes d ∷ []) r).after.state
updates_go d r moved idle calm some =
    let s = r.state in
    let go = perform_goes d (processes d ∷ []) s.nonblocking (record r { state = move_updates s }) refl in
    let settled = settle_idle s false idle ∙ ap (λ b. if b then activate s else (if is_some_put s.nonblocking then move_updates s else s)) calm ∙ ap (λ b. if b then move_updates s else s) some in
    record {
      reached = (update_round d (processes d ∷ []) r).after.state;
      runs = after_move d s.nonblocking s (update_round d (processes d ∷ []) r).after.state settled some go.runs;
      here = inl refl;
      counted = all_entries d s.nonblocking;
      long = tt;
      moment = go.moment;
      grows = λ most one few. subst (λ k. Few (most + k) (update_round d (processes d ∷ []) r).after.state) (sym (length-map s.nonblocking (λ put. update_entry))) (go.grows most (few_moved most s moved few));
    }

pub region_goes : RegionGoes
unfolding next_region
region_goes d r e fits idle h = of_inactive (has_inactive r.state) refl h
  where
    of_updates : has_inactive r.state ≡ false → (b : Bool) → is_some_put r.state.nonblocking ≡ b → (if b then Some (update_round d (processes d ∷ []) r) else None) ≡ Some e → Went d r.state e.entries e.too_long e.after.state
    of_updates calm false is g = absurd (none_some e g)
    of_updates calm true is g =
        subst (λ (x : RoundEnd). Went d r.state x.entries x.too_long x.after.state) (same_Some (update_round d (processes d ∷ []) r) e g) (updates_go d r fits.moved idle calm is)

    of_inactive : (b : Bool) → has_inactive r.state ≡ b → (if b then Some (without_entries (after_activation (processes d ∷ []) r)) else (if is_some_put r.state.nonblocking then Some (update_round d (processes d ∷ []) r) else None)) ≡ Some e → Went d r.state e.entries e.too_long e.after.state
    of_inactive true is g =
        subst (λ (x : RoundEnd). Went d r.state x.entries x.too_long x.after.state) (same_Some (without_entries (after_activation (processes d ∷ []) r)) e g) (activation_goes d r.state idle is)
    of_inactive false is g = of_updates is (is_some_put r.state.nonblocking) refl g

-- ---- the next slot
pub slot_goes : SlotGoes
unfolding next_slot
slot_goes until groups r e over h = of_finish r.state.finished refl h
  where
    first : (a b c : Bool) → (not a && (not b && not c)) ≡ true → (b ≡ false) × (c ≡ false)
    first true b c g = absurd (false≢true g)
    first false true c g = absurd (false≢true g)
    first false false true g = absurd (false≢true g)
    first false false false g = (refl, refl)

    calm : (has_inactive r.state ≡ false) × (is_some_put r.state.nonblocking ≡ false)
    calm = first (is_active r.state) (has_inactive r.state) (is_some_put r.state.nonblocking) over

    move_is : (done : Bool) → r.state.finished ≡ done → move until r.state ≡ (if done then None else begin_next until r.state (next_moment r.state.standings))
    move_is done is =
        ap (λ b. if b then Some (activate r.state) else (if is_some_put r.state.nonblocking then Some (move_updates r.state) else (if r.state.finished then None else begin_next until r.state (next_moment r.state.standings)))) calm.0 ∙ ap (λ b. if b then Some (move_updates r.state) else (if r.state.finished then None else begin_next until r.state (next_moment r.state.standings))) calm.1 ∙ ap (λ b. if b then None else begin_next until r.state (next_moment r.state.standings)) is

    of_next : (o : Option MachineState) → begin_next until r.state (next_moment r.state.standings) ≡ o → move until r.state ≡ begin_next until r.state (next_moment r.state.standings) → if_some None (λ s. Some (without_entries (after_begin groups r s))) o ≡ Some e → (e.entries ≡ []) × ((e.too_long ≡ None) × (move until r.state ≡ Some e.after.state))
    of_next None is moves g = absurd (none_some e g)
    of_next (Some s) is moves g =
        subst (λ (x : RoundEnd). (x.entries ≡ []) × ((x.too_long ≡ None) × (move until r.state ≡ Some x.after.state))) (same_Some (without_entries (after_begin groups r s)) e g) (refl, (refl, moves ∙ is))

    of_finish : (done : Bool) → r.state.finished ≡ done → (if done then None else if_some None (λ s. Some (without_entries (after_begin groups r s))) (begin_next until r.state (next_moment r.state.standings))) ≡ Some e → (e.entries ≡ []) × ((e.too_long ≡ None) × (move until r.state ≡ Some e.after.state))
    of_finish true is g = absurd (none_some e g)
    of_finish false is g = of_next (begin_next until r.state (next_moment r.state.standings)) refl (move_is false is) g

-- ---- the start
abbrev is_away : Standing → Bool
is_away Inactive = true
is_away (Later at) = true
is_away _ = false

none_starts_away : (procs : List Proc) (p : ℕ) → is_away (get_or (map (λ (proc : Proc). if is_comb proc.kind then Unbegun else Ready) procs) p Over) ≡ false
none_starts_away [] p = refl
none_starts_away (proc ∷ procs) zero = of_kind (is_comb proc.kind)
  where
    of_kind : (b : Bool) → is_away (if b then Unbegun else Ready) ≡ false
    of_kind true = refl
    of_kind false = refl
none_starts_away (proc ∷ procs) (suc p) = none_starts_away procs p

none_in : {P : Type 0} (p : ℕ) → Contains [] p → P
none_in p c = absurd (omega (arith, c.1))

pub rounds_start_tied : RoundsStartTied
rounds_start_tied d = record {
  inactive = λ p. (λ c. none_in p c, λ e. absurd (false≢true (sym (none_starts_away d.procs p) ∙ ap is_away e)));
  later = λ at p. (λ c. none_in p c, λ e. absurd (false≢true (sym (none_starts_away d.procs p) ∙ ap is_away e)));
  inactive_once = λ p. omega arith;
  later_once = λ at p. omega arith;
}
