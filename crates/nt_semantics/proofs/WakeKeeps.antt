-- What a procedure has to do stays of its body where it wakes; and a change of an object wakes, and keeps a state of its
-- design.
use Rattle.std.proofs.Common.{◌≡◌, ℕ, suc, ◌<◌, Bool, true, false, if◌then◌else◌, List, [], ◌∷◌, ◌++◌, length, map, get_or, refl, ap, sym, subst, ◌∙◌, arith}
use Rattle.std.specs.Prelude.{All, Option, Some, None, option_to_list, slice_get}
use Rattle.std.specs.List.{flat_map}
use Rattle.std.proofs.lemmas.List.{length-map}
use Rattle.std.proofs.lemmas.List.Elements.{All-append, All-cons, All-head, All-nil, All-tail}
use Rattle.std.proofs.lemmas.List.FromFn.{get_or-map-range_with_len, length-map-range_with_len}
use Rattle.std.proofs.lemmas.Option.{same_Some, slice_get_within}
use Rattle.nt_value.specs.declared.kind.Edge.{Edge}
use Rattle.nt_design.specs.Expressions.{World, Calls, value_of, values_of}
use Rattle.nt_design.specs.Meaning.{most_turns}
use Rattle.nt_design.specs.Parts.{Value}
use Rattle.nt_design.specs.Reads.{act_reads, event_trees, reads_of}
use Rattle.nt_design.specs.Turns.{Timed, Timing, all_of, and_then}
use Rattle.nt_design.specs.WellFormed.{IsDesign}
use Rattle.nt_design.specs.declared.act.Act.{Act, out-Act}
use Rattle.nt_design.specs.declared.act.Act.TheOpen.{Act-F}
use Rattle.nt_design.specs.declared.design.Design.{Design}
use Rattle.nt_design.specs.declared.object.Object.{Object}
use Rattle.nt_design.specs.declared.process.Proc.{Proc}
use Rattle.nt_design.specs.declared.tree.Tree.{Tree}
use Rattle.nt_semantics.proofs.Parts.{ActSound, body_of_proc, part_of_body, part_sound}
use Rattle.nt_semantics.proofs.StartFitting.{begins, unfolded_parts}
use Rattle.nt_semantics.specs.State.{MachineState, to_do, standing_at, work_at, locals_at, count_at, each_below, world_of_state}
use Rattle.nt_semantics.specs.declared.standing.Standing.{Standing}
use Rattle.nt_semantics.specs.declared.standing.Standing.TheVariants.{Ready, Waits, Over}
use Rattle.nt_semantics.specs.declared.work.Work.{Work}
use Rattle.nt_semantics.specs.declared.work.Work.TheVariants.{Do, Awaiting}
use Rattle.nt_semantics.specs.StateFits.{IsStateOf, IsWorkOf, ProcFits, StandingFits, WaitsAt, parts_of}
use Rattle.nt_semantics.specs.Statements.{or_no_work}
use Rattle.nt_semantics.specs.Wake.{Waking, Keeps, Wakes, functions_of, work_after, work_wakes, one_more_if, standing_after, reads_at, some_match, statement_wakes, tested, tested_if, wake, wakes_if, waking, waking_at}
use Rattle.nt_semantics.specs.Same.{is_one_of}

-- ---- what there is to do
pub record Sound (d : Design) (proc : Proc) (items : List Work) : Type 0 where
  pub parts : All (IsWorkOf proc) items

abbrev pub ItemSound : Design → Proc → Work → Type 0
ItemSound d proc i = Sound d proc (i ∷ [])

pub sound_none : {d : Design} {proc : Proc} → Sound d proc []
sound_none {d} {proc} = record { parts = All-nil (IsWorkOf proc) }

pub sound_append : {d : Design} {proc : Proc} {xs ys : List Work} → Sound d proc xs → Sound d proc ys → Sound d proc (xs ++ ys)
sound_append {d} {proc} {xs} {ys} a b = record { parts = All-append (IsWorkOf proc) xs ys a.parts b.parts }

pub sound_cons : {d : Design} {proc : Proc} {i : Work} {items : List Work} → ItemSound d proc i → Sound d proc items → Sound d proc (i ∷ items)
sound_cons {d} {proc} {i} {items} a b = sound_append {xs = i ∷ []} {ys = items} a b

pub sound_one : {d : Design} {proc : Proc} (i : Work) → IsWorkOf proc i → ItemSound d proc i
sound_one {d} {proc} i h = record { parts = All-cons (IsWorkOf proc) i [] h (All-nil (IsWorkOf proc)) }

pub sound_head : {d : Design} {proc : Proc} {i : Work} {items : List Work} → Sound d proc (i ∷ items) → IsWorkOf proc i
sound_head {d} {proc} {i} {items} s = All-head (IsWorkOf proc) i items s.parts

pub sound_tail : {d : Design} {proc : Proc} {i : Work} {items : List Work} → Sound d proc (i ∷ items) → Sound d proc items
sound_tail {d} {proc} {i} {items} s = record { parts = All-tail (IsWorkOf proc) i items s.parts }

pub sound_do : {d : Design} {proc : Proc} {act : Act} → ActSound d proc act → Sound d proc (to_do act)
sound_do {d} {proc} {act} a = record { parts = unfolded_parts proc act a.part }

-- a branch that there may be
pub sound_or_nothing : {d : Design} {proc : Proc} (branch : Option Act) → All (ActSound d proc) (option_to_list branch) → Sound d proc (or_no_work branch)
sound_or_nothing None h = sound_none
sound_or_nothing {d} {proc} (Some act) h = sound_do (All-head (ActSound d proc) act [] h)

-- statements one after the other
pub sound_do_all : {d : Design} {proc : Proc} (acts : List Act) → All (ActSound d proc) acts → Sound d proc (flat_map to_do acts)
sound_do_all [] h = sound_none
sound_do_all {d} {proc} (act ∷ acts) h =
    sound_append (sound_do (All-head (ActSound d proc) act acts h)) (sound_do_all acts (All-tail (ActSound d proc) act acts h))

-- the body of a statement that has one
pub body_sound : {d : Design} {proc : Proc} {s : Act} → ActSound d proc s → (x : Act-F Act) → out-Act s ≡ x → (body : Act) → parts_of x ≡ body ∷ [] → ActSound d proc body
body_sound {d} {proc} sound x is body only =
    All-head (ActSound d proc) body [] (subst (All (ActSound d proc)) only (part_sound sound x is).parts)

-- ---- what wakes
-- a procedure's items are sound, and it is where it may be with them
record Stands (d : Design) (proc : Proc) (moment : ℕ) (standing : Standing) (items : List Work) : Type 0 where
  sound : Sound d proc items
  fits : StandingFits moment items standing

abbrev After : Design → Proc → ℕ → Standing → List Work → Waking → Type 0
After d proc moment standing items w = Stands d proc moment (standing_after standing w) (work_after items w)

pub values_long : (ms : List (Timing Value)) (locals : List Value) (left : ℕ) (new : List Value × ℕ) → all_of ms locals left ≡ Some new → length new.0 ≡ length ms
values_long [] locals left new h = ap (λ (x : List Value × ℕ). length x.0) (sym (same_Some ([], left) new h))
values_long (m ∷ ms) locals left new h = of_first (λ l xs is. values_long ms locals l xs is) (m locals left) h
  where
    none_new : None ≡ Some new → ⊥
    none_new g = cc

    of_rest : (x : Value) (o : Timed (List Value)) → ((xs : List Value × ℕ) → o ≡ Some xs → length xs.0 ≡ length ms) → and_then o (λ xs k. Some (x ∷ xs, k)) ≡ Some new → length new.0 ≡ suc (length ms)
    of_rest x None long g = absurd (none_new g)
    of_rest x (Some xs) long g =
        ap (λ (y : List Value × ℕ). length y.0) (sym (same_Some (x ∷ xs.0, xs.1) new g)) ∙ ap suc (long xs refl)

    of_first : ((l : ℕ) (xs : List Value × ℕ) → all_of ms locals l ≡ Some xs → length xs.0 ≡ length ms) → (o : Timed Value) → and_then o (λ x l. and_then (all_of ms locals l) (λ xs k. Some (x ∷ xs, k))) ≡ Some new → length new.0 ≡ suc (length ms)
    of_first long None g = absurd (none_new g)
    of_first long (Some x) g = of_rest x.0 (all_of ms locals x.1) (long x.1) g

-- a statement that was waited for, and the rest
body_first : {d : Design} {proc : Proc} (moment : ℕ) (body : Act) (rest : List Work) → ActSound d proc body → Sound d proc rest → Stands d proc moment Ready (to_do body ++ rest)
body_first moment body rest a r = record { sound = sound_append (sound_do a) r; fits = begins body rest }

module _ (d : Design) (proc : Proc) (whole : ActSound d proc proc.body) (moment : ℕ) (calls : Calls) (world : World) (o : Object) where
  wakes_if_stands : (kept : List Value) (items new : List Work) (b : Bool) → Stands d proc moment (Waits kept) items → Stands d proc moment Ready new → After d proc moment (Waits kept) items (wakes_if b new)
  wakes_if_stands kept items new true before after = after
  wakes_if_stands kept items new false before after = before

  tested_stands : (on : List (Edge × Tree)) (kept : List Value) (items new : List Work) (b : Bool) (vs : Timed (List Value)) → Stands d proc moment (Waits kept) items → Stands d proc moment Ready new → ((x : List Value × ℕ) → vs ≡ Some x → StandingFits moment items (Waits x.0)) → After d proc moment (Waits kept) items (tested_if b (tested on kept new vs))
  tested_stands on kept items new false vs before after keeps = before
  tested_stands on kept items new true None before after keeps = before
  tested_stands on kept items new true (Some x) before after keeps = of_test (some_match on kept x.0)
    where
      of_test : (b : Bool) → After d proc moment (Waits kept) items (if b then Wakes new else Keeps x.0)
      of_test true = after
      of_test false = record { sound = before.sound; fits = keeps x refl }

  statement_stands : (kept : List Value) (s : Act) (rest : List Work) (locals : List Value) → Stands d proc moment (Waits kept) (Do s ∷ rest) → After d proc moment (Waits kept) (Do s ∷ rest) (statement_wakes calls world o kept s rest locals (out-Act s))
  statement_stands kept s rest locals before = of_kind (out-Act s) refl
    where
      act : ActSound d proc s
      act = part_of_body whole s (sound_head before.sound)

      tail : Sound d proc rest
      tail = sound_tail before.sound

      body_stands : (body : Act) (x : Act-F Act) → out-Act s ≡ x → parts_of x ≡ body ∷ [] → Stands d proc moment Ready (to_do body ++ rest)
      body_stands body x is only =
          body_first moment body rest (body_sound act x is body only) tail

      of_kind : (x : Act-F Act) → out-Act s ≡ x → After d proc moment (Waits kept) (Do s ∷ rest) (statement_wakes calls world o kept s rest locals x)
      of_kind (Act-F.Event true on body at) is =
          wakes_if_stands kept (Do s ∷ rest) (to_do body ++ rest) (is_one_of (act_reads body) o) before (body_stands body (Act-F.Event true on body at) is refl)
      of_kind (Act-F.Event false on body at) is =
          tested_stands on kept (Do s ∷ rest) (to_do body ++ rest) (is_one_of (flat_map reads_of (event_trees on)) o) (values_of calls world (event_trees on) locals most_turns) before (body_stands body (Act-F.Event false on body at) is refl)
          (λ x got. subst (WaitsAt x.0) (sym is) (values_long (map (value_of calls world) (event_trees on)) locals most_turns x got ∙ (length-map (event_trees on) (value_of calls world) ∙ length-map on (λ (e : Edge × Tree). e.1))))
      of_kind (Act-F.Wait test body at) is =
          wakes_if_stands kept (Do s ∷ rest) (Do s ∷ rest) (is_one_of (reads_of test) o) before (record { sound = before.sound; fits = tt })
      of_kind x is = before

  items_stand : (kept : List Value) (items : List Work) (locals : List Value) → Stands d proc moment (Waits kept) items → After d proc moment (Waits kept) items (work_wakes calls world o kept items locals)
  items_stand kept (Do s ∷ rest) locals before = statement_stands kept s rest locals before
  items_stand kept (Awaiting reads body ∷ rest) locals before =
      wakes_if_stands kept (Awaiting reads body ∷ rest) (to_do body ++ Awaiting reads body ∷ rest) (is_one_of reads o) before
      (body_first moment body (Awaiting reads body ∷ rest) (subst (ActSound d proc) (sound_head before.sound).1 whole) before.sound)
  items_stand kept items locals before = before

  waking_stands : (standing : Standing) (items : List Work) (locals : List Value) → Stands d proc moment standing items → After d proc moment standing items (waking calls world o standing items locals)
  waking_stands (Waits kept) items locals before = items_stand kept items locals before
  waking_stands standing items locals before = before

-- ---- the state
-- what an item of a column is, where there is one
column_at : {A : Type 0} (at : ℕ → A) (n p : ℕ) (e : A) → p < n → get_or (each_below n at) p e ≡ at p
column_at at n p e low = get_or-map-range_with_len at 0 n p p e low (omega arith)

column_long : {A : Type 0} (at : ℕ → A) (n m : ℕ) → n ≡ m → length (each_below n at) ≡ m
column_long at n m is = length-map-range_with_len at 0 n ∙ is

-- a procedure of a state of its design
pub proc_sound : {d : Design} {s : MachineState} {p : ℕ} {proc : Proc} → ProcFits s p proc → Sound d proc (work_at s p)
proc_sound x = record { parts = x.work }

pub proc_fits : {d : Design} {s : MachineState} {p : ℕ} {proc : Proc} → Sound d proc (work_at s p) → StandingFits s.moment (work_at s p) (standing_at s p) → ProcFits s p proc
proc_fits x standing = record { work = x.parts; standing = standing }

-- a change of an object wakes, and keeps a state of its design
pub wake_keeps : (d : Design) → IsDesign d → (o : Object) (changed : Bool) (s : MachineState) → IsStateOf d s → IsStateOf d (wake d o changed s)
unfolding wake
wake_keeps d design o false s is = record {
  moment = is.moment;
  vars = is.vars;
  nets = is.nets;
  slots = is.slots;
  standings = is.standings;
  work = is.work;
  locals = is.locals;
  locals_filled = is.locals_filled;
  fresh = is.fresh;
  evaluations = is.evaluations;
  resolutions = is.resolutions;
  procs = is.procs;
  nonblocking = is.nonblocking;
  moved = is.moved;
}
wake_keeps d design o true s is = record {
  moment = is.moment;
  vars = is.vars;
  nets = is.nets;
  slots = is.slots;
  standings = column_long (λ p. standing_after (standing_at s p) (waking_at d o s p)) (length s.standings) (length d.procs) is.standings;
  work = column_long (λ p. work_after (work_at s p) (waking_at d o s p)) (length s.work) (length d.procs) is.work;
  locals = is.locals;
  locals_filled = is.locals_filled;
  fresh = is.fresh;
  evaluations = column_long (λ a. one_more_if (reads_at d o a) (count_at s.evaluations a)) (length s.evaluations) (length d.assigns) is.evaluations;
  resolutions = is.resolutions;
  procs = procs;
  nonblocking = is.nonblocking;
  moved = is.moved;
}
  where
    procs : (p : ℕ) (proc : Proc) → slice_get d.procs p ≡ Some proc → ProcFits (wake d o true s) p proc
    procs p proc at = proc_fits (subst (Sound d proc) (sym work) after.sound) (subst (λ (l : List Work). StandingFits s.moment l (standing_at (wake d o true s) p)) (sym work) (subst (StandingFits s.moment (work_after (work_at s p) (waking_at d o s p))) (sym standing) after.fits))
      where
        low : p < length d.procs
        low = slice_get_within d.procs p proc at

        standing : standing_at (wake d o true s) p ≡ standing_after (standing_at s p) (waking_at d o s p)
        standing = column_at (λ p. standing_after (standing_at s p) (waking_at d o s p)) (length s.standings) p Over (omega (arith, low, is.standings))

        work : work_at (wake d o true s) p ≡ work_after (work_at s p) (waking_at d o s p)
        work = column_at (λ p. work_after (work_at s p) (waking_at d o s p)) (length s.work) p [] (omega (arith, low, is.work))

        after : Stands d proc s.moment (standing_after (standing_at s p) (waking_at d o s p)) (work_after (work_at s p) (waking_at d o s p))
        after =
            waking_stands d proc (body_of_proc d proc (design.procs p proc at)) s.moment (functions_of d) (world_of_state s) o (standing_at s p) (work_at s p) (locals_at s p) (record { sound = proc_sound (is.procs p proc at); fits = (is.procs p proc at).standing })
