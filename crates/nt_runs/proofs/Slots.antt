-- A run so far, slot by slot.
use Rattle.std.proofs.Common.{◌≡◌, ℕ, ◌^◌, Bool, true, false, not, ◌&&◌, List, [], ◌∷◌, ◌++◌, Option, Some, None, Result, Ok, Err, refl, sym, ◌∙◌, ap, subst, arith, append-nil}
use Rattle.std.specs.List.{All}
use Rattle.std.proofs.lemmas.Bool.{false≢true}
use Rattle.std.proofs.lemmas.List.Elements.{All-append, All-nil, All-cons}
use Rattle.std.proofs.lemmas.Grind.{flat_map-append}
use Rattle.nt_io.specs.Sinks.{SinkMeaning, Gained}
use Rattle.nt_io.proofs.Gains.{gained_then, gained_nothing}
use Rattle.nt_semantics.specs.Execution.{is_active, has_inactive, is_over, is_entry, expansion, copies, seen, move, observation_of, Observation}
use Rattle.nt_semantics.specs.Rounds.{RoundState}
use Rattle.nt_semantics.specs.State.{MachineState, start_state}
use Rattle.nt_semantics.specs.Step.{is_some_put}
use Rattle.nt_semantics.specs.Texts.{entry_line, entry_lines}
use Rattle.nt_semantics.specs.declared.event.Entry.{Entry}
use Rattle.nt_semantics.specs.declared.event.Event.{Event}
use Rattle.nt_semantics.specs.Slots.{Few}
use Rattle.nt_slot.specs.Calls.{Setting, Call, AreMade, after_calls, entries_of, lines_of}
use Rattle.nt_slot.specs.Leaving.{SlotBegins, TimeLeaves}
use Rattle.nt_slot.specs.Slots.{Along}
use Rattle.nt_slot.proofs.Alongs.{fewer_than}
use Rattle.nt_semantics.specs.Slots.{Reached}
use Rattle.nt_runs.specs.SoFar.{SoFar, RunsWhole, RunLeaves, OneLeaves, KeepsSizes, HaveSizes}
use Rattle.nt_runs.specs.declared.runs.RunStop.{RunStop}
use Rattle.nt_runs.specs.declared.runs.RunStop.TheVariants.{Slot, End}
use Rattle.nt_runs.proofs.Going.{reached_start, reached_move, reached_went, reached_last, over_seen, unmoved_settled}

-- ---- lists of calls
after_append : (g : RoundState) (xs ys : List Call) → after_calls g (xs ++ ys) ≡ after_calls (after_calls g xs) ys
after_append g [] ys = refl
after_append g (x ∷ xs) ys = after_append x.after xs ys

made_append : (made : RoundState → List Entry → Option Event → RoundState → Type 0) (g : RoundState) (xs ys : List Call) → AreMade made g xs → AreMade made (after_calls g xs) ys → AreMade made g (xs ++ ys)
made_append made g [] ys all more = more
made_append made g (x ∷ xs) ys all more = (all.0, made_append made x.after xs ys all.1 more)

entries_append : (xs ys : List Call) → entries_of (xs ++ ys) ≡ entries_of xs ++ entries_of ys
entries_append xs ys = flat_map-append (λ (c : Call). c.entries) xs ys

expansion_append : (xs ys : List Call) → expansion (entries_of (xs ++ ys)) ≡ expansion (entries_of xs) ++ expansion (entries_of ys)
expansion_append xs ys = ap expansion (entries_append xs ys) ∙ flat_map-append copies (entries_of xs) (entries_of ys)

lines_append : (xs ys : List Call) → lines_of xs ++ lines_of ys ≡ lines_of (xs ++ ys)
lines_append xs ys = sym (ap entry_lines (entries_append xs ys) ∙ flat_map-append entry_line (entries_of xs) (entries_of ys))

over_inactive : (s : MachineState) → is_over s ≡ true → is_active s ≡ false
over_inactive s h = of_active (is_active s) refl
  where
    of_active : (b : Bool) → is_active s ≡ b → is_active s ≡ false
    of_active true k =
        absurd (false≢true (sym (ap (λ b. not b && (not (has_inactive s) && not (is_some_put s.nonblocking))) k) ∙ h))
    of_active false k = k

module _ (until : ℕ) (made : RoundState → List Entry → Option Event → RoundState → Type 0) (s : Setting) (g : RoundState) (a : SinkMeaning) where
  so_far_start : g.state ≡ start_state s.design → SoFar until made s g a [] [] (seen g.state) g a
  so_far_start is = record {
    are_made = tt;
    ends = refl;
    quiet = All-nil (λ (c : Call). c.too_long ≡ None);
    counted = All-nil (λ (entry : Entry). is_entry s.design entry ≡ true);
    reached = subst (λ (x : MachineState). Reached until s.design [] [] (seen x) x) (sym is) (reached_start until s.design);
    gained = gained_nothing;
  }

  pub so_far_along : (h k : RoundState) (b c : SinkMeaning) (calls more : List Call) (slots : List Observation) → SoFar until made s g a calls slots (seen h.state) h b → Along made s h b more k c → SoFar until made s g a (calls ++ more) slots (seen k.state) k c
  so_far_along h k b c calls more slots far along = record {
    are_made = made_append made g calls more far.are_made (subst (λ (x : RoundState). AreMade made x more) (sym far.ends) along.are_made);
    ends = after_append g calls more ∙ ap (λ x. after_calls x more) far.ends ∙ along.ends;
    quiet = All-append (λ (c : Call). c.too_long ≡ None) calls more far.quiet along.quiet;
    counted = subst (λ (es : List Entry). All (λ (entry : Entry). is_entry s.design entry ≡ true) es) (sym (entries_append calls more)) (All-append (λ (entry : Entry). is_entry s.design entry ≡ true) (entries_of calls) (entries_of more) far.counted along.went.counted);
    reached = subst (λ (es : List Event). Reached until s.design es slots (seen k.state) k.state) (sym (expansion_append calls more)) (reached_went until s.design (expansion (entries_of calls)) (expansion (entries_of more)) slots h.state along.went.reached k.state far.reached along.went.runs along.went.here);
    gained = subst (λ (l : List ℕ). Gained a c l) (lines_append calls more) (gained_then far.gained along.gained);
  }

  so_far_shown : (h : RoundState) (b : SinkMeaning) (calls : List Call) (slots : List Observation) → SoFar until made s g a calls slots (seen h.state) h b → is_over h.state ≡ true → SoFar until made s g a calls (slots ++ observation_of h.state ∷ []) [] h b
  so_far_shown h b calls slots far over = record {
    are_made = far.are_made;
    ends = far.ends;
    quiet = far.quiet;
    counted = far.counted;
    reached = record {
      last = far.reached.last;
      runs = far.reached.runs;
      same = far.reached.same;
      ended_are = append-nil (slots ++ observation_of h.state ∷ []) ∙ ap (λ l. slots ++ l) (sym (over_seen h.state over)) ∙ far.reached.ended_are;
    };
    gained = far.gained;
  }

  abbrev begin_call : RoundState → Call
  begin_call k = record { entries = []; too_long = None; after = k }

  so_far_begins : (h k : RoundState) (b : SinkMeaning) (calls : List Call) (slots : List Observation) (moment : ℕ) → SoFar until made s g a calls slots [] h b → is_over h.state ≡ true → SlotBegins made until h k moment → SoFar until made s g a (calls ++ begin_call k ∷ []) slots (seen k.state) k b
  so_far_begins h k b calls slots moment far over begins = record {
    are_made = made_append made g calls (begin_call k ∷ []) far.are_made (subst (λ (x : RoundState). made x [] None k) (sym far.ends) begins.is_made, tt);
    ends = after_append g calls (begin_call k ∷ []);
    quiet = All-append (λ (c : Call). c.too_long ≡ None) calls (begin_call k ∷ []) far.quiet (All-cons (λ (c : Call). c.too_long ≡ None) (begin_call k) [] refl (All-nil (λ (c : Call). c.too_long ≡ None)));
    counted = subst (λ (es : List Entry). All (λ (entry : Entry). is_entry s.design entry ≡ true) es) (sym same_entries) far.counted;
    reached = subst (λ (es : List Entry). Reached until s.design (expansion es) slots (seen k.state) k.state) (sym same_entries) (reached_move until s.design (expansion (entries_of calls)) slots h.state k.state far.reached (over_inactive h.state over) begins.moves);
    gained = subst (λ (es : List Entry). Gained a b (entry_lines es)) (sym same_entries) far.gained;
  }
    where
      same_entries : entries_of (calls ++ begin_call k ∷ []) ≡ entries_of calls
      same_entries = entries_append calls (begin_call k ∷ []) ∙ append-nil (entries_of calls)

  -- a slot has begun; a slot is over and was shown
  pub record Begun (stands : List Observation → Type 0) (h : RoundState) (b : SinkMeaning) : Type 0 where
    pub calls : List Call
    pub slots : List Observation
    pub so_far : SoFar until made s g a calls slots (seen h.state) h b
    pub slots_shown : stands slots

  pub record Shown (stands : List Observation → Type 0) (h : RoundState) (b : SinkMeaning) : Type 0 where
    pub calls : List Call
    pub slots : List Observation
    pub so_far : SoFar until made s g a calls slots [] h b
    pub over : is_over h.state ≡ true
    pub slots_shown : stands slots

  pub begun_start : (stands : List Observation → Type 0) → g.state ≡ start_state s.design → stands [] → Begun stands g a
  begun_start stands is none = record { calls = []; slots = []; so_far = so_far_start is; slots_shown = none }

  pub one_shown : (old new broken : List Observation → Type 0) (h k : RoundState) (b c : SinkMeaning) (x : Unit {0}) → Begun old h b → OneLeaves made s h k b c old new broken (Ok x) → Shown new k c
  one_shown old new broken h k b c x begun (more, along, over, show) = record {
    calls = begun.calls ++ more;
    slots = begun.slots ++ observation_of k.state ∷ [];
    so_far = so_far_shown k c (begun.calls ++ more) begun.slots (so_far_along h k b c begun.calls more begun.slots begun.so_far along) over;
    over = over;
    slots_shown = show begun.slots begun.slots_shown;
  }

  pub one_stops : (old new broken : List Observation → Type 0) (h k : RoundState) (b c : SinkMeaning) (stop : RunStop) → Begun old h b → OneLeaves made s h k b c old new broken (Err stop) → RunLeaves until made s g k a c new broken (Err stop)
  one_stops old new broken h k b c (Slot stop) begun (leaves, still) = record {
    calls = begun.calls;
    slots = begun.slots;
    between = h;
    before = b;
    so_far = begun.so_far;
    slot = leaves;
    slots_shown = still begun.slots begun.slots_shown;
  }
  one_stops old new broken h k b c (End stop) begun (more, between, along, over, break) = record {
    calls = begun.calls ++ more;
    slots = begun.slots;
    between = between;
    so_far = so_far_along h between b c begun.calls more begun.slots begun.so_far along;
    over = over;
    slots_broken = break begun.slots begun.slots_shown;
  }

  pub begins : (stands : List Observation → Type 0) (h k : RoundState) (b : SinkMeaning) (moment : ℕ) → Shown stands h b → SlotBegins made until h k moment → Begun stands k b
  begins stands h k b moment shown begin = record {
    calls = shown.calls ++ begin_call k ∷ [];
    slots = shown.slots;
    so_far = so_far_begins h k b shown.calls shown.slots moment shown.so_far shown.over begin;
    slots_shown = shown.slots_shown;
  }

  whole_here : (stands : List Observation → Type 0) (h : RoundState) (b : SinkMeaning) → Shown stands h b → move until h.state ≡ None → RunsWhole until made s g a b stands h
  whole_here stands h b shown none =
      let empty = over_inactive h.state shown.over in
      let r = shown.so_far.reached in
      let same : r.last ≡ h.state = reached_last until s.design (expansion (entries_of shown.calls)) shown.slots [] h.state r empty none in
      record {
        calls = shown.calls;
        are_made = shown.so_far.are_made;
        quiet = shown.so_far.quiet;
        gained = shown.so_far.gained;
        execution = record { counted = shown.so_far.counted; runs = r.runs ∙ ap (λ x. Some x) same };
        complete = ap is_active (unmoved_settled until h.state empty none) ∙ empty;
        slots_shown = subst stands (sym (append-nil shown.slots) ∙ r.ended_are) shown.slots_shown;
      }

  pub whole : (stands : List Observation → Type 0) (h k : RoundState) (b : SinkMeaning) → Shown stands h b → TimeLeaves made until h k None → RunsWhole until made s g a b stands k
  whole stands h k b shown (none, same) =
      subst (λ (x : RoundState). RunsWhole until made s g a b stands x) (sym same) (whole_here stands h b shown none)

  pub keeps_sizes : (stands : List Observation → Type 0) (h : RoundState) (b : SinkMeaning) (vars nets : ℕ) → HaveSizes until s.design vars nets → Begun stands h b → KeepsSizes s h vars nets
  keeps_sizes stands h b vars nets sizes begun = λ entries t went.
      sizes (expansion (entries_of begun.calls) ++ expansion entries) begun.slots (seen t) t (reached_went until s.design (expansion (entries_of begun.calls)) (expansion entries) begun.slots h.state went.reached t begun.so_far.reached went.runs went.here)

pub few_at_start : (h : MachineState) → Few 1 h → Few (2 ^ 61) h
few_at_start h few = fewer_than 1 (2 ^ 61) h (omega arith) few

-- the same of an equal setting
pub one_leaves_at : (made : Setting → RoundState → List Entry → Option Event → RoundState → Type 0) (s t : Setting) (h k : RoundState) (b c : SinkMeaning) (old new broken : List Observation → Type 0) (r : Result (Unit {0}) RunStop) → s ≡ t → OneLeaves (made s) s h k b c old new broken r → OneLeaves (made t) t h k b c old new broken r
one_leaves_at made s t h k b c old new broken r same leaves =
    let P : Setting → Type 0 = λ x. OneLeaves (made x) x h k b c old new broken r in
    subst P same leaves
