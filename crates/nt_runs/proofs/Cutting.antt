-- The whole lines of a witness in which a run stopped.
use Rattle.std.proofs.Common.{◌≡◌, ◌⊎◌, inl, inr, ℕ, zero, suc, ◌+◌, ◌<◌, true, List, [], ◌∷◌, ◌++◌, length, take, Option, Some, None, IfErr, Result, Ok, Err, option_and_then, refl, sym, ◌∙◌, ap, subst, arith, append_assoc, append-nil}
use Rattle.std.specs.List.{All}
use Rattle.std.proofs.Math.Seq.{take-append-add}
use Rattle.std.proofs.lemmas.List.{take-append-le}
use Rattle.std.proofs.lemmas.List.Elements.{All-append, All-nil, All-cons, All-head, All-tail}
use Rattle.std.proofs.lemmas.Grind.{flat_map-append}
use Rattle.nt_io.specs.Sinks.{SinkMeaning, Gained}
use Rattle.nt_io.proofs.Gains.{gained_then}
use Rattle.nt_design.specs.declared.design.Design.{Design}
use Rattle.nt_semantics.specs.Execution.{Execution, run, settle, expansion, copies, is_entry, seen, Observation}
use Rattle.nt_semantics.specs.Rounds.{RoundState}
use Rattle.nt_semantics.specs.State.{MachineState, start_state}
use Rattle.nt_semantics.specs.Step.{step}
use Rattle.nt_semantics.specs.Texts.{entry_line, entry_lines}
use Rattle.nt_semantics.specs.declared.event.Entry.{Entry}
use Rattle.nt_semantics.specs.declared.event.Event.{Event}
use Rattle.nt_slot.specs.Calls.{Setting, Call, entries_of, lines_of}
use Rattle.nt_slot.specs.Slots.{Further, SlotLeaves}
use Rattle.nt_slot.specs.declared.take.SlotStop.{SlotStop}
use Rattle.nt_slot.specs.declared.take.SlotStop.TheVariants.{StepLimit, TurnLimit, Write, OutOfMemory}
use Rattle.nt_runs.specs.Lines.{IsPart, WholeLines}
use Rattle.nt_semantics.specs.Slots.{Reached}
use Rattle.nt_runs.specs.SoFar.{SoFar, RunLeaves}
use Rattle.nt_runs.specs.declared.runs.RunStop.{RunStop}
use Rattle.nt_runs.specs.declared.runs.RunStop.TheVariants.{Slot, End}
use Rattle.nt_runs.proofs.Lists.{none_some}
use Rattle.nt_runs.proofs.Going.{reached_went}
use Rattle.nt_runs.proofs.Slots.{so_far_along}

-- ---- a front of the lines of entries
record CutLines (entries : List Entry) (text : List ℕ) : Type 0 where
  whole : List Entry
  rest : List Entry
  part : List ℕ
  entries_are : entries ≡ whole ++ rest
  last : IsPart part
  text_is : text ≡ entry_lines whole ++ part

lt_or_more : (k n : ℕ) → (k < n) ⊎ ((m : ℕ) × (k ≡ n + m))
lt_or_more k zero = inr (k, omega arith)
lt_or_more zero (suc n) = inl (omega arith)
lt_or_more (suc k) (suc n) = elim (lt_or_more k n) [
  | inl below ↦ inl (omega (arith, below))
  | inr past ↦ inr (past.0, omega (arith, past.1))
]

all_lines : (entries : List Entry) → CutLines entries (entry_lines entries)
all_lines entries = record { whole = entries; rest = []; part = []; entries_are = sym (append-nil entries); last = inl refl; text_is = sym (append-nil (entry_lines entries)) }

cut_lines : (entries : List Entry) (n : ℕ) → CutLines entries (take n (entry_lines entries))
cut_lines [] zero = record { whole = []; rest = []; part = []; entries_are = refl; last = inl refl; text_is = refl }
cut_lines [] (suc n) = record { whole = []; rest = []; part = []; entries_are = refl; last = inl refl; text_is = refl }
cut_lines (e ∷ es) n = elim (lt_or_more n (length (entry_line e))) [
  | inl below ↦ record {
    whole = [];
    rest = e ∷ es;
    part = take n (entry_line e);
    entries_are = refl;
    last = inr (e, n, below, refl);
    text_is = take-append-le n (entry_line e) (entry_lines es) (omega (arith, below));
  }
  | inr past ↦ further past.0 past.1 (cut_lines es past.0)
]
  where
    further : (m : ℕ) → n ≡ length (entry_line e) + m → CutLines es (take m (entry_lines es)) → CutLines (e ∷ es) (take n (entry_lines (e ∷ es)))
    further m is cut = record {
      whole = e ∷ cut.whole;
      rest = cut.rest;
      part = cut.part;
      entries_are = ap (λ (l : List Entry). e ∷ l) cut.entries_are;
      last = cut.last;
      text_is = ap (λ k. take k (entry_line e ++ entry_lines es)) is
          ∙ take-append-add (entry_line e) (entry_lines es) m
          ∙ ap (λ (l : List ℕ). entry_line e ++ l) cut.text_is
          ∙ sym (append_assoc (entry_line e) (entry_lines cut.whole) cut.part);
    }

-- ---- a front of a run
run_front : (until : ℕ) (d : Design) (xs ys : List Event) (s t : MachineState) → run until d (xs ++ ys) s ≡ Some t → (m : MachineState) × (run until d xs s ≡ Some m)
run_front until d [] ys s t h = (s, refl)
run_front until d (x ∷ xs) ys s t h = of_step (λ u. run_front until d xs ys u t) (step d (settle until s) x) h
  where
    of_step : ((u : MachineState) → run until d (xs ++ ys) u ≡ Some t → (m : MachineState) × (run until d xs u ≡ Some m)) → (o : Option MachineState) → option_and_then (run until d (xs ++ ys)) o ≡ Some t → (m : MachineState) × (option_and_then (run until d xs) o ≡ Some m)
    of_step go None h = absurd (none_some t h)
    of_step go (Some u) h = go u h

all_front : {X : Type 0} (P : X → Type 0) (xs ys : List X) → All P (xs ++ ys) → All P xs
all_front P [] ys h = All-nil P
all_front P (x ∷ xs) ys h = All-cons P x xs (All-head P x (xs ++ ys) h) (all_front P xs ys (All-tail P x (xs ++ ys) h))

execution_front : (until : ℕ) (d : Design) (xs ys : List Entry) (s : MachineState) → Execution until d (xs ++ ys) s → (m : MachineState) × Execution until d xs m
execution_front until d xs ys s execution =
    let front = run_front until d (expansion xs) (expansion ys) (start_state d) s (subst (λ (es : List Event). run until d es (start_state d) ≡ Some s) (flat_map-append copies xs ys) execution.runs) in
    (front.0, record { counted = all_front (λ (e : Entry). is_entry d e ≡ true) xs ys execution.counted; runs = front.1 })

module _ (until : ℕ) (made : RoundState → List Entry → Option Event → RoundState → Type 0) (s : Setting) (g : RoundState) (a : SinkMeaning) where
  so_far_lines : (h : RoundState) (b : SinkMeaning) (calls : List Call) (slots left : List Observation) → SoFar until made s g a calls slots left h b → WholeLines until s.design a b
  so_far_lines h b calls slots left far = record {
    entries = entries_of calls;
    last = far.reached.last;
    execution = record { counted = far.counted; runs = far.reached.runs };
    part = [];
    is_part = inl refl;
    gained = subst (λ (l : List ℕ). Gained a b l) (sym (append-nil (lines_of calls))) far.gained;
  }

  further_lines : (h : RoundState) (b c : SinkMeaning) (calls more : List Call) (call : Call) (slots : List Observation) (bytes : List ℕ) → SoFar until made s g a calls slots (seen h.state) h b → Further made s h b more call bytes c → CutLines call.entries bytes → WholeLines until s.design a c
  further_lines h b c calls more call slots bytes far further cut = record {
    entries = entries_of (calls ++ more) ++ cut.whole;
    last = front.0;
    execution = front.1;
    part = cut.part;
    is_part = cut.last;
    gained = subst (λ (l : List ℕ). Gained a c l) text (gained_then along.gained further.gained);
  }
    where
      along : SoFar until made s g a (calls ++ more) slots (seen further.between.state) further.between further.before
      along = so_far_along until made s g a h further.between b further.before calls more slots far further.along

      reached : Reached until s.design (expansion (entries_of (calls ++ more)) ++ expansion call.entries) slots (seen call.after.state) call.after.state
      reached = reached_went until s.design (expansion (entries_of (calls ++ more))) (expansion call.entries) slots further.between.state further.went.reached call.after.state along.reached further.went.runs further.went.here

      all_entries : entries_of (calls ++ more) ++ call.entries ≡ (entries_of (calls ++ more) ++ cut.whole) ++ cut.rest
      all_entries = ap (λ (l : List Entry). entries_of (calls ++ more) ++ l) cut.entries_are ∙ sym (append_assoc (entries_of (calls ++ more)) cut.whole cut.rest)

      execution : Execution until s.design (entries_of (calls ++ more) ++ call.entries) reached.last
      execution = record {
        counted = All-append (λ (e : Entry). is_entry s.design e ≡ true) (entries_of (calls ++ more)) call.entries along.counted further.went.counted;
        runs = ap (λ es. run until s.design es (start_state s.design)) (flat_map-append copies (entries_of (calls ++ more)) call.entries) ∙ reached.runs;
      }

      front : (m : MachineState) × Execution until s.design (entries_of (calls ++ more) ++ cut.whole) m
      front = execution_front until s.design (entries_of (calls ++ more) ++ cut.whole) cut.rest reached.last (subst (λ (l : List Entry). Execution until s.design l reached.last) all_entries execution)

      text : lines_of (calls ++ more) ++ bytes ≡ entry_lines (entries_of (calls ++ more) ++ cut.whole) ++ cut.part
      text = ap (λ (l : List ℕ). lines_of (calls ++ more) ++ l) cut.text_is ∙ sym (append_assoc (lines_of (calls ++ more)) (entry_lines cut.whole) cut.part) ∙ ap (λ (l : List ℕ). l ++ cut.part) (sym (flat_map-append entry_line (entries_of (calls ++ more)) cut.whole))

  in_slot : (h between : RoundState) (b before : SinkMeaning) (calls : List Call) (slots : List Observation) (stop : SlotStop) → SoFar until made s g a calls slots (seen between.state) between before → SlotLeaves made s between h before b (Err stop) → WholeLines until s.design a b
  in_slot h between b before calls slots (StepLimit n) far (more, c, further, after, quiet, count, past) =
      further_lines between before b calls more c slots (entry_lines c.entries) far further (all_lines c.entries)
  in_slot h between b before calls slots (TurnLimit event) far (more, c, further, after, long) =
      further_lines between before b calls more c slots (entry_lines c.entries) far further (all_lines c.entries)
  in_slot h between b before calls slots (Write fault) far (more, c, k, below, further, rose) =
      further_lines between before b calls more c slots (take k (entry_lines c.entries)) far further (cut_lines c.entries k)
  in_slot h between b before calls slots (OutOfMemory refused) far (more, k, along) =
      so_far_lines k b (calls ++ more) slots (seen k.state) (so_far_along until made s g a between k before b calls more slots far along)

  pub stop_lines : (shown broken : List Observation → Type 0) (h : RoundState) (b : SinkMeaning) (stop : RunStop) → RunLeaves until made s g h a b shown broken (Err stop) → WholeLines until s.design a b
  stop_lines shown broken h b (Slot stop) left =
      in_slot h left.between b left.before left.calls left.slots stop left.so_far left.slot
  stop_lines shown broken h b (End stop) left =
      so_far_lines left.between b left.calls left.slots (seen left.between.state) left.so_far

pub if_err_any : {T E P : Type 0} (r : Result T E) → P → IfErr r (λ _. P)
if_err_any (Ok x) p = tt
if_err_any (Err e) p = p
