-- Writes one after another, and the texts of a run that ended or was cut off.
use Rattle.std.proofs.Common.{◌≡◌, inl, inr, ◌⊎◌, ℕ, zero, suc, ◌+◌, ◌<◌, true, not, ◌&&◌, if◌then◌else◌, List, [], ◌∷◌, ◌++◌, Option, Some, None, IfSome, IfErr, Result, Ok, Err, length, take, refl, sym, ◌∙◌, ap, subst, arith, append_assoc, append-nil, length-append}
use Rattle.std.proofs.Math.Seq.{take-append-add}
use Rattle.std.proofs.lemmas.List.{take-append-le}
use Rattle.std.proofs.lemmas.List.Elements.{All-nil, All-cons, All-head, All-tail}
use Rattle.std.proofs.lemmas.Grind.{flat_map-append}
use Rattle.std.specs.List.{All, list_any}
use Rattle.nt_io.specs.Sinks.{SinkMeaning, Appends, Gained}
use Rattle.nt_io.proofs.Gains.{gained_then, gained_nothing, appends_nothing}
use Rattle.nt_design.specs.declared.design.Design.{Design}
use Rattle.nt_design.specs.Plain.{IsPlain}
use Rattle.nt_machine.specs.Plain.{IsPlainState}
use Rattle.nt_semantics.specs.State.{MachineState, start_state}
use Rattle.nt_semantics.specs.Execution.{Execution, IsComplete, run, expansion, copies, ended, seen, is_active, is_inactive, is_entry, Observation, observation_of}
use Rattle.nt_semantics.specs.Texts.{entry_line, entry_lines, witness_head, witness_end, witness_text, slot_text, slots_text, end_text, finish_text, trace_text, IsWritten}
use Rattle.nt_semantics.specs.declared.event.Entry.{Entry}
use Rattle.nettype_sim.specs.Writes.{IsFront, GainsFront, GainsPart, Opened, Filed}
use Rattle.nettype_sim.specs.Runs.{CutOff, IsLastPart, IsCutWitness, RunsWhole, RunsInPart}
use Rattle.nettype_sim.specs.Outcomes.{RanDesign, StoppedDesign}
use Rattle.nt_semantics.specs.Step.{is_some_put}
use Rattle.nt_machine.proofs.Moves.{settled, ended_last}
use Rattle.nt_machine.proofs.Starts.{start_still}
use Rattle.nettype_sim.proofs.Steps.{run_front}

pub if_err_any : {T E P : Type 0} (r : Result T E) → P → IfErr r (λ _. P)
if_err_any (Ok x) p = tt
if_err_any (Err e) p = p

gained_same : (a b : SinkMeaning) (x y : List ℕ) → x ≡ y → Gained a b x → Gained a b y
gained_same a b x y same gained = subst (λ (l : List ℕ). Gained a b l) same gained

-- a front of a text, with more behind it
part_before : (a b : SinkMeaning) (x y : List ℕ) → GainsFront a b x → GainsPart a b (x ++ y)
part_before a b x y (n, below, gained) =
    (n, gained_same a b (take n x) (take n (x ++ y)) (sym (take-append-le n x y (omega (arith, below)))) gained)

-- a text, and a front of what stands behind it
part_behind : (a b c : SinkMeaning) (x y : List ℕ) → Gained a b x → GainsFront b c y → GainsPart a c (x ++ y)
part_behind a b c x y first (n, below, gained) =
    (length x + n, gained_same a c (x ++ take n y) (take (length x + n) (x ++ y)) (sym (take-append-add x y n)) (gained_then first gained))

-- the text of one slot, and the end of the run
pub trace_written : (until : ℕ) (d : Design) (seen : Observation) (a b c : SinkMeaning) (text last : List ℕ) → text ≡ slot_text d None seen → last ≡ end_text until → Gained a b text → Gained b c last → Gained a c (slot_text d None seen ++ end_text until)
trace_written until d seen a b c text last is ends first second =
    gained_then (gained_same a b text (slot_text d None seen) is first) (gained_same b c last (end_text until) ends second)

pub trace_cut_in_slot : (until : ℕ) (d : Design) (seen : Observation) (a b : SinkMeaning) (text : List ℕ) → text ≡ slot_text d None seen → GainsFront a b text → GainsPart a b (slot_text d None seen ++ end_text until)
trace_cut_in_slot until d seen a b text is front =
    subst (λ (l : List ℕ). GainsPart a b (l ++ end_text until)) is (part_before a b text (end_text until) front)

pub trace_cut_in_end : (until : ℕ) (d : Design) (seen : Observation) (a b c : SinkMeaning) (text last : List ℕ) → text ≡ slot_text d None seen → last ≡ end_text until → Gained a b text → GainsFront b c last → GainsPart a c (slot_text d None seen ++ end_text until)
trace_cut_in_end until d seen a b c text last is ends first front =
    subst (λ (l : List ℕ). GainsPart a c l) (λ i. is i ++ ends i) (part_behind a b c text last first front)

-- a front of the lines of entries: the lines of the first of them, and a last part
record CutLines (entries : List Entry) (text : List ℕ) : Type 0 where
  whole : List Entry
  rest : List Entry
  part : List ℕ
  entries_are : entries ≡ whole ++ rest
  last : IsLastPart part
  text_is : text ≡ entry_lines whole ++ part

no_part : IsLastPart []
no_part = inr (0, omega arith, refl)

lt_or_more : (k n : ℕ) → (k < n) ⊎ ((m : ℕ) × (k ≡ n + m))
lt_or_more k zero = inr (k, omega arith)
lt_or_more zero (suc n) = inl (omega arith)
lt_or_more (suc k) (suc n) = elim (lt_or_more k n) [
  | inl below ↦ inl (omega (arith, below))
  | inr past ↦ inr (past.0, omega (arith, past.1))
]

cut_lines : (entries : List Entry) (n : ℕ) → All IsWritten entries → CutLines entries (take n (entry_lines entries))
cut_lines [] zero w = record { whole = []; rest = []; part = []; entries_are = refl; last = no_part; text_is = refl }
cut_lines [] (suc n) w = record { whole = []; rest = []; part = []; entries_are = refl; last = no_part; text_is = refl }
cut_lines (e ∷ es) n w = elim (lt_or_more n (length (entry_line e))) [
  | inl below ↦ record {
    whole = [];
    rest = e ∷ es;
    part = take n (entry_line e);
    entries_are = refl;
    last = inl (e, (All-head IsWritten e es w, (n, below, refl)));
    text_is = take-append-le n (entry_line e) (entry_lines es) (omega (arith, below));
  }
  | inr past ↦ further past.0 past.1 (cut_lines es past.0 (All-tail IsWritten e es w))
]
  where
    further : (m : ℕ) → n ≡ length (entry_line e) + m → CutLines es (take m (entry_lines es)) → CutLines (e ∷ es) (take n (entry_lines (e ∷ es)))
    further m is cut = record {
      whole = e ∷ cut.whole;
      rest = cut.rest;
      part = cut.part;
      entries_are = ap (λ (l : List Entry). e ∷ l) cut.entries_are;
      last = cut.last;
      text_is = ap (λ k. take k (entry_line e ++ entry_lines es)) is
          ∙ take-append-add (entry_line e) (entry_lines es) m
          ∙ ap (λ (l : List ℕ). entry_line e ++ l) cut.text_is
          ∙ sym (append_assoc (entry_line e) (entry_lines cut.whole) cut.part);
    }

all_front : {X : Type 0} (P : X → Type 0) (xs ys : List X) → All P (xs ++ ys) → All P xs
all_front P [] ys h = All-nil P
all_front P (x ∷ xs) ys h =
    All-cons P x xs (All-head P x (xs ++ ys) h) (all_front P xs ys (All-tail P x (xs ++ ys) h))

-- the first entries of an execution are those of one
execution_front : (until : ℕ) (d : Design) (xs ys : List Entry) (s : MachineState) → Execution until d (xs ++ ys) s → (m : MachineState) × Execution until d xs m
execution_front until d xs ys s execution =
    let runs = subst (λ (es : List _). run until d es (start_state d) ≡ Some s) (flat_map-append copies xs ys) execution.runs in
    let front = run_front until d (expansion xs) (expansion ys) (start_state d) s runs in
    (front.0, record { counted = all_front (λ (e : Entry). is_entry d e ≡ true) xs ys execution.counted; runs = front.1 })

no_entries : (until : ℕ) (d : Design) → Execution until d [] (start_state d)
no_entries until d = record { counted = All-nil (λ (e : Entry). is_entry d e ≡ true); runs = refl }

-- a run that is cut off before its trace begins
untraced : (until : ℕ) (d : Design) (entries : List Entry) (reached : MachineState) (file : List ℕ) → Execution until d entries reached → All IsWritten entries → IsCutWitness entries file → CutOff until d file []
untraced until d entries reached file execution written witness_is = record {
  entries = entries;
  reached = reached;
  execution = execution;
  written = written;
  witness_is = witness_is;
  trace_is = inl (0, refl);
}

pub cut_in_head : (until : ℕ) (d : Design) (t a b : SinkMeaning) → GainsFront a b witness_head → RunsInPart until d t t a b
cut_in_head until d t a b (n, below, gained) =
    (take n witness_head, [], untraced until d [] (start_state d) (take n witness_head) (no_entries until d) (All-nil IsWritten) (inl (refl, (n, below, refl))), gained, gained_nothing)

pub cut_behind_head : (until : ℕ) (d : Design) (t a b : SinkMeaning) → Gained a b witness_head → RunsInPart until d t t a b
cut_behind_head until d t a b gained =
    (witness_head, [], untraced until d [] (start_state d) witness_head (no_entries until d) (All-nil IsWritten) (inr ([], no_part, sym (append-nil witness_head))), gained, gained_nothing)

pub cut_in_entries : (until : ℕ) (d : Design) (entries : List Entry) (s : MachineState) (t a b c : SinkMeaning) → Execution until d entries s → All IsWritten entries → Gained a b witness_head → GainsPart b c (entry_lines entries) → RunsInPart until d t t a c
cut_in_entries until d entries s t a b c execution written head (n, gained) =
    let cut = cut_lines entries n written in
    let front = execution_front until d cut.whole cut.rest s (subst (λ (es : List Entry). Execution until d es s) cut.entries_are execution) in
    let first = all_front IsWritten cut.whole cut.rest (subst (λ (es : List Entry). All IsWritten es) cut.entries_are written) in
    (witness_head ++ take n (entry_lines entries), [], untraced until d cut.whole front.0 _ front.1 first (inr (cut.part, cut.last, ap (λ (l : List ℕ). witness_head ++ l) cut.text_is)), gained_then head gained, gained_nothing)

-- the trace of a run of nets and constants: its one slot, and the end
module _ (until : ℕ) (d : Design) (entries : List Entry) (s : MachineState) (execution : Execution until d entries s) (written : All IsWritten entries) (plain : IsPlain d) (still : IsPlainState s) (complete : IsComplete until s) where
  slot_over : seen s ≡ observation_of s ∷ []
  slot_over =
      ap (λ b. if not b && (not (list_any is_inactive s.standings) && not (is_some_put s.nonblocking)) then observation_of s ∷ [] else []) (ap is_active (sym (settled until s still)) ∙ complete)
      ∙ ap (λ places. if not (list_any is_inactive places) && not (is_some_put s.nonblocking) then observation_of s ∷ [] else []) still.standings
      ∙ ap (λ puts. if not (is_some_put puts) then observation_of s ∷ [] else []) still.nonblocking

  ended_there : ended until d (expansion entries) (start_state d) ≡ observation_of s ∷ []
  ended_there =
      ended_last until d (expansion entries) (start_state d) s plain (start_still d plain) execution.runs ∙ slot_over

  one_slot : slots_text d None (observation_of s ∷ []) ≡ slot_text d None (observation_of s)
  one_slot = append-nil (slot_text d None (observation_of s))

  trace_is : slot_text d None (observation_of s) ++ end_text until ≡ trace_text d until (ended until d (expansion entries) (start_state d)) s.finished
  trace_is =
      (λ i. sym one_slot i ++ (if sym still.finished i then finish_text s.moment else end_text until))
      ∙ ap (λ slots. trace_text d until slots s.finished) (sym ended_there)

  -- a run that is cut off behind its entries
  traced : (part trace : List ℕ) → IsLastPart part → IsFront trace (slot_text d None (observation_of s) ++ end_text until) → CutOff until d (witness_head ++ (entry_lines entries ++ part)) trace
  traced part trace last front = record {
    entries = entries;
    reached = s;
    execution = execution;
    written = written;
    witness_is = inr (part, last, refl);
    trace_is = inr (inl (complete, subst (IsFront trace) trace_is front));
  }

  pub cut_in_trace : (t u a b c : SinkMeaning) → Gained a b witness_head → Gained b c (entry_lines entries) → GainsPart t u (slot_text d None (observation_of s) ++ end_text until) → RunsInPart until d t u a c
  cut_in_trace t u a b c head lines (n, seen) =
      (_, _, traced [] (take n (slot_text d None (observation_of s) ++ end_text until)) no_part (n, refl), gained_then head (gained_then lines gained_nothing), seen)

  take_whole : (l : List ℕ) → take (length l) l ≡ l
  take_whole [] = refl
  take_whole (x ∷ xs) = ap (λ (l : List ℕ). x ∷ l) (take_whole xs)

  pub cut_in_end : (t u a b c e : SinkMeaning) → Gained a b witness_head → Gained b c (entry_lines entries) → Gained t u (slot_text d None (observation_of s) ++ end_text until) → GainsFront c e witness_end → RunsInPart until d t u a e
  cut_in_end t u a b c e head lines seen (n, below, gained) =
      (_, _, traced (take n witness_end) (slot_text d None (observation_of s) ++ end_text until) (inr (n, below, refl)) (length (slot_text d None (observation_of s) ++ end_text until), sym (take_whole (slot_text d None (observation_of s) ++ end_text until))), gained_then head (gained_then lines gained), seen)

  pub ran_whole : (t u a b c e : SinkMeaning) → Gained a b witness_head → Gained b c (entry_lines entries) → Gained t u (slot_text d None (observation_of s) ++ end_text until) → Gained c e witness_end → RunsWhole until d t u a e
  ran_whole t u a b c e head lines seen gained = (
    witness_text entries,
    slot_text d None (observation_of s) ++ end_text until,
    record {
      entries = entries;
      end_state = s;
      execution = execution;
      complete = complete;
      written = written;
      witness_is = refl;
      trace_is = trace_is;
    },
    gained_then head (gained_then lines gained),
    seen,
  )

-- a sink that was opened and then gained these bytes
filed : (a b c : SinkMeaning) (path bytes : List ℕ) → Opened a b path → Gained b c bytes → Filed a c path bytes
filed a b c path bytes opened gained = record {
  named = subst (λ (o : Option (List ℕ)). IfSome o (λ p. p ≡ path)) (sym gained.path) opened.named;
  told = subst (λ (o : Option (List ℕ)). IfSome a.path (λ p. o ≡ Some path)) (sym gained.path) opened.told;
  written = subst (λ (o : Option (List ℕ)). Appends o c.written bytes) opened.written gained.written;
}

pub ran_design : (until : ℕ) (d : Design) (path : List ℕ) (t u a b c : SinkMeaning) → Opened a b path → RunsWhole until d t u b c → RanDesign until d path t u a c
ran_design until d path t u a b c opened (file, seen, witnessed, gained, traced) =
    (file, seen, witnessed, filed a b c path file opened gained, traced)

pub stopped_design : (until : ℕ) (d : Design) (path : List ℕ) (t u a b c : SinkMeaning) → Opened a b path → RunsInPart until d t u b c → StoppedDesign until d t u a c
stopped_design until d path t u a b c opened (file, seen, cut, gained, traced) =
    (file, seen, cut, subst (λ (o : Option (List ℕ)). Appends o c.written file) opened.written gained.written, traced)

pub not_opened : (until : ℕ) (d : Design) (t a b : SinkMeaning) → b.written ≡ a.written → StoppedDesign until d t t a b
not_opened until d t a b kept =
    ([], [], untraced until d [] (start_state d) [] (no_entries until d) (All-nil IsWritten) (inl (refl, (0, omega arith, refl))), subst (λ (o : Option (List ℕ)). Appends a.written o []) (sym kept) (appends_nothing a.written), gained_nothing)

-- a front of a text is one of a longer text
front_before : (a b : SinkMeaning) (x y : List ℕ) → GainsFront a b x → GainsFront a b (x ++ y)
front_before a b x y (n, below, gained) =
    (n, omega (arith, below, length-append x y), gained_same a b (take n x) (take n (x ++ y)) (sym (take-append-le n x y (omega (arith, below)))) gained)

front_behind : (a b c : SinkMeaning) (x y : List ℕ) → Gained a b x → GainsFront b c y → GainsFront a c (x ++ y)
front_behind a b c x y first (n, below, gained) =
    (length x + n, omega (arith, below, length-append x y), gained_same a c (x ++ take n y) (take (length x + n) (x ++ y)) (sym (take-append-add x y n)) (gained_then first gained))

-- three writes
pub three_cut_first : (a b : SinkMeaning) (x y z : List ℕ) → GainsFront a b x → GainsFront a b (x ++ (y ++ z))
three_cut_first a b x y z front = front_before a b x (y ++ z) front

pub three_cut_second : (a b c : SinkMeaning) (x y z : List ℕ) → Gained a b x → GainsFront b c y → GainsFront a c (x ++ (y ++ z))
three_cut_second a b c x y z first front = front_behind a b c x (y ++ z) first (front_before b c y z front)

pub three_cut_third : (a b c d : SinkMeaning) (x y z : List ℕ) → Gained a b x → Gained b c y → GainsFront c d z → GainsFront a d (x ++ (y ++ z))
three_cut_third a b c d x y z first second front =
    front_behind a b d x (y ++ z) first (front_behind b c d y z second front)

pub three_written : (a b c d : SinkMeaning) (x y z : List ℕ) → Gained a b x → Gained b c y → Gained c d z → Gained a d (x ++ (y ++ z))
three_written a b c d x y z first second third = gained_then first (gained_then second third)
