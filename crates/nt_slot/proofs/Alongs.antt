-- Calls of a slot, one more after others.
use Rattle.std.proofs.Common.{◌≡◌, inl, inr, ◌⊎◌, ℕ, ◌+◌, ◌*◌, ◌-◌, IsSome, ◌^◌, ◌<◌, ◌≤◌, Bool, true, false, if◌then◌else◌, List, [], ◌∷◌, ◌++◌, length, take, Option, Some, None, Ok, Err, option_and_then, refl, sym, ◌∙◌, ap, subst, arith, append-nil, length-append}
use Rattle.std.proofs.lemmas.List.Elements.{All-append, All-nil, All-cons}
use Rattle.std.proofs.lemmas.Grind.{flat_map-append}
use Rattle.std.proofs.lemmas.Option.{same_Some}
use Rattle.std.proofs.lemmas.Bool.{false≢true}
use Rattle.nt_io.specs.Causes.{Rose}
use Rattle.nt_io.specs.Sinks.{SinkMeaning, Gained}
use Rattle.nt_io.proofs.Gains.{gained_then, gained_nothing}
use Rattle.nt_design.specs.declared.design.Design.{Design}
use Rattle.nt_semantics.specs.Execution.{is_active, expansion, copies, is_entry}
use Rattle.nt_semantics.specs.Rounds.{RoundState}
use Rattle.nt_semantics.specs.State.{MachineState}
use Rattle.nt_semantics.specs.Texts.{entry_line, entry_lines}
use Rattle.nt_semantics.specs.declared.event.Entry.{Entry}
use Rattle.nt_semantics.specs.declared.event.Event.{Event}
use Rattle.nt_semantics.specs.Slots.{Few, Went, settle_here, run_here}
use Rattle.nt_slot.specs.Calls.{Setting, Call, AreMade, after_calls, entries_of, lines_of}
use Rattle.nt_slot.specs.Leaving.{MakesProgress}
use Rattle.nt_slot.specs.Slots.{limit, EndLeaves, Along, Further, SlotLeaves}
use Rattle.nt_slot.specs.declared.rounds.RoundEnd.{RoundEnd}
use Rattle.nt_slot.specs.declared.take.SlotStop.{SlotStop}
use Rattle.nt_slot.specs.declared.take.SlotStop.TheVariants.{StepLimit, TurnLimit, Write, OutOfMemory}
use Rattle.nt_semantics.proofs.MovingHere.{run_here_append, run_settled, settled_again}

pub fewer_than : (m n : ℕ) (s : MachineState) → m ≤ n → Few m s → Few n s
fewer_than m n s h few = record { copies = λ e. omega (arith, h, few.copies e); updates = omega (arith, h, few.updates) }

-- no entries at all
pub went_nowhere : (d : Design) (s : MachineState) → Went d s [] None s
went_nowhere d s = record {
  reached = s;
  runs = refl;
  here = inl refl;
  counted = All-nil (λ (entry : Entry). is_entry d entry ≡ true);
  long = tt;
  moment = refl;
  grows = λ most some few. fewer_than most (most + 0) s (omega arith) few;
}

-- where events lead from a state that was perhaps moved
record Leads (d : Design) (es : List Event) (s u : MachineState) : Type 0 where
  reached : MachineState
  runs : run_here d es s ≡ Some reached
  here : (u ≡ reached) ⊎ (u ≡ settle_here reached)

leads_from : (d : Design) (es : List Event) (m t r u : MachineState) → (t ≡ m) ⊎ (t ≡ settle_here m) → run_here d es t ≡ Some r → (u ≡ r) ⊎ (u ≡ settle_here r) → Leads d es m u
leads_from d es m t r u (inl same) runs here = record { reached = r; runs = subst (λ (x : MachineState). run_here d es x ≡ Some r) same runs; here = here }
leads_from d [] m t r u (inr moved) runs here = record {
  reached = m;
  runs = refl;
  here = inr (of_here here ∙ settled);
}
  where
    is : r ≡ settle_here m
    is = sym (same_Some t r runs) ∙ moved

    of_here : (u ≡ r) ⊎ (u ≡ settle_here r) → u ≡ settle_here r
    of_here (inl h) = h ∙ is ∙ sym (settled_again m) ∙ ap settle_here (sym is)
    of_here (inr h) = h

    settled : settle_here r ≡ settle_here m
    settled = ap settle_here is ∙ settled_again m
leads_from d (e ∷ es) m t r u (inr moved) runs here = record {
  reached = r;
  runs = sym (run_settled d e es m) ∙ subst (λ (x : MachineState). run_here d (e ∷ es) x ≡ Some r) moved runs;
  here = here;
}

-- entries after entries
pub went_then : (d : Design) (s t u : MachineState) (es fs : List Entry) (ev : Option Event) → Went d s es None t → Went d t fs ev u → Went d s (es ++ fs) ev u
went_then d s t u es fs ev first second = record {
  reached = leads.reached;
  runs = ap (λ events. run_here d events s) (flat_map-append copies es fs) ∙ run_here_append d (expansion es) (expansion fs) s ∙ ap (option_and_then (run_here d (expansion fs))) first.runs ∙ leads.runs;
  here = leads.here;
  counted = All-append (λ (entry : Entry). is_entry d entry ≡ true) es fs first.counted second.counted;
  long = second.long;
  moment = second.moment ∙ first.moment;
  grows = λ most some few. fewer_than (most + length es + length fs) (most + length (es ++ fs)) u (omega (arith, length-append es fs)) (second.grows (most + length es) (omega (arith, some)) (first.grows most some few));
}
  where
    leads : Leads d (expansion fs) first.reached u
    leads = leads_from d (expansion fs) first.reached t second.reached u first.here second.runs second.here

-- ---- lists of calls
entries_more : (calls : List Call) (c : Call) → entries_of (calls ++ c ∷ []) ≡ entries_of calls ++ c.entries
entries_more calls c = flat_map-append (λ (c : Call). c.entries) calls (c ∷ []) ∙ ap (λ (l : List Entry). entries_of calls ++ l) (append-nil c.entries)

lines_more : (calls : List Call) (c : Call) → lines_of calls ++ entry_lines c.entries ≡ lines_of (calls ++ c ∷ [])
lines_more calls c = sym (ap entry_lines (entries_more calls c) ∙ flat_map-append entry_line (entries_of calls) c.entries)

after_more : (g : RoundState) (calls : List Call) (c : Call) → after_calls g (calls ++ c ∷ []) ≡ c.after
after_more g [] c = refl
after_more g (x ∷ calls) c = after_more x.after calls c

made_more : (made : RoundState → List Entry → Option Event → RoundState → Type 0) (g : RoundState) (calls : List Call) (c : Call) → AreMade made g calls → made (after_calls g calls) c.entries c.too_long c.after → AreMade made g (calls ++ c ∷ [])
made_more made g [] c all is = (is, tt)
made_more made g (x ∷ calls) c all is = (all.0, made_more made x.after calls c all.1 is)

module _ (made : RoundState → List Entry → Option Event → RoundState → Type 0) (s : Setting) where
  pub along_none : (g : RoundState) (a : SinkMeaning) → Along made s g a [] g a
  along_none g a = record {
    are_made = tt;
    ends = refl;
    quiet = All-nil (λ (c : Call). c.too_long ≡ None);
    went = went_nowhere s.design g.state;
    few = omega arith;
    gained = gained_nothing;
  }

  -- what a call is
  abbrev pub call_of : RoundEnd → RoundState → Call
  call_of e k = record { entries = e.entries; too_long = e.too_long; after = k }

  pub along_more : (g h k : RoundState) (a b c : SinkMeaning) (calls : List Call) (e : RoundEnd) → Along made s g a calls h b → made h e.entries e.too_long k → Went s.design h.state e.entries e.too_long k.state → e.too_long ≡ None → length (entries_of calls) + length e.entries < limit → Gained b c (entry_lines e.entries) → Along made s g a (calls ++ call_of e k ∷ []) k c
  along_more g h k a b c calls e along is went quiet few gained = record {
    are_made = made_more made g calls (call_of e k) along.are_made (subst (λ (x : RoundState). made x e.entries e.too_long k) (sym along.ends) is);
    ends = after_more g calls (call_of e k);
    quiet = All-append (λ (c : Call). c.too_long ≡ None) calls (call_of e k ∷ []) along.quiet (All-cons (λ (c : Call). c.too_long ≡ None) (call_of e k) [] quiet (All-nil (λ (c : Call). c.too_long ≡ None)));
    went = subst (λ (es : List Entry). Went s.design g.state es None k.state) (sym (entries_more calls (call_of e k))) (went_then s.design g.state h.state k.state (entries_of calls) e.entries None along.went (subst (λ (ev : Option Event). Went s.design h.state e.entries ev k.state) quiet went));
    few = subst (λ (es : List Entry). length es < limit) (sym (entries_more calls (call_of e k))) (omega (arith, few, length-append (entries_of calls) e.entries));
    gained = subst (λ (l : List ℕ). Gained a c l) (lines_more calls (call_of e k)) (gained_then along.gained gained);
  }

  pub count_more : (calls : List Call) (e : RoundEnd) (k : RoundState) → length (entries_of (calls ++ call_of e k ∷ [])) ≡ length (entries_of calls) + length e.entries
  count_more calls e k = ap length (entries_more calls (call_of e k)) ∙ length-append (entries_of calls) e.entries

  further : (g h k : RoundState) (a b c : SinkMeaning) (calls : List Call) (e : RoundEnd) (bytes : List ℕ) → Along made s g a calls h b → made h e.entries e.too_long k → Went s.design h.state e.entries e.too_long k.state → Gained b c bytes → Further made s g a calls (call_of e k) bytes c
  further g h k a b c calls e bytes along is went gained = record { before = b; between = h; along = along; is_made = is; went = went; gained = gained }

  rose_since : (a b c : SinkMeaning) (bytes : List ℕ) → Gained a b bytes → Rose b.faults c.faults → Rose a.faults c.faults
  rose_since a b c bytes gained rose = omega (arith, gained.faults, rose)

  -- a round's end at which the run of a slot stops
  pub stopped : (g h k : RoundState) (a b c : SinkMeaning) (calls : List Call) (e : RoundEnd) (n m : ℕ) (stop : SlotStop) → Along made s g a calls h b → made h e.entries e.too_long k → Went s.design h.state e.entries e.too_long k.state → n ≡ length (entries_of calls) → EndLeaves e n m b c (Err stop) → SlotLeaves made s g k a c (Err stop)
  stopped g h k a b c calls e n m (StepLimit x) along is went n_is (gained, quiet, x_is, past) =
      (calls, call_of e k, further g h k a b c calls e (entry_lines e.entries) along is went gained, refl, quiet, omega (arith, x_is, n_is), past)
  stopped g h k a b c calls e n m (TurnLimit event) along is went n_is (gained, long) =
      (calls, call_of e k, further g h k a b c calls e (entry_lines e.entries) along is went gained, refl, long)
  stopped g h k a b c calls e n m (Write fault) along is went n_is (x, below, gained, rose) =
      (calls, call_of e k, x, below, further g h k a b c calls e (take x (entry_lines e.entries)) along is went gained, rose_since a b c (lines_of calls) along.gained rose)
  stopped g h k a b c calls e n m (OutOfMemory refused) along is went n_is gained = (
    calls,
    h,
    record {
      are_made = along.are_made;
      ends = along.ends;
      quiet = along.quiet;
      went = along.went;
      few = along.few;
      gained = subst (λ (l : List ℕ). Gained a c l) (append-nil (lines_of calls)) (gained_then along.gained gained);
    },
  )

  pub still_few : (g h : RoundState) (a b : SinkMeaning) (calls : List Call) → Few (2 ^ 61) g.state → Along made s g a calls h b → Few (2 ^ 62 - 2 ^ 20) h.state
  still_few g h a b calls few along =
      fewer_than (2 ^ 61 + length (entries_of calls)) (2 ^ 62 - 2 ^ 20) h.state (omega (arith, along.few)) (along.went.grows (2 ^ 61) (omega arith) few)

-- ---- the loop
pub record SlotSoFar (made : RoundState → List Entry → Option Event → RoundState → Type 0) (s : Setting) (g : RoundState) (a : SinkMeaning) (h : RoundState) (b : SinkMeaning) (count : ℕ) : Type 0 where
  pub calls : List Call
  pub along : Along made s g a calls h b
  pub count_is : count ≡ length (entries_of calls)
  pub begun : h.begun ≡ true

-- what is left to do in a slot
abbrev pub idle : RoundState → ℕ
idle g = if is_active g.state then 0 else 1

abbrev pub left_to_do : ℕ → RoundState → ℕ
left_to_do count g = 2 * (limit - count) + idle g

flag_small : (b : Bool) → (if b then 0 else 1) ≤ 1
flag_small true = omega arith
flag_small false = omega arith

no_event : (o : Option Event) → o ≡ None → IsSome o → ⊥
no_event None h is = absurd (false≢true is)
no_event (Some e) h is = none_some e (sym h)
  where
    none_some : (e : Event) → None ≡ Some e → ⊥
    none_some e h = cc

pub falls : (g h : RoundState) (e : RoundEnd) (n m : ℕ) → MakesProgress g e h → e.too_long ≡ None → m ≡ n + length e.entries → m < limit → left_to_do m h < left_to_do n g
falls g h e n m (inl some) quiet m_is below = omega (arith, some, m_is, below, flag_small (is_active g.state), flag_small (is_active h.state))
falls g h e n m (inr (inl long)) quiet m_is below = absurd (no_event e.too_long quiet long)
falls g h e n m (inr (inr (empty, full))) quiet m_is below =
    let is_one : idle g ≡ 1 = ap (λ b. if b then 0 else 1) empty in
    let is_none : idle h ≡ 0 = ap (λ b. if b then 0 else 1) full in
    omega (arith, m_is, below, is_one, is_none)

module _ (made : RoundState → List Entry → Option Event → RoundState → Type 0) (s : Setting) where
  pub slot_more : (g h k : RoundState) (a b c : SinkMeaning) (calls : List Call) (e : RoundEnd) (n m : ℕ) (x : Unit {0}) → Along made s g a calls h b → n ≡ length (entries_of calls) → made h e.entries e.too_long k → Went s.design h.state e.entries e.too_long k.state → k.begun ≡ true → EndLeaves e n m b c (Ok x) → SlotSoFar made s g a k c m
  slot_more g h k a b c calls e n m x along count_is is went begun (gained, quiet, m_is, below) = record {
    calls = calls ++ call_of made s e k ∷ [];
    along = along_more made s g h k a b c calls e along is went quiet (omega (arith, m_is, below, count_is)) gained;
    count_is = m_is ∙ omega (arith, count_is, count_more made s calls e k);
    begun = begun;
  }
