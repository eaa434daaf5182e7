-- Where a round stops, an event is in Active and takes too many turns.
use Rattle.std.specs.Prelude.{⊤, IfSome}
use Rattle.std.proofs.Common.{◌≡◌, inl, inr, ℕ, zero, suc, ◌+◌, ◌<◌, ◌≤◌, ◌==◌, nat_lt, Bool, true, false, not, ◌&&◌, ◌||◌, if◌then◌else◌, List, [], ◌∷◌, length, filter, replicate, slice_get, Option, Some, None, option_and_then, refl, sym, ◌∙◌, ap, arith}
use Rattle.std.proofs.lemmas.Bool.{false≢true, ltb-true, lt-ltb}
use Rattle.std.proofs.lemmas.List.{get_or_past}
use Rattle.nt_design.specs.WellFormed.{IsDesign}
use Rattle.nt_design.specs.declared.design.Design.{Design}
use Rattle.nt_design.specs.declared.object.Net.{Net}
use Rattle.nt_semantics.proofs.Again.{again}
use Rattle.nt_semantics.proofs.Counting.{same_self}
use Rattle.nt_semantics.proofs.Holding.{Kept, count_there, kept_next, kept_published}
use Rattle.nt_semantics.proofs.Lasting.{evaluated_once, one_less, resolved_once}
use Rattle.nt_semantics.proofs.Listing.{entered}
use Rattle.nt_semantics.proofs.StepKeeps.{step_keeps}
use Rattle.nt_semantics.proofs.Waking.{lt_or_le, none_some}
use Rattle.nt_semantics.specs.Execution.{IsTooLong, copies, enter, if_some, is_entry, may_repeat, reads_own_target, steps}
use Rattle.nt_semantics.specs.Groups.{processes, is_among, is_same_process}
use Rattle.nt_semantics.specs.Laws.{without}
use Rattle.nt_semantics.specs.ReadyLists.{is_held, one_if, stands_listed, times}
use Rattle.nt_semantics.specs.Rounds.{Away, Ended, Idle, PhaseEnd, Quantum, ResolveEnd, TooLong, and_before, away_after, entry_of, marks_of, net_entry, next_ready, phase, resolve_nets, stops, with_entry, with_new, with_woken, woken}
use Rattle.nt_semantics.specs.State.{MachineState, count_at, standing_at, work_at}
use Rattle.nt_semantics.specs.StateFits.{HasWork, IsStateOf, StandingFits}
use Rattle.nt_semantics.specs.Step.{copies_of, is_order, is_order_of, is_pending, is_pending_at, is_some_work, may_begin, only_if, step}
use Rattle.nt_semantics.specs.declared.event.Event.{Event}
use Rattle.nt_semantics.specs.declared.event.Event.TheVariants.{Stmt, Assign as AssignEvent, Update, Resolve}
use Rattle.nt_semantics.specs.declared.process.Process.{Process}
use Rattle.nt_semantics.specs.declared.process.Process.TheVariants.{Procedure, Assignment}
use Rattle.nt_semantics.specs.declared.standing.Standing.{Standing}
use Rattle.nt_semantics.specs.declared.standing.Standing.TheVariants.{Unbegun, Ready, Inactive, Later, Waits, Over}
use Rattle.nt_semantics.specs.declared.work.Work.{Work}

-- ---- copies in a row
-- where one copy is allowed, all that there are may follow
copy_less : (s : MachineState) (e : Event) (k : ℕ) (d : Design) → may_repeat d e ≡ true → suc k ≤ copies_of s e → k ≤ copies_of (without s e) e
copy_less s (Stmt p) k d may le = absurd (false≢true may)
copy_less s Update k d may le = absurd (false≢true may)
copy_less s (AssignEvent a) k d may le = omega (arith, le, one_less s.evaluations a)
copy_less s (Resolve n order) k d may le = omega (arith, le, one_less s.resolutions n)

first_less : (d : Design) (s t : MachineState) (e : Event) (k : ℕ) → may_repeat d e ≡ true → step d s e ≡ Some t → suc k ≤ copies_of s e → k ≤ copies_of t e
first_less d s t (Stmt p) k may h le = absurd (false≢true may)
first_less d s t Update k may h le = absurd (false≢true may)
first_less d s t (AssignEvent a) k may h le = omega (arith, le, evaluated_once d s t a h)
first_less d s t (Resolve n order) k may h le = omega (arith, le, resolved_once d s t n order h)

more_follow : (d : Design) (e : Event) (k : ℕ) (s t : MachineState) → IsDesign d → IsStateOf d s → may_repeat d e ≡ true → step d s e ≡ Some t → k ≤ copies_of t e → (u : MachineState) × (steps d (replicate k e) t ≡ Some u)
more_follow d e zero s t design fits may h le = (t, refl)
more_follow d e (suc k) s t design fits may h le =
    let second : step d t e ≡ Some (without t e) = again d s t e design fits may h (omega (arith, le)) in
    let rest = more_follow d e k t (without t e) design (step_keeps d s t e design fits h) may second (copy_less t e k d may le) in
    (rest.0, ap (option_and_then (steps d (replicate k e))) second ∙ rest.1)

-- so where several aren't allowed, one isn't
none_first : (d : Design) (e : Event) (k : ℕ) (s : MachineState) → IsDesign d → IsStateOf d s → may_repeat d e ≡ true → suc k ≤ copies_of s e → steps d (replicate (suc k) e) s ≡ None → step d s e ≡ None
none_first d e k s design fits may le h = of_step (step d s e) refl h
  where
    of_step : (o : Option MachineState) → step d s e ≡ o → option_and_then (steps d (replicate k e)) o ≡ None → step d s e ≡ None
    of_step None is g = is
    of_step (Some t) is g =
        let rest = more_follow d e k s t design fits may is (first_less d s t e k may is le) in
        absurd (none_some rest.0 (sym g ∙ rest.1))

-- of one copy the same without a word of copies
none_alone : (d : Design) (e : Event) (s : MachineState) → steps d (replicate 1 e) s ≡ None → step d s e ≡ None
none_alone d e s h = of_step (step d s e) refl h
  where
    of_step : (o : Option MachineState) → step d s e ≡ o → option_and_then (steps d []) o ≡ None → step d s e ≡ None
    of_step None is g = is
    of_step (Some t) is g = absurd (none_some t (sym g))

none_entered : (b : Bool) (o : Option MachineState) → b ≡ true → only_if b o ≡ None → o ≡ None
none_entered true o is h = h
none_entered false o is h = absurd (false≢true is)

-- an entry of so many copies, of which none is left over
none_of : (d : Design) (e : Event) (count : ℕ) (s : MachineState) → IsDesign d → IsStateOf d s → may_repeat d e ≡ true → 0 < count → count ≤ copies_of s e → only_if (count == 1 || (nat_lt 1 count && may_repeat d e)) (steps d (replicate count e) s) ≡ None → step d s e ≡ None
none_of d e zero s design fits may some le h = absurd (omega (arith, some))
none_of d e (suc zero) s design fits may some le h = none_alone d e s h
none_of d e (suc (suc k)) s design fits may some le h =
    none_first d e (suc k) s design fits may le (none_entered (suc (suc k) == 1 || (nat_lt 1 (suc (suc k)) && may_repeat d e)) (steps d (replicate (suc (suc k)) e) s) (right (suc (suc k) == 1) (both (nat_lt 1 (suc (suc k))) (may_repeat d e) (lt-ltb 1 (suc (suc k)) (omega arith)) may)) h)
  where
    both : (a b : Bool) → a ≡ true → b ≡ true → (a && b) ≡ true
    both true b is h = h
    both false b is h = absurd (false≢true is)

    right : (a : Bool) {b : Bool} → b ≡ true → (a || b) ≡ true
    right true h = refl
    right false h = h

-- ---- processes
has_some : (items : List Work) → HasWork items → is_some_work items ≡ true
has_some [] h = absurd h
has_some (i ∷ rest) h = refl

work_there : (s : MachineState) (b : Bool) (items : List Work) (a : Standing) → StandingFits s.moment items a → stands_listed b a ≡ true → is_some_work items ≡ true
work_there s b items Unbegun fits h = has_some items fits
work_there s b items Ready fits h = has_some items fits
work_there s b items Inactive fits h = absurd (false≢true h)
work_there s b items (Later at) fits h = absurd (false≢true h)
work_there s b items (Waits kept) fits h = absurd (false≢true h)
work_there s b items Over fits h = absurd (false≢true h)

pending_there : (s : MachineState) (b : Bool) (a : Standing) → (b ≡ true → may_begin s ≡ true) → stands_listed b a ≡ true → is_pending_at s a ≡ true
pending_there s b Unbegun begins h = begins h
pending_there s b Ready begins h = refl
pending_there s b Inactive begins h = absurd (false≢true h)
pending_there s b (Later at) begins h = absurd (false≢true h)
pending_there s b (Waits kept) begins h = absurd (false≢true h)
pending_there s b Over begins h = absurd (false≢true h)

listed_there : (s : MachineState) (b : Bool) (p : ℕ) → stands_listed b (standing_at s p) ≡ true → p < length s.standings
listed_there s b p h = elim (lt_or_le p (length s.standings)) [
  | inl low ↦ low
  | inr past ↦ absurd (false≢true (ap (stands_listed b) (sym (get_or_past s.standings p Over past)) ∙ h))
]

there_is : {A : Type 0} (xs : List A) (i : ℕ) → i < length xs → (x : A) × (slice_get xs i ≡ Some x)
there_is [] i low = absurd (omega (arith, low))
there_is (x ∷ xs) zero low = (x, refl)
there_is (x ∷ xs) (suc i) low = there_is xs i (omega (arith, low))

both_true : (a b : Bool) → a ≡ true → b ≡ true → (a && b) ≡ true
both_true true b is h = h
both_true false b is h = absurd (false≢true is)

pub long_here : (d : Design) (b : Bool) (s : MachineState) (x : Process) (xs : List Process) → IsDesign d → Kept d b s (x ∷ xs) → enter d s (entry_of d s x) ≡ None → IsTooLong d s (entry_of d s x).event
unfolding is_pending
long_here d b s x xs design kept none = of_process x held none
  where
    some_listed : (c : Bool) → 1 ≤ one_if c → c ≡ true
    some_listed true h = refl
    some_listed false h = absurd (omega (arith, h))

    at_head : (1 + times (is_same_process x) xs) ≡ one_if (is_held b s x)
    at_head =
        ap (λ c. if c then 1 + times (is_same_process x) xs else times (is_same_process x) xs) (sym (same_self x)) ∙ kept.holds x

    held : is_held b s x ≡ true
    held = some_listed (is_held b s x) (omega (arith, at_head))

    own_read : (a : ℕ) → nat_lt 0 (count_at s.evaluations a) ≡ true → (own : Bool) → reads_own_target d a ≡ own → only_if ((if own then 1 else count_at s.evaluations a) == 1 || (nat_lt 1 (if own then 1 else count_at s.evaluations a) && not own)) (steps d (replicate (if own then 1 else count_at s.evaluations a) (AssignEvent a)) s) ≡ None → step d s (AssignEvent a) ≡ None
    own_read a some true is h = none_alone d (AssignEvent a) s h
    own_read a some false is h =
        none_of d (AssignEvent a) (count_at s.evaluations a) s design kept.fits (ap not is) (ltb-true 0 (count_at s.evaluations a) some) (omega arith) (ap (λ c. only_if (count_at s.evaluations a == 1 || (nat_lt 1 (count_at s.evaluations a) && not c)) (steps d (replicate (count_at s.evaluations a) (AssignEvent a)) s)) is ∙ h)

    of_process : (x : Process) → is_held b s x ≡ true → enter d s (entry_of d s x) ≡ None → IsTooLong d s (entry_of d s x).event
    of_process (Procedure p) held h =
        let low = listed_there s b p held in
        let proc = there_is d.procs p (omega (arith, low, kept.fits.standings)) in
        let of = kept.fits.procs p proc.0 proc.1 in (
          both_true (is_pending_at s (standing_at s p)) (is_some_work (work_at s p)) (pending_there s b (standing_at s p) kept.begins held) (work_there s b (work_at s p) (standing_at s p) of.standing held),
          none_alone d (Stmt p) s h,
        )
    of_process (Assignment a) held h = (
      both_true (nat_lt 0 (count_at s.evaluations a)) (nat_lt a (length d.assigns)) held (lt-ltb a (length d.assigns) (omega (arith, count_there s.evaluations a held, kept.fits.evaluations))),
      own_read a held (reads_own_target d a) refl h,
    )

-- ---- phase Evaluate
-- what a phase says of its end is so in its last state
abbrev pub LongAt : Design → MachineState → Ended → Type 0
LongAt d s Idle = ⊤
LongAt d s Quantum = ⊤
LongAt d s (TooLong event) = IsTooLong d s event

pub phase_long : (n : ℕ) (d : Design) (b : Bool) (s : MachineState) (xs : List Process) (away : Away) → IsDesign d → Kept d b s xs → LongAt d (phase n d s xs away).state (phase n d s xs away).how
unfolding phase
phase_long n d b s [] away design kept = tt
phase_long zero d b s (x ∷ xs) away design kept = tt
phase_long (suc n) d b s (x ∷ xs) away design kept =
    of_entry (λ t k. phase_long n d b t (next_ready d s t x xs) (away_after t x away) design k) (enter d s (entry_of d s x)) refl
  where
    end_of : Option MachineState → PhaseEnd
    end_of o = if_some (stops s (x ∷ xs) away (TooLong (entry_of d s x).event)) (λ t. and_before (entry_of d s x) (marks_of d s t x) (phase n d t (next_ready d s t x xs) (away_after t x away))) o

    of_entry : ((t : MachineState) → Kept d b t (next_ready d s t x xs) → LongAt d (phase n d t (next_ready d s t x xs) (away_after t x away)).state (phase n d t (next_ready d s t x xs) (away_after t x away)).how) → (o : Option MachineState) → enter d s (entry_of d s x) ≡ o → LongAt d (end_of o).state (end_of o).how
    of_entry rest None is = long_here d b s x xs design kept is
    of_entry rest (Some t) is = rest t (kept_next d design b s t x xs is kept)

-- ---- phase Resolve
-- an order of each net's slots
pub net_long : (d : Design) (b : Bool) (n : ℕ) (order : List ℕ) (s : MachineState) (xs : List Process) → IsDesign d → Kept d b s xs → ((net : Net) → slice_get d.nets n ≡ Some net → is_order (length net.slots) order ≡ true) → (count_at s.resolutions n == 0) ≡ false → enter d s (net_entry s n order) ≡ None → IsTooLong d s (Resolve n order)
unfolding is_pending
net_long d b n order s xs design kept ordered some h =
    let low = count_there s.resolutions n pending in
    let net = there_is d.nets n (omega (arith, low, kept.fits.resolutions)) in (
      both_true (nat_lt 0 (count_at s.resolutions n)) (is_order_of (slice_get d.nets n) order) pending (ap (λ o. is_order_of o order) net.1 ∙ ordered net.0 net.1),
      none_of d (Resolve n order) (count_at s.resolutions n) s design kept.fits refl (ltb-true 0 (count_at s.resolutions n) pending) (omega arith) h,
    )
  where
    some_there : (m : ℕ) → (m == 0) ≡ false → nat_lt 0 m ≡ true
    some_there zero is = absurd (false≢true (sym is))
    some_there (suc m) is = lt-ltb 0 (suc m) (omega arith)

    pending : nat_lt 0 (count_at s.resolutions n) ≡ true
    pending = some_there (count_at s.resolutions n) some

module _ (d : Design) (orders : ℕ → List ℕ) (b : Bool) (design : IsDesign d) (ordered : (n : ℕ) (net : Net) → slice_get d.nets n ≡ Some net → is_order (length net.slots) (orders n) ≡ true) where
  abbrev goes : ℕ → List ℕ → MachineState → List Process → MachineState → ResolveEnd
  goes n nets s xs t =
      with_entry (net_entry s n (orders n)) (resolve_nets d (processes d ∷ []) orders nets t (with_woken (processes d ∷ []) (woken d s t) (xs ∷ [])))

  abbrev stops_at : ℕ → MachineState → List Process → ResolveEnd
  stops_at n s xs = record { state = s; ready = xs ∷ []; entries = []; too_long = Some (Resolve n (orders n)) }

  abbrev pub Long : ResolveEnd → Type 0
  Long r = IfSome r.too_long (IsTooLong d r.state)

  pub nets_long : (nets : List ℕ) (s : MachineState) (xs : List Process) → Kept d b s xs → Long (resolve_nets d (processes d ∷ []) orders nets s (xs ∷ []))
  nets_long [] s xs kept = tt
  nets_long (n ∷ nets) s xs kept =
      of_count (λ t ys k. nets_long nets t ys k) (count_at s.resolutions n == 0) refl
    where
      of_entry : (count_at s.resolutions n == 0) ≡ false → ((t : MachineState) (ys : List Process) → Kept d b t ys → Long (resolve_nets d (processes d ∷ []) orders nets t (ys ∷ []))) → (o : Option MachineState) → enter d s (net_entry s n (orders n)) ≡ o → Long (if_some (stops_at n s xs) (goes n nets s xs) o)
      of_entry some rest None h = net_long d b n (orders n) s xs design kept (ordered n) some h
      of_entry some rest (Some t) h =
          rest t (with_new xs (filter (is_among (processes d)) (woken d s t))) (kept_published d design b n (count_at s.resolutions n) (orders n) s t (entered (is_entry d (net_entry s n (orders n))) (steps d (copies (net_entry s n (orders n))) s) t h) xs kept)

      of_count : ((t : MachineState) (ys : List Process) → Kept d b t ys → Long (resolve_nets d (processes d ∷ []) orders nets t (ys ∷ []))) → (c : Bool) → (count_at s.resolutions n == 0) ≡ c → Long (if c then resolve_nets d (processes d ∷ []) orders nets s (xs ∷ []) else if_some (stops_at n s xs) (goes n nets s xs) (enter d s (net_entry s n (orders n))))
      of_count rest true is = rest s xs kept
      of_count rest false is = of_entry is rest (enter d s (net_entry s n (orders n))) refl
