-- The lists of the procedures that were put away stay right.
use Rattle.std.proofs.Common.{◌≡◌, ◌↔◌, ◌⊎◌, inl, inr, ℕ, zero, suc, ◌+◌, ◌≤◌, ◌==◌, nat_lt, Bool, true, false, not, if◌then◌else◌, List, [], ◌∷◌, ◌++◌, length, replicate, is_some, Option, Some, None, option_and_then, refl, sym, ◌∙◌, ap, subst, arith}
use Rattle.std.specs.Prelude.{nat_le, Contains}
use Rattle.std.specs.List.{range_with_len}
use Rattle.std.proofs.lemmas.Bool.{false≢true, eqb-true, eq-eqb}
use Rattle.std.proofs.lemmas.List.Elements.{Contains-append_cases, Contains-append_left, Contains-append_right, Contains-push, Contains-push_cases}
use Rattle.std.proofs.lemmas.Option.{same_Some}
use Rattle.nt_design.specs.declared.design.Design.{Design}
use Rattle.nt_semantics.proofs.Growing.{test_is}
use Rattle.nt_semantics.proofs.Keeping.{place_mapped}
use Rattle.nt_semantics.proofs.Listing.{entered}
use Rattle.nt_semantics.proofs.Waking.{none_some, others_leave, others_stay}
use Rattle.nt_semantics.specs.Execution.{activate, active_standing, begin_slot, copies, enter, if_some, is_entry, standing_in_slot, steps, begin_next, has_inactive, move_updates, next_moment}
use Rattle.nt_semantics.specs.Laws.{RegionKeepsTied, RoundKeepsTied, SlotKeepsTied}
use Rattle.nt_semantics.proofs.Counting.{times_append}
use Rattle.nt_semantics.specs.ReadyLists.{IsOther, Tied, is_live, times}
use Rattle.nt_semantics.specs.Rounds.{Away, RoundState, PhaseEnd, ResolveEnd, RoundEnd, TooLong, after_activation, after_begin, and_before, away_after, entry_of, evaluate, is_waiting, marks_of, net_entry, next_ready, next_region, next_slot, perform, phase, procs_at, put_away, quantum, resolve_nets, round, stops, update_round, with_entry, with_later, with_woken, without_entries, without_moment, woken}
use Rattle.nt_semantics.specs.State.{MachineState, count_at, standing_at, work_at}
use Rattle.nt_semantics.specs.Step.{is_pending_at, proc_step, step, is_some_put}
use Rattle.nt_design.specs.declared.put.Put.{Put}
use Rattle.nt_semantics.specs.declared.event.Event.{Event}
use Rattle.nt_semantics.specs.declared.event.Event.TheVariants.{Stmt, Assign as AssignEvent, Update, Resolve}
use Rattle.nt_semantics.specs.declared.process.Process.{Process}
use Rattle.nt_semantics.specs.declared.process.Process.TheVariants.{Procedure, Assignment}
use Rattle.nt_semantics.specs.declared.standing.Standing.{Standing}
use Rattle.nt_semantics.specs.declared.standing.Standing.TheVariants.{Unbegun, Ready, Inactive, Later, Waits, Over}

-- ---- lists by moments
abbrev part_at : ℕ → ℕ × List ℕ → List ℕ
part_at at slot = if slot.0 == at then slot.1 else []

none_in : {P : Type 0} (p : ℕ) → Contains [] p → P
none_in p c = absurd (omega (arith, c.1))

one_in : (q p : ℕ) → Contains (q ∷ []) p → q ≡ p
one_in q p c = elim (Contains-push_cases [] q p c) [ inl l ↦ none_in p l | inr e ↦ e ]

-- a part that has one procedure more
pushed_out : (k at q p : ℕ) (ps : List ℕ) → Contains (part_at at (k, ps ++ q ∷ [])) p → Contains (part_at at (k, ps)) p ⊎ ((k ≡ at) × (q ≡ p))
pushed_out k at q p ps = of_test (k == at) refl
  where
    of_test : (b : Bool) → (k == at) ≡ b → Contains (if b then ps ++ q ∷ [] else []) p → Contains (if b then ps else []) p ⊎ ((k ≡ at) × (q ≡ p))
    of_test true is c = elim (Contains-push_cases ps q p c) [ inl l ↦ inl l | inr e ↦ inr (eqb-true k at is, e) ]
    of_test false is c = none_in p c

pushed_in : (k at q p : ℕ) (ps : List ℕ) → Contains (part_at at (k, ps)) p → Contains (part_at at (k, ps ++ q ∷ [])) p
pushed_in k at q p ps = of_test (k == at)
  where
    of_test : (b : Bool) → Contains (if b then ps else []) p → Contains (if b then ps ++ q ∷ [] else []) p
    of_test true c = Contains-append_left ps (q ∷ []) p c
    of_test false c = c

pushed_new : (k q : ℕ) (ps : List ℕ) → Contains (part_at k (k, ps ++ q ∷ [])) q
pushed_new k q ps =
    subst (λ b. Contains (if b then ps ++ q ∷ [] else []) q) (sym (eq-eqb k k refl)) (Contains-push ps q)

-- either list of two, one after the other
either_in : (xs ys zs : List ℕ) (P : Type 0) (p : ℕ) → (Contains xs p → Contains ys p ⊎ P) → Contains (xs ++ zs) p → Contains (ys ++ zs) p ⊎ P
either_in xs ys zs P p first c = elim (Contains-append_cases xs zs p c) [
  | inl l ↦ elim (first l) [ inl a ↦ inl (Contains-append_left ys zs p a) | inr b ↦ inr b ]
  | inr r ↦ inl (Contains-append_right ys zs p r)
]

both_in : (xs ys zs : List ℕ) (p : ℕ) → (Contains xs p → Contains ys p) → Contains (xs ++ zs) p → Contains (ys ++ zs) p
both_in xs ys zs p first c = elim (Contains-append_cases xs zs p c) [
  | inl l ↦ Contains-append_left ys zs p (first l)
  | inr r ↦ Contains-append_right ys zs p r
]

abbrev More : ℕ → ℕ → ℕ → ℕ → List (ℕ × List ℕ) → List (ℕ × List ℕ) → Type 0
More m q at p old new =
    (Contains (procs_at at new) p → Contains (procs_at at old) p ⊎ ((m ≡ at) × (q ≡ p))) × (Contains (procs_at at old) p → Contains (procs_at at new) p)

more_later : (m q at p : ℕ) (later : List (ℕ × List ℕ)) → More m q at p later (with_later m q later)
more_later m q at p [] = (
  λ c. either_in (part_at at (m, q ∷ [])) [] [] ((m ≡ at) × (q ≡ p)) p (λ l. elim (pushed_out m at q p [] l) [ inl a ↦ inl (empty a) | inr b ↦ inr b ]) c,
  λ c. none_in p c,
)
  where
    empty : Contains (part_at at (m, [])) p → Contains [] p
    empty = of_test (m == at)
      where
        of_test : (b : Bool) → Contains (if b then [] else []) p → Contains [] p
        of_test true c = c
        of_test false c = c
more_later m q at p (slot ∷ later) =
    of_same (more_later m q at p later) (m == slot.0) refl
  where
    put_before : More m q at p (slot ∷ later) ((m, q ∷ []) ∷ slot ∷ later)
    put_before = (
      λ c. elim (Contains-append_cases (part_at at (m, q ∷ [])) (procs_at at (slot ∷ later)) p c) [
        | inl l ↦ elim (pushed_out m at q p [] l) [ inl a ↦ none_in p (empty a) | inr b ↦ inr b ]
        | inr r ↦ inl r
      ],
      λ c. Contains-append_right (part_at at (m, q ∷ [])) (procs_at at (slot ∷ later)) p c,
    )
      where
        empty : Contains (part_at at (m, [])) p → Contains [] p
        empty = of_test (m == at)
          where
            of_test : (b : Bool) → Contains (if b then [] else []) p → Contains [] p
            of_test true c = c
            of_test false c = c

    put_behind : More m q at p later (with_later m q later) → More m q at p (slot ∷ later) (slot ∷ with_later m q later)
    put_behind more = (
      λ c. elim (Contains-append_cases (part_at at slot) (procs_at at (with_later m q later)) p c) [
        | inl l ↦ inl (Contains-append_left (part_at at slot) (procs_at at later) p l)
        | inr r ↦ elim (more.0 r) [ inl a ↦ inl (Contains-append_right (part_at at slot) (procs_at at later) p a) | inr b ↦ inr b ]
      ],
      λ c. elim (Contains-append_cases (part_at at slot) (procs_at at later) p c) [
        | inl l ↦ Contains-append_left (part_at at slot) (procs_at at (with_later m q later)) p l
        | inr r ↦ Contains-append_right (part_at at slot) (procs_at at (with_later m q later)) p (more.1 r)
      ],
    )

    put_into : m ≡ slot.0 → More m q at p (slot ∷ later) ((m, slot.1 ++ q ∷ []) ∷ later)
    put_into same = (
      λ c. either_in (part_at at (m, slot.1 ++ q ∷ [])) (part_at at slot) (procs_at at later) ((m ≡ at) × (q ≡ p)) p (λ l. elim (pushed_out m at q p slot.1 l) [ inl a ↦ inl (subst (λ k. Contains (part_at at (k, slot.1)) p) same a) | inr b ↦ inr b ]) c,
      λ c. both_in (part_at at slot) (part_at at (m, slot.1 ++ q ∷ [])) (procs_at at later) p (λ l. pushed_in m at q p slot.1 (subst (λ k. Contains (part_at at (k, slot.1)) p) (sym same) l)) c,
    )

    of_less : More m q at p later (with_later m q later) → (b : Bool) → More m q at p (slot ∷ later) (if b then (m, q ∷ []) ∷ slot ∷ later else slot ∷ with_later m q later)
    of_less more true = put_before
    of_less more false = put_behind more

    of_same : More m q at p later (with_later m q later) → (b : Bool) → (m == slot.0) ≡ b → More m q at p (slot ∷ later) (if b then (m, slot.1 ++ q ∷ []) ∷ later else (if nat_lt m slot.0 then (m, q ∷ []) ∷ slot ∷ later else slot ∷ with_later m q later))
    of_same more true is = put_into (eqb-true m slot.0 is)
    of_same more false is = of_less more (nat_lt m slot.0)

new_later : (m q : ℕ) (later : List (ℕ × List ℕ)) → Contains (procs_at m (with_later m q later)) q
new_later m q [] = Contains-append_left (part_at m (m, q ∷ [])) [] q (pushed_new m q [])
new_later m q (slot ∷ later) = of_same (new_later m q later) (m == slot.0)
  where
    of_less : Contains (procs_at m (with_later m q later)) q → (b : Bool) → Contains (procs_at m (if b then (m, q ∷ []) ∷ slot ∷ later else slot ∷ with_later m q later)) q
    of_less rest true =
        Contains-append_left (part_at m (m, q ∷ [])) (procs_at m (slot ∷ later)) q (pushed_new m q [])
    of_less rest false = Contains-append_right (part_at m slot) (procs_at m (with_later m q later)) q rest

    of_same : Contains (procs_at m (with_later m q later)) q → (b : Bool) → Contains (procs_at m (if b then (m, slot.1 ++ q ∷ []) ∷ later else (if nat_lt m slot.0 then (m, q ∷ []) ∷ slot ∷ later else slot ∷ with_later m q later))) q
    of_same rest true =
        Contains-append_left (part_at m (m, slot.1 ++ q ∷ [])) (procs_at m later) q (pushed_new m q slot.1)
    of_same rest false = of_less rest (nat_lt m slot.0)

-- ---- one procedure put away
-- for another procedure the lists say what they said
inactive_other : (q p : ℕ) (standing : Standing) (away : Away) → (q ≡ p → ⊥) → Contains (put_away q standing away).inactive p ↔ Contains away.inactive p
inactive_other q p Inactive away other = (
  λ c. elim (Contains-push_cases away.inactive q p c) [ inl l ↦ l | inr e ↦ absurd (other e) ],
  λ c. Contains-append_left away.inactive (q ∷ []) p c,
)
inactive_other q p Unbegun away other = (λ c. c, λ c. c)
inactive_other q p Ready away other = (λ c. c, λ c. c)
inactive_other q p (Later at) away other = (λ c. c, λ c. c)
inactive_other q p (Waits kept) away other = (λ c. c, λ c. c)
inactive_other q p Over away other = (λ c. c, λ c. c)

later_other : (q p at : ℕ) (standing : Standing) (away : Away) → (q ≡ p → ⊥) → Contains (procs_at at (put_away q standing away).later) p ↔ Contains (procs_at at away.later) p
later_other q p at (Later m) away other =
    let more = more_later m q at p away.later in (
      λ c. elim (more.0 c) [ inl l ↦ l | inr e ↦ absurd (other e.1) ],
      more.1,
    )
later_other q p at Unbegun away other = (λ c. c, λ c. c)
later_other q p at Ready away other = (λ c. c, λ c. c)
later_other q p at Inactive away other = (λ c. c, λ c. c)
later_other q p at (Waits kept) away other = (λ c. c, λ c. c)
later_other q p at Over away other = (λ c. c, λ c. c)

-- ---- how often a procedure was put away
pub times_none : (p : ℕ) (xs : List ℕ) → (Contains xs p → ⊥) → times (λ q. p == q) xs ≡ 0
times_none p [] none = refl
times_none p (x ∷ xs) none = of_first (times_none p xs (λ c. none (suc c.0, omega (arith, c.1), c.2))) (p == x) refl
  where
    of_first : times (λ q. p == q) xs ≡ 0 → (b : Bool) → (p == x) ≡ b → (if p == x then 1 + times (λ q. p == q) xs else times (λ q. p == q) xs) ≡ 0
    of_first rest false is = ap (λ (b : Bool). if b then 1 + times (λ q. p == q) xs else times (λ q. p == q) xs) is ∙ rest
    of_first rest true is = absurd (none (zero, omega arith, sym (eqb-true p x is)))

-- one where it is this procedure and this moment
extra : Bool → Bool → ℕ
extra true true = 1
extra true false = 0
extra false same = 0

times_one : (q p : ℕ) → times (λ k. p == k) (q ∷ []) ≡ extra true (p == q)
unfolding extra
times_one q p = of_same (p == q)
  where
    of_same : (b : Bool) → (if b then 1 + 0 else 0) ≡ extra true b
    of_same true = refl
    of_same false = refl

part_times : (m at q p : ℕ) (ps : List ℕ) → times (λ k. p == k) (part_at at (m, ps ++ q ∷ [])) ≡ times (λ k. p == k) (part_at at (m, ps)) + extra (m == at) (p == q)
unfolding extra
part_times m at q p ps = of_at (m == at)
  where
    of_at : (b : Bool) → times (λ k. p == k) (if b then ps ++ q ∷ [] else []) ≡ times (λ k. p == k) (if b then ps else []) + extra b (p == q)
    of_at true = times_append (λ k. p == k) ps (q ∷ []) ∙ ap (λ n. times (λ k. p == k) ps + n) (times_one q p)
    of_at false = refl

part_none : (m at p : ℕ) → times (λ k. p == k) (part_at at (m, [])) ≡ 0
part_none m at p = of_at (m == at)
  where
    of_at : (b : Bool) → times (λ k. p == k) (if b then [] else []) ≡ times (λ k. p == k) []
    of_at true = refl
    of_at false = refl

-- a procedure that is put away at a moment stands there once more
abbrev OnceMore : ℕ → ℕ → ℕ → ℕ → List (ℕ × List ℕ) → Type 0
OnceMore m q at p later =
    times (λ k. p == k) (procs_at at (with_later m q later)) ≡ times (λ k. p == k) (procs_at at later) + extra (m == at) (p == q)

once_more : (m q at p : ℕ) (later : List (ℕ × List ℕ)) → OnceMore m q at p later
once_more m q at p [] =
    let parts = times_append (λ k. p == k) (part_at at (m, q ∷ [])) [] in
    let part = part_times m at q p [] in
    omega (arith, parts, part, part_none m at p)
once_more m q at p (slot ∷ later) = of_same (once_more m q at p later) (m == slot.0) refl
  where
    before : times (λ k. p == k) (procs_at at (slot ∷ later)) ≡ times (λ k. p == k) (part_at at slot) + times (λ k. p == k) (procs_at at later)
    before = times_append (λ k. p == k) (part_at at slot) (procs_at at later)

    here : m ≡ slot.0 → times (λ k. p == k) (procs_at at ((m, slot.1 ++ q ∷ []) ∷ later)) ≡ times (λ k. p == k) (procs_at at (slot ∷ later)) + extra (m == at) (p == q)
    here same =
        let parts = times_append (λ k. p == k) (part_at at (m, slot.1 ++ q ∷ [])) (procs_at at later) in
        let part = part_times m at q p slot.1 in
        let moved : times (λ k. p == k) (part_at at (m, slot.1)) ≡ times (λ k. p == k) (part_at at slot) = ap (λ n. times (λ k. p == k) (part_at at (n, slot.1))) same in
        omega (arith, parts, part, moved, before)

    of_less : OnceMore m q at p later → (b : Bool) → times (λ k. p == k) (procs_at at (if b then (m, q ∷ []) ∷ slot ∷ later else slot ∷ with_later m q later)) ≡ times (λ k. p == k) (procs_at at (slot ∷ later)) + extra (m == at) (p == q)
    of_less rest true =
        let parts = times_append (λ k. p == k) (part_at at (m, q ∷ [])) (procs_at at (slot ∷ later)) in
        let part = part_times m at q p [] in
        omega (arith, parts, part, part_none m at p)
    of_less rest false =
        let parts = times_append (λ k. p == k) (part_at at slot) (procs_at at (with_later m q later)) in
        omega (arith, parts, before, rest)

    of_same : OnceMore m q at p later → (b : Bool) → (m == slot.0) ≡ b → times (λ k. p == k) (procs_at at (if b then (m, slot.1 ++ q ∷ []) ∷ later else (if nat_lt m slot.0 then (m, q ∷ []) ∷ slot ∷ later else slot ∷ with_later m q later))) ≡ times (λ k. p == k) (procs_at at (slot ∷ later)) + extra (m == at) (p == q)
    of_same rest true is = here (eqb-true m slot.0 is)
    of_same rest false is = of_less rest (nat_lt m slot.0)

at_most_one : (a b : Bool) → extra a b ≤ 1
unfolding extra
at_most_one true true = omega arith
at_most_one true false = omega arith
at_most_one false b = omega arith

none_extra : (a : Bool) → extra a false ≡ 0
unfolding extra
none_extra true = refl
none_extra false = refl

-- what was there at most once, and not where it is the procedure, is there at most once
still_once : (n : ℕ) (a : Bool) (p q : ℕ) → n ≤ 1 → (p ≡ q → n ≡ 0) → n + extra a (p == q) ≤ 1
still_once n a p q few none = of_same (p == q) refl
  where
    of_same : (b : Bool) → (p == q) ≡ b → n + extra a (p == q) ≤ 1
    of_same true is = omega (arith, none (eqb-true p q is), at_most_one a (p == q))
    of_same false is = let zero_more : extra a (p == q) ≡ 0 = ap (extra a) is ∙ none_extra a in omega (arith, few, zero_more)

inactive_once_more : (q p : ℕ) (standing : Standing) (away : Away) → times (λ k. p == k) away.inactive ≤ 1 → (p ≡ q → times (λ k. p == k) away.inactive ≡ 0) → times (λ k. p == k) (put_away q standing away).inactive ≤ 1
inactive_once_more q p Inactive away few none =
    let parts = times_append (λ k. p == k) away.inactive (q ∷ []) in
    omega (arith, parts, times_one q p, still_once (times (λ k. p == k) away.inactive) true p q few none)
inactive_once_more q p Unbegun away few none = few
inactive_once_more q p Ready away few none = few
inactive_once_more q p (Later at) away few none = few
inactive_once_more q p (Waits kept) away few none = few
inactive_once_more q p Over away few none = few

later_once_more : (q p at : ℕ) (standing : Standing) (away : Away) → times (λ k. p == k) (procs_at at away.later) ≤ 1 → (p ≡ q → times (λ k. p == k) (procs_at at away.later) ≡ 0) → times (λ k. p == k) (procs_at at (put_away q standing away).later) ≤ 1
later_once_more q p at (Later m) away few none =
    omega (arith, once_more m q at p away.later, still_once (times (λ k. p == k) (procs_at at away.later)) (m == at) p q few none)
later_once_more q p at Unbegun away few none = few
later_once_more q p at Ready away few none = few
later_once_more q p at Inactive away few none = few
later_once_more q p at (Waits kept) away few none = few
later_once_more q p at Over away few none = few

-- which of them a standing is
abbrev is_in_inactive : Standing → Bool
is_in_inactive Inactive = true
is_in_inactive _ = false

abbrev is_later : Standing → Bool
is_later (Later at) = true
is_later _ = false

abbrev moment_of : Standing → ℕ
moment_of (Later at) = at
moment_of _ = 0

-- the procedure itself, which was on no list
own_inactive : (q : ℕ) (standing : Standing) (away : Away) → (Contains away.inactive q → ⊥) → Contains (put_away q standing away).inactive q ↔ (standing ≡ Inactive)
own_inactive q Inactive away none = (λ c. refl, λ e. Contains-push away.inactive q)
own_inactive q Unbegun away none = (λ c. absurd (none c), λ e. absurd (false≢true (ap is_in_inactive e)))
own_inactive q Ready away none = (λ c. absurd (none c), λ e. absurd (false≢true (ap is_in_inactive e)))
own_inactive q (Later at) away none = (λ c. absurd (none c), λ e. absurd (false≢true (ap is_in_inactive e)))
own_inactive q (Waits kept) away none = (λ c. absurd (none c), λ e. absurd (false≢true (ap is_in_inactive e)))
own_inactive q Over away none = (λ c. absurd (none c), λ e. absurd (false≢true (ap is_in_inactive e)))

own_later : (q at : ℕ) (standing : Standing) (away : Away) → (Contains (procs_at at away.later) q → ⊥) → Contains (procs_at at (put_away q standing away).later) q ↔ (standing ≡ Later at)
own_later q at (Later m) away none = (
  λ c. elim ((more_later m q at q away.later).0 c) [ inl l ↦ absurd (none l) | inr e ↦ ap (λ k. Later k) e.0 ],
  λ e. subst (λ k. Contains (procs_at k (with_later m q away.later)) q) (ap moment_of e) (new_later m q away.later),
)
own_later q at Unbegun away none = (λ c. absurd (none c), λ e. absurd (false≢true (ap is_later e)))
own_later q at Ready away none = (λ c. absurd (none c), λ e. absurd (false≢true (ap is_later e)))
own_later q at Inactive away none = (λ c. absurd (none c), λ e. absurd (false≢true (ap is_later e)))
own_later q at (Waits kept) away none = (λ c. absurd (none c), λ e. absurd (false≢true (ap is_later e)))
own_later q at Over away none = (λ c. absurd (none c), λ e. absurd (false≢true (ap is_later e)))

-- ---- events
-- after events of others a procedure is in Inactive or in a later slot exactly where it was before
parked : (d : Design) (e : Event) (k : ℕ) (s t : MachineState) (p : ℕ) (v : Standing) → is_live v ≡ false → is_waiting v ≡ false → IsOther p e → steps d (replicate k e) s ≡ Some t → (standing_at s p ≡ v) ↔ (standing_at t p ≡ v)
parked d e zero s t p v dead still other h =
    let same = ap (λ x. standing_at x p) (same_Some s t h) in (λ is. sym same ∙ is, λ is. same ∙ is)
parked d e (suc k) s t p v dead still other h =
    of_step (λ u g. parked d e k u t p v dead still other g) (step d s e) refl h
  where
    of_step : ((u : MachineState) → steps d (replicate k e) u ≡ Some t → (standing_at u p ≡ v) ↔ (standing_at t p ≡ v)) → (o : Option MachineState) → step d s e ≡ o → option_and_then (steps d (replicate k e)) o ≡ Some t → (standing_at s p ≡ v) ↔ (standing_at t p ≡ v)
    of_step rest None is g = absurd (none_some t g)
    of_step rest (Some u) is g =
        let more = rest u g in (
          λ at. more.0 (others_leave d s u e p other is (ap is_waiting at ∙ still) ∙ at),
          λ at. let there = more.1 at in sym (others_stay d s u e p other is (ap is_live there ∙ dead)) ∙ there,
        )

-- a procedure that makes a step is neither in Inactive nor in a later slot
pending_inactive : (s : MachineState) (standing : Standing) → is_pending_at s standing ≡ true → standing ≡ Inactive → ⊥
pending_inactive s standing h e = false≢true (ap (is_pending_at s) (sym e) ∙ h)

pending_later : (s : MachineState) (standing : Standing) (at : ℕ) → is_pending_at s standing ≡ true → standing ≡ Later at → ⊥
pending_later s standing at h e = false≢true (ap (is_pending_at s) (sym e) ∙ h)

is_pending : (d : Design) (s t : MachineState) (q : ℕ) → step d s (Stmt q) ≡ Some t → is_pending_at s (standing_at s q) ≡ true
unfolding step
is_pending d s t q h = test_is (is_pending_at s (standing_at s q)) (proc_step d q s (work_at s q)) t h

first_step : (d : Design) (s t : MachineState) (e : Event) → steps d (replicate 1 e) s ≡ Some t → step d s e ≡ Some t
first_step d s t e h = of_step (step d s e) refl h
  where
    of_step : (o : Option MachineState) → step d s e ≡ o → option_and_then (steps d []) o ≡ Some t → step d s e ≡ Some t
    of_step None is g = absurd (none_some t g)
    of_step (Some u) is g = is ∙ g

through : {A B C : Type 0} → A ↔ B → B ↔ C → A ↔ C
through f g = (λ a. g.0 (f.0 a), λ c. f.1 (g.1 c))

tied_entry : (d : Design) (s t : MachineState) (x : Process) (away : Away) → steps d (copies (entry_of d s x)) s ≡ Some t → Tied s away → Tied t (away_after t x away)
tied_entry d s t (Assignment a) away run tied = record {
  inactive = λ p. through (tied.inactive p) (parked d (AssignEvent a) (entry_of d s (Assignment a)).count s t p Inactive refl refl tt run);
  later = λ at p. through (tied.later at p) (parked d (AssignEvent a) (entry_of d s (Assignment a)).count s t p (Later at) refl refl tt run);
  inactive_once = tied.inactive_once;
  later_once = tied.later_once;
}
tied_entry d s t (Procedure q) away run tied = record {
  inactive = λ p. of_inactive p (q == p) refl;
  later = λ at p. of_later at p (q == p) refl;
  inactive_once = λ p. inactive_once_more q p (standing_at t q) away (tied.inactive_once p) (λ e. times_none p away.inactive (subst (λ k. Contains away.inactive k → ⊥) (sym e) not_inactive));
  later_once = λ at p. later_once_more q p at (standing_at t q) away (tied.later_once at p) (λ e. times_none p (procs_at at away.later) (subst (λ k. Contains (procs_at at away.later) k → ⊥) (sym e) (not_later at)));
}
  where
    pending : is_pending_at s (standing_at s q) ≡ true
    pending = is_pending d s t q (first_step d s t (Stmt q) run)

    not_inactive : Contains away.inactive q → ⊥
    not_inactive c = pending_inactive s (standing_at s q) pending ((tied.inactive q).0 c)

    not_later : (at : ℕ) → Contains (procs_at at away.later) q → ⊥
    not_later at c = pending_later s (standing_at s q) at pending ((tied.later at q).0 c)

    differ : (p : ℕ) → (q == p) ≡ false → q ≡ p → ⊥
    differ p is e = false≢true (sym is ∙ eq-eqb q p e)

    of_inactive : (p : ℕ) (b : Bool) → (q == p) ≡ b → Contains (put_away q (standing_at t q) away).inactive p ↔ (standing_at t p ≡ Inactive)
    of_inactive p true is =
        subst (λ k. Contains (put_away q (standing_at t q) away).inactive k ↔ (standing_at t k ≡ Inactive)) (eqb-true q p is) (own_inactive q (standing_at t q) away not_inactive)
    of_inactive p false is =
        through (inactive_other q p (standing_at t q) away (differ p is)) (through (tied.inactive p) (parked d (Stmt q) 1 s t p Inactive refl refl (differ p is) run))

    of_later : (at p : ℕ) (b : Bool) → (q == p) ≡ b → Contains (procs_at at (put_away q (standing_at t q) away).later) p ↔ (standing_at t p ≡ Later at)
    of_later at p true is =
        subst (λ k. Contains (procs_at at (put_away q (standing_at t q) away).later) k ↔ (standing_at t k ≡ Later at)) (eqb-true q p is) (own_later q at (standing_at t q) away (not_later at))
    of_later at p false is =
        through (later_other q p at (standing_at t q) away (differ p is)) (through (tied.later at p) (parked d (Stmt q) 1 s t p (Later at) refl refl (differ p is) run))

-- ---- rounds
phase_tied : (n : ℕ) (d : Design) (s : MachineState) (xs : List Process) (away : Away) → Tied s away → Tied (phase n d s xs away).state (phase n d s xs away).away
unfolding phase
phase_tied n d s [] away tied = tied
phase_tied zero d s (x ∷ xs) away tied = tied
phase_tied (suc n) d s (x ∷ xs) away tied =
    of_entry (λ t. phase_tied n d t (next_ready d s t x xs) (away_after t x away)) (enter d s (entry_of d s x)) refl
  where
    end_of : Option MachineState → PhaseEnd
    end_of o = if_some (stops s (x ∷ xs) away (TooLong (entry_of d s x).event)) (λ t. and_before (entry_of d s x) (marks_of d s t x) (phase n d t (next_ready d s t x xs) (away_after t x away))) o

    of_entry : ((t : MachineState) → Tied t (away_after t x away) → Tied (phase n d t (next_ready d s t x xs) (away_after t x away)).state (phase n d t (next_ready d s t x xs) (away_after t x away)).away) → (o : Option MachineState) → enter d s (entry_of d s x) ≡ o → Tied (end_of o).state (end_of o).away
    of_entry go None is = tied
    of_entry go (Some t) is =
        go t (tied_entry d s t x away (entered (is_entry d (entry_of d s x)) (steps d (copies (entry_of d s x)) s) t is) tied)

evaluate_tied : (d : Design) (s : MachineState) (xss : List (List Process)) (away : Away) → Tied s away → Tied (evaluate d s xss away).state (evaluate d s xss away).away
evaluate_tied d s [] away tied = tied
evaluate_tied d s (xs ∷ xss) away tied =
    let e = phase quantum d s xs away in evaluate_tied d e.state xss e.away (phase_tied quantum d s xs away tied)

tied_net : (d : Design) (n k : ℕ) (order : List ℕ) (s t : MachineState) (away : Away) → steps d (replicate k (Resolve n order)) s ≡ Some t → Tied s away → Tied t away
tied_net d n k order s t away run tied = record {
  inactive = λ p. through (tied.inactive p) (parked d (Resolve n order) k s t p Inactive refl refl tt run);
  later = λ at p. through (tied.later at p) (parked d (Resolve n order) k s t p (Later at) refl refl tt run);
  inactive_once = tied.inactive_once;
  later_once = tied.later_once;
}

abbrev NetsKeep : Design → List (List Process) → (ℕ → List ℕ) → List ℕ → Away → Type 0
NetsKeep d groups orders nets away =
    (t : MachineState) (more : List (List Process)) → Tied t away → Tied (resolve_nets d groups orders nets t more).state away

resolve_tied : (d : Design) (groups : List (List Process)) (orders : ℕ → List ℕ) (nets : List ℕ) (s : MachineState) (ready : List (List Process)) (away : Away) → Tied s away → Tied (resolve_nets d groups orders nets s ready).state away
resolve_tied d groups orders [] s ready away tied = tied
resolve_tied d groups orders (n ∷ nets) s ready away tied =
    of_count (λ t more k. resolve_tied d groups orders nets t more away k) (count_at s.resolutions n == 0)
  where
    stopped : ResolveEnd
    stopped = record { state = s; ready = ready; entries = []; too_long = Some (Resolve n (orders n)) }

    goes : MachineState → ResolveEnd
    goes t = with_entry (net_entry s n (orders n)) (resolve_nets d groups orders nets t (with_woken groups (woken d s t) ready))

    of_entry : NetsKeep d groups orders nets away → (o : Option MachineState) → enter d s (net_entry s n (orders n)) ≡ o → Tied (if_some stopped goes o).state away
    of_entry rest None h = tied
    of_entry rest (Some t) h =
        rest t (with_woken groups (woken d s t) ready) (tied_net d n (count_at s.resolutions n) (orders n) s t away (entered (is_entry d (net_entry s n (orders n))) (steps d (copies (net_entry s n (orders n))) s) t h) tied)

    of_count : NetsKeep d groups orders nets away → (is : Bool) → Tied (if is then resolve_nets d groups orders nets s ready else if_some stopped goes (enter d s (net_entry s n (orders n)))).state away
    of_count rest true = rest s ready tied
    of_count rest false = of_entry rest (enter d s (net_entry s n (orders n))) refl

pub round_tied : RoundKeepsTied
unfolding round
round_tied d groups orders r tied =
    let e = evaluate d r.state r.ready r.away in
    resolve_tied d groups orders (if is_some e.too_long then [] else range_with_len 0 (length d.nets)) e.state e.ready e.away (evaluate_tied d r.state r.ready r.away tied)

-- ---- moves
activated_inactive : (standing : Standing) → active_standing standing ≡ Inactive → ⊥
activated_inactive Inactive h = false≢true (ap is_in_inactive h)
activated_inactive Unbegun h = false≢true (ap is_in_inactive h)
activated_inactive Ready h = false≢true (ap is_in_inactive h)
activated_inactive (Later at) h = false≢true (ap is_in_inactive h)
activated_inactive (Waits kept) h = false≢true (ap is_in_inactive h)
activated_inactive Over h = false≢true (ap is_in_inactive h)

activated_later : (standing : Standing) (at : ℕ) → (standing ≡ Later at) ↔ (active_standing standing ≡ Later at)
activated_later Inactive at = (λ h. absurd (false≢true (ap is_later h)), λ h. absurd (false≢true (ap is_later h)))
activated_later Unbegun at = (λ h. h, λ h. h)
activated_later Ready at = (λ h. h, λ h. h)
activated_later (Later m) at = (λ h. h, λ h. h)
activated_later (Waits kept) at = (λ h. h, λ h. h)
activated_later Over at = (λ h. h, λ h. h)

activation_tied : (groups : List (List Process)) (r : RoundState) → Tied r.state r.away → Tied (after_activation groups r).state (after_activation groups r).away
activation_tied groups r tied = record {
  inactive = λ p. (λ c. none_in p c, λ h. absurd (activated_inactive (standing_at r.state p) (sym (place_mapped active_standing refl r.state.standings p) ∙ h)));
  later = λ at p. through (tied.later at p) (through (activated_later (standing_at r.state p) at) (same_at at p));
  inactive_once = λ p. omega arith;
  later_once = tied.later_once;
}
  where
    same_at : (at p : ℕ) → (active_standing (standing_at r.state p) ≡ Later at) ↔ (standing_at (activate r.state) p ≡ Later at)
    same_at at p =
        let same = place_mapped active_standing refl r.state.standings p in (λ h. same ∙ h, λ h. sym same ∙ h)

begun_inactive : (m : ℕ) (standing : Standing) → (standing ≡ Inactive) ↔ (standing_in_slot m standing ≡ Inactive)
begun_inactive m Inactive = (λ h. h, λ h. h)
begun_inactive m Unbegun = (λ h. h, λ h. h)
begun_inactive m Ready = (λ h. h, λ h. h)
begun_inactive m (Waits kept) = (λ h. h, λ h. h)
begun_inactive m Over = (λ h. h, λ h. h)
begun_inactive m (Later at) = (λ h. absurd (false≢true (ap is_in_inactive h)), of_test (at == m))
  where
    of_test : (b : Bool) → (if b then Ready else Later at) ≡ Inactive → Later at ≡ Inactive
    of_test true h = absurd (false≢true (ap is_in_inactive h))
    of_test false h = h

begun_later : (m at : ℕ) (standing : Standing) → (standing_in_slot m standing ≡ Later at) ↔ ((standing ≡ Later at) × ((at == m) ≡ false))
begun_later m at Inactive = (λ h. absurd (false≢true (ap is_later h)), λ h. absurd (false≢true (ap is_later h.0)))
begun_later m at Unbegun = (λ h. absurd (false≢true (ap is_later h)), λ h. absurd (false≢true (ap is_later h.0)))
begun_later m at Ready = (λ h. absurd (false≢true (ap is_later h)), λ h. absurd (false≢true (ap is_later h.0)))
begun_later m at (Waits kept) = (λ h. absurd (false≢true (ap is_later h)), λ h. absurd (false≢true (ap is_later h.0)))
begun_later m at Over = (λ h. absurd (false≢true (ap is_later h)), λ h. absurd (false≢true (ap is_later h.0)))
begun_later m at (Later k) = (of_test (k == m) refl, back)
  where
    of_test : (b : Bool) → (k == m) ≡ b → (if b then Ready else Later k) ≡ Later at → (Later k ≡ Later at) × ((at == m) ≡ false)
    of_test true is h = absurd (false≢true (ap is_later h))
    of_test false is h = (h, ap (λ i. i == m) (sym (ap moment_of h)) ∙ is)

    back : (Later k ≡ Later at) × ((at == m) ≡ false) → standing_in_slot m (Later k) ≡ Later at
    back h =
        ap (λ (b : Bool). if b then Ready else Later k) (ap (λ i. i == m) (ap moment_of h.0) ∙ h.1) ∙ h.0

-- lists without those of a moment
without_in : (m at p : ℕ) (later : List (ℕ × List ℕ)) → Contains (procs_at at (without_moment m later)) p ↔ (Contains (procs_at at later) p × ((at == m) ≡ false))
without_in m at p [] = (λ c. none_in p c, λ c. none_in p c.0)
without_in m at p (slot ∷ later) = of_test (without_in m at p later) (slot.0 == m) refl
  where
    here_other : (slot.0 == m) ≡ false → Contains (part_at at slot) p → (at == m) ≡ false
    here_other is = of_at (slot.0 == at) refl
      where
        of_at : (b : Bool) → (slot.0 == at) ≡ b → Contains (if b then slot.1 else []) p → (at == m) ≡ false
        of_at true same c = ap (λ i. i == m) (sym (eqb-true slot.0 at same)) ∙ is
        of_at false same c = none_in p c

    not_here : (slot.0 == m) ≡ true → (at == m) ≡ false → Contains (part_at at slot) p → ⊥
    not_here is other = of_at (slot.0 == at) refl
      where
        of_at : (b : Bool) → (slot.0 == at) ≡ b → Contains (if b then slot.1 else []) p → ⊥
        of_at true same c =
            false≢true (sym other ∙ (ap (λ i. i == m) (sym (eqb-true slot.0 at same)) ∙ is))
        of_at false same c = none_in p c

    of_test : Contains (procs_at at (without_moment m later)) p ↔ (Contains (procs_at at later) p × ((at == m) ≡ false)) → (b : Bool) → (slot.0 == m) ≡ b → Contains (procs_at at (if not b then slot ∷ without_moment m later else without_moment m later)) p ↔ (Contains (procs_at at (slot ∷ later)) p × ((at == m) ≡ false))
    of_test rest true is = (
      λ c. let x = rest.0 c in (Contains-append_right (part_at at slot) (procs_at at later) p x.0, x.1),
      λ c. elim (Contains-append_cases (part_at at slot) (procs_at at later) p c.0) [
        | inl l ↦ absurd (not_here is c.1 l)
        | inr r ↦ rest.1 (r, c.1)
      ],
    )
    of_test rest false is = (
      λ c. elim (Contains-append_cases (part_at at slot) (procs_at at (without_moment m later)) p c) [
        | inl l ↦ (Contains-append_left (part_at at slot) (procs_at at later) p l, here_other is l)
        | inr r ↦ (let x = rest.0 r in (Contains-append_right (part_at at slot) (procs_at at later) p x.0, x.1))
      ],
      λ c. elim (Contains-append_cases (part_at at slot) (procs_at at later) p c.0) [
        | inl l ↦ Contains-append_left (part_at at slot) (procs_at at (without_moment m later)) p l
        | inr r ↦ Contains-append_right (part_at at slot) (procs_at at (without_moment m later)) p (rest.1 (r, c.1))
      ],
    )

fewer_left : (m at p : ℕ) (later : List (ℕ × List ℕ)) → times (λ k. p == k) (procs_at at (without_moment m later)) ≤ times (λ k. p == k) (procs_at at later)
fewer_left m at p [] = omega arith
fewer_left m at p (slot ∷ later) = of_test (fewer_left m at p later) (not (slot.0 == m))
  where
    before : times (λ k. p == k) (procs_at at (slot ∷ later)) ≡ times (λ k. p == k) (part_at at slot) + times (λ k. p == k) (procs_at at later)
    before = times_append (λ k. p == k) (part_at at slot) (procs_at at later)

    of_test : times (λ k. p == k) (procs_at at (without_moment m later)) ≤ times (λ k. p == k) (procs_at at later) → (b : Bool) → times (λ k. p == k) (procs_at at (if b then slot ∷ without_moment m later else without_moment m later)) ≤ times (λ k. p == k) (procs_at at (slot ∷ later))
    of_test rest true = omega (arith, rest, before, times_append (λ k. p == k) (part_at at slot) (procs_at at (without_moment m later)))
    of_test rest false = omega (arith, rest, before)

begin_tied : (groups : List (List Process)) (r : RoundState) (m : ℕ) → Tied r.state r.away → Tied (after_begin groups r (begin_slot m r.state)).state (after_begin groups r (begin_slot m r.state)).away
begin_tied groups r m tied = record {
  inactive = λ p. through (tied.inactive p) (through (begun_inactive m (standing_at r.state p)) (same_inactive p));
  later = λ at p. through (without_in m at p r.away.later) (both at p);
  inactive_once = tied.inactive_once;
  later_once = λ at p. omega (arith, fewer_left m at p r.away.later, tied.later_once at p);
}
  where
    same : (p : ℕ) → standing_at (begin_slot m r.state) p ≡ standing_in_slot m (standing_at r.state p)
    same p = place_mapped (standing_in_slot m) refl r.state.standings p

    same_inactive : (p : ℕ) → (standing_in_slot m (standing_at r.state p) ≡ Inactive) ↔ (standing_at (begin_slot m r.state) p ≡ Inactive)
    same_inactive p = (λ h. same p ∙ h, λ h. sym (same p) ∙ h)

    both : (at p : ℕ) → (Contains (procs_at at r.away.later) p × ((at == m) ≡ false)) ↔ (standing_at (begin_slot m r.state) p ≡ Later at)
    both at p = (
      λ c. same p ∙ (begun_later m at (standing_at r.state p)).1 ((tied.later at p).0 c.0, c.1),
      λ h. let x = (begun_later m at (standing_at r.state p)).0 (sym (same p) ∙ h) in ((tied.later at p).1 x.0, x.1),
    )

-- ---- the next region, the next slot
tied_update : (d : Design) (s t : MachineState) (away : Away) → step d s Update ≡ Some t → Tied s away → Tied t away
tied_update d s t away is tied = record {
  inactive = λ p. through (tied.inactive p) (parked d Update 1 s t p Inactive refl refl tt run);
  later = λ at p. through (tied.later at p) (parked d Update 1 s t p (Later at) refl refl tt run);
  inactive_once = tied.inactive_once;
  later_once = tied.later_once;
}
  where
    run : steps d (replicate 1 Update) s ≡ Some t
    run = ap (option_and_then (steps d [])) is

perform_tied : (d : Design) (groups : List (List Process)) (puts : List Put) (r : RoundState) → Tied r.state r.away → Tied (perform d groups puts r).state (perform d groups puts r).away
perform_tied d groups [] r tied = tied
perform_tied d groups (put ∷ puts) r tied =
    of_step (λ t k. perform_tied d groups puts (record r { state = t; ready = with_woken groups (woken d r.state t) r.ready }) k) (step d r.state Update) refl
  where
    goes : MachineState → RoundState
    goes t = perform d groups puts (record r { state = t; ready = with_woken groups (woken d r.state t) r.ready })

    of_step : ((t : MachineState) → Tied t r.away → Tied (goes t).state (goes t).away) → (o : Option MachineState) → step d r.state Update ≡ o → Tied (if_some r goes o).state (if_some r goes o).away
    of_step rest None is = tied
    of_step rest (Some t) is = rest t (tied_update d r.state t r.away is tied)

pub region_tied : RegionKeepsTied
unfolding next_region
region_tied d groups r e tied = of_inactive (has_inactive r.state)
  where
    updates : RoundEnd
    updates = update_round d groups r

    of_updates : (b : Bool) → (if b then Some updates else None) ≡ Some e → Tied e.after.state e.after.away
    of_updates false h = absurd (none_some e h)
    of_updates true h =
        subst (λ (x : RoundEnd). Tied x.after.state x.after.away) (same_Some updates e h) (perform_tied d groups r.state.nonblocking (record r { state = move_updates r.state }) (record { inactive = tied.inactive; later = tied.later; inactive_once = tied.inactive_once; later_once = tied.later_once }))

    of_inactive : (b : Bool) → (if b then Some (without_entries (after_activation groups r)) else (if is_some_put r.state.nonblocking then Some updates else None)) ≡ Some e → Tied e.after.state e.after.away
    of_inactive true h =
        subst (λ (x : RoundEnd). Tied x.after.state x.after.away) (same_Some (without_entries (after_activation groups r)) e h) (activation_tied groups r tied)
    of_inactive false h = of_updates (is_some_put r.state.nonblocking) h

pub slot_tied : SlotKeepsTied
unfolding next_slot
slot_tied until groups r e tied = of_finish r.state.finished
  where
    of_state : Option MachineState → Option RoundEnd
    of_state o = if_some None (λ s. Some (without_entries (after_begin groups r s))) o

    of_limit : (m : ℕ) (b : Bool) → of_state (if b then Some (begin_slot m r.state) else None) ≡ Some e → Tied e.after.state e.after.away
    of_limit m false h = absurd (none_some e h)
    of_limit m true h =
        subst (λ (x : RoundEnd). Tied x.after.state x.after.away) (same_Some (without_entries (after_begin groups r (begin_slot m r.state))) e h) (begin_tied groups r m tied)

    of_moment : (o : Option ℕ) → of_state (begin_next until r.state o) ≡ Some e → Tied e.after.state e.after.away
    of_moment None h = absurd (none_some e h)
    of_moment (Some m) h = of_limit m (nat_le m until) h

    of_finish : (b : Bool) → (if b then None else of_state (begin_next until r.state (next_moment r.state.standings))) ≡ Some e → Tied e.after.state e.after.away
    of_finish true h = absurd (none_some e h)
    of_finish false h = of_moment (next_moment r.state.standings) h
