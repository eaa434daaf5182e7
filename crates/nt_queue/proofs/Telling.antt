-- Procedures that were put away tell the moves of a state.
use Rattle.std.proofs.Common.{◌≡◌, ℕ, zero, suc, ◌<◌, ◌≤◌, min, Bool, true, false, ◌||◌, List, [], ◌∷◌, length, get_or, Option, Some, None, refl, ◌∙◌, ap, subst, arith, inl, inr, ◌⊎◌}
use Rattle.std.specs.Bool.{⊤}
use Rattle.std.specs.List.{Contains, list_any}
use Rattle.std.proofs.lemmas.Bool.{false≢true}
use Rattle.nt_semantics.specs.Execution.{is_inactive, next_moment, sooner}
use Rattle.nt_semantics.specs.Rounds.{procs_at}
use Rattle.nt_semantics.specs.State.{standing_at}
use Rattle.nt_semantics.specs.declared.standing.Standing.{Standing}
use Rattle.nt_semantics.specs.declared.standing.Standing.TheVariants.{Unbegun, Ready, Inactive, Later, Waits, Over}
use Rattle.nt_queue.specs.Ties.{TiesTellMoves}

none_in : (p : ℕ) → Contains [] p → ⊥
none_in p (k, below, is) = omega (arith, below)

first_in : (p : ℕ) (ps : List ℕ) → Contains (p ∷ ps) p
first_in p ps = (0, omega arith, refl)

-- a list that isn't empty
has_first : (xs : List ℕ) → 0 < length xs → (p : ℕ) × Contains xs p
has_first [] h = absurd (omega (arith, h))
has_first (p ∷ ps) h = (p, first_in p ps)

-- ---- Inactive
any_inactive : (standings : List Standing) (p : ℕ) → get_or standings p Over ≡ Inactive → list_any is_inactive standings ≡ true
any_inactive [] p h = absurd (over_not h)
  where
    over_not : Over ≡ Inactive → ⊥
    over_not h = cc
any_inactive (x ∷ standings) zero h = ap (λ b. b || list_any is_inactive standings) (ap is_inactive h)
any_inactive (x ∷ standings) (suc p) h = or_right (is_inactive x) (list_any is_inactive standings) (any_inactive standings p h)
  where
    or_right : (a b : Bool) → b ≡ true → (a || b) ≡ true
    or_right true b h = refl
    or_right false b h = h

inactive_of : (x : Standing) → is_inactive x ≡ true → x ≡ Inactive
inactive_of Inactive h = refl
inactive_of Unbegun h = absurd (false≢true h)
inactive_of Ready h = absurd (false≢true h)
inactive_of (Later at) h = absurd (false≢true h)
inactive_of (Waits kept) h = absurd (false≢true h)
inactive_of Over h = absurd (false≢true h)

none_inactive_at : (standings : List Standing) → ((p : ℕ) → get_or standings p Over ≡ Inactive → ⊥) → list_any is_inactive standings ≡ false
none_inactive_at [] h = refl
none_inactive_at (x ∷ standings) h = of_first (none_inactive_at standings (λ p. h (suc p))) (is_inactive x) refl
  where
    of_first : list_any is_inactive standings ≡ false → (b : Bool) → is_inactive x ≡ b → (is_inactive x || list_any is_inactive standings) ≡ false
    of_first rest true is = absurd (h zero (inactive_of x is))
    of_first rest false is = ap (λ b. b || list_any is_inactive standings) is ∙ rest

-- ---- the next moment
abbrev AtLeast : ℕ → Option ℕ → Type 0
AtLeast m None = ⊤
AtLeast m (Some k) = m ≤ k

bound : (m : ℕ) (standings : List Standing) → ((p at : ℕ) → get_or standings p Over ≡ Later at → m ≤ at) → AtLeast m (next_moment standings)
bound m [] h = tt
bound m (x ∷ standings) h = of_place x (next_moment standings) (λ at. h zero at) (bound m standings (λ p. h (suc p)))
  where
    of_place : (x : Standing) (o : Option ℕ) → ((at : ℕ) → x ≡ Later at → m ≤ at) → AtLeast m o → AtLeast m (sooner x o)
    of_place (Later at) None first rest = first at refl
    of_place (Later at) (Some k) first rest = omega (arith, first at refl, rest)
    of_place Unbegun o first rest = rest
    of_place Ready o first rest = rest
    of_place Inactive o first rest = rest
    of_place (Waits kept) o first rest = rest
    of_place Over o first rest = rest

here_least : (m : ℕ) (o : Option ℕ) → AtLeast m o → sooner (Later m) o ≡ Some m
here_least m None h = refl
here_least m (Some k) h = let same : min m k ≡ m = omega (arith, h) in ap (λ n. Some n) same

still_least : (m : ℕ) (x : Standing) → ((at : ℕ) → x ≡ Later at → m ≤ at) → sooner x (Some m) ≡ Some m
still_least m (Later at) h = let same : min at m ≡ m = omega (arith, h at refl) in ap (λ n. Some n) same
still_least m Unbegun h = refl
still_least m Ready h = refl
still_least m Inactive h = refl
still_least m (Waits kept) h = refl
still_least m Over h = refl

least_is : (m : ℕ) (standings : List Standing) (p : ℕ) → ((q at : ℕ) → get_or standings q Over ≡ Later at → m ≤ at) → get_or standings p Over ≡ Later m → next_moment standings ≡ Some m
least_is m [] p h is = absurd (over_not is)
  where
    over_not : Over ≡ Later m → ⊥
    over_not h = cc
least_is m (x ∷ standings) zero h is =
    ap (λ y. sooner y (next_moment standings)) is ∙ here_least m (next_moment standings) (bound m standings (λ q. h (suc q)))
least_is m (x ∷ standings) (suc p) h is =
    ap (sooner x) (least_is m standings p (λ q. h (suc q)) is) ∙ still_least m x (λ at. h zero at)

le_or_lt : (m n : ℕ) → (m ≤ n) ⊎ (n < m)
le_or_lt zero n = inl (omega arith)
le_or_lt (suc m) zero = inr (omega arith)
le_or_lt (suc m) (suc n) = elim (le_or_lt m n) [
  | inl h ↦ inl (omega (arith, h))
  | inr h ↦ inr (omega (arith, h))
]

pub ties_tell : TiesTellMoves
ties_tell s away tied = record {
  none_inactive = λ none. none_inactive_at s.standings (λ p is. none_in p (subst (λ (l : List ℕ). Contains l p) none ((tied.inactive p).1 is)));
  some_inactive = λ some. let p = has_first away.inactive some in any_inactive s.standings p.0 ((tied.inactive p.0).0 p.1);
  next = λ m some none. let p = has_first (procs_at m away.later) some in least_is m s.standings p.0 (λ q at is. at_least m none q at is) ((tied.later m p.0).0 p.1);
}
  where
    at_least : (m : ℕ) → ((k : ℕ) → k < m → procs_at k away.later ≡ []) → (q at : ℕ) → standing_at s q ≡ Later at → m ≤ at
    at_least m none q at is = elim (le_or_lt m at) [
      | inl h ↦ h
      | inr below ↦ absurd (none_in q (subst (λ (l : List ℕ). Contains l q) (none at below) ((tied.later at q).1 is)))
    ]
