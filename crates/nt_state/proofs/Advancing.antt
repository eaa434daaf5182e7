-- The one move of a state, by what it finds.
use Rattle.std.proofs.Common.{◌≡◌, ℕ, zero, suc, ◌+◌, ◌<◌, ◌≤◌, List, [], ◌∷◌, ◌++◌, map, take, drop, length, get_or, slice_get, slice_set, refl, ap, sym, ◌∙◌, arith}
use Rattle.std.specs.Prelude.{Bool, true, false, not, ◌&&◌, if◌then◌else◌, Option, Some, None, unwrap_or, nat_le}
use Rattle.std.proofs.lemmas.Bool.Decides.{nat_tests}
use Rattle.std.proofs.lemmas.List.{append-nil, drop_all, take_all}
use Rattle.nt_semantics.specs.Execution.{activate, active_standing, begin_next, begin_slot, has_inactive, is_active, is_inactive, is_over, move, move_updates, next_moment, settle}
use Rattle.nt_semantics.specs.State.{MachineState}
use Rattle.nt_semantics.specs.Step.{is_some_put}
use Rattle.nt_semantics.specs.declared.standing.Standing.{Standing}
use Rattle.nt_semantics.specs.declared.standing.Standing.TheVariants.{Unbegun, Ready, Inactive, Later, Waits, Over}

-- ---- a column that changes item by item
pub changed : {A : Type 0} (f : A → A) (xs : List A) (at : ℕ) (e : A) → at < length xs → slice_set (map f (take at xs) ++ drop at xs) at (f (get_or (map f (take at xs) ++ drop at xs) at e)) ≡ map f (take (suc at) xs) ++ drop (suc at) xs
changed f [] at e h = absurd (omega (arith, h))
changed f (x ∷ xs) zero e h = refl
changed f (x ∷ xs) (suc at) e h = ap (λ l. f x ∷ l) (changed f xs at e (omega (arith, h)))

-- an Inactive procedure becomes ready
pub active_is : (s : Standing) → (if is_inactive s then Ready else s) ≡ active_standing s
active_is Unbegun = refl
active_is Ready = refl
active_is Inactive = refl
active_is (Later at) = refl
active_is (Waits kept) = refl
active_is Over = refl

-- ---- the least later moment
got : {A : Type 0} (xs : List A) (k : ℕ) (x : A) → slice_get xs k ≡ Some x → drop k xs ≡ x ∷ drop (suc k) xs
got [] zero x h = cc
got [] (suc k) x h = cc
got (y ∷ ys) zero x h = cc
got (y ∷ ys) (suc k) x h = got ys k x h

-- ---- moves
pub active_stays : (until : ℕ) (s : MachineState) → is_active s ≡ true → s ≡ settle until s
unfolding settle
active_stays until s h = ap (λ (b : Bool). if b then s else unwrap_or (move until s) s) (sym h)

pub moved_to : (until : ℕ) (s : MachineState) (o : Option MachineState) → is_active s ≡ false → move until s ≡ o → unwrap_or o s ≡ settle until s
unfolding settle
moved_to until s o h is = ap (λ o. unwrap_or o s) (sym is) ∙ ap (λ (b : Bool). if b then s else unwrap_or (move until s) s) (sym h)

pub by_inactive : (until : ℕ) (s : MachineState) → has_inactive s ≡ true → move until s ≡ Some (activate s)
by_inactive until s h =
    ap (λ (b : Bool). if b then Some (activate s) else (if is_some_put s.nonblocking then Some (move_updates s) else (if s.finished then None else begin_next until s (next_moment s.standings)))) h

pub by_updates : (until : ℕ) (s : MachineState) → has_inactive s ≡ false → is_some_put s.nonblocking ≡ true → move until s ≡ Some (move_updates s)
by_updates until s h k =
    ap (λ (b : Bool). if b then Some (activate s) else (if is_some_put s.nonblocking then Some (move_updates s) else (if s.finished then None else begin_next until s (next_moment s.standings)))) h
    ∙ ap (λ (b : Bool). if b then Some (move_updates s) else (if s.finished then None else begin_next until s (next_moment s.standings))) k

module _ (until : ℕ) (s : MachineState) (none : has_inactive s ≡ false) (no_put : is_some_put s.nonblocking ≡ false) where
  to_slots : move until s ≡ (if s.finished then None else begin_next until s (next_moment s.standings))
  to_slots =
      ap (λ (b : Bool). if b then Some (activate s) else (if is_some_put s.nonblocking then Some (move_updates s) else (if s.finished then None else begin_next until s (next_moment s.standings)))) none
      ∙ ap (λ (b : Bool). if b then Some (move_updates s) else (if s.finished then None else begin_next until s (next_moment s.standings))) no_put

  pub by_finish : s.finished ≡ true → move until s ≡ None
  by_finish h =
      to_slots ∙ ap (λ (b : Bool). if b then None else begin_next until s (next_moment s.standings)) h

  to_next : (o : Option ℕ) → s.finished ≡ false → next_moment s.standings ≡ o → move until s ≡ begin_next until s o
  to_next o h is =
      to_slots ∙ (ap (λ (b : Bool). if b then None else begin_next until s (next_moment s.standings)) h ∙ ap (begin_next until s) is)

  pub by_none : s.finished ≡ false → next_moment s.standings ≡ None → move until s ≡ None
  by_none h is = to_next None h is

  pub by_later : (m : ℕ) → s.finished ≡ false → next_moment s.standings ≡ Some m → nat_le m until ≡ false → move until s ≡ None
  by_later m h is k =
      to_next (Some m) h is ∙ ap (λ (b : Bool). if b then Some (begin_slot m s) else None) k

  pub by_slot : (m : ℕ) → s.finished ≡ false → next_moment s.standings ≡ Some m → nat_le m until ≡ true → move until s ≡ Some (begin_slot m s)
  by_slot m h is k =
      to_next (Some m) h is ∙ ap (λ (b : Bool). if b then Some (begin_slot m s) else None) k

  pub over : is_active s ≡ false → is_over s ≡ true
  over h =
      ap (λ (b : Bool). not b && (not (has_inactive s) && not (is_some_put s.nonblocking))) h
      ∙ (ap (λ (b : Bool). not b && not (is_some_put s.nonblocking)) none ∙ ap not no_put)

pub not_over_inactive : (s : MachineState) → is_active s ≡ false → has_inactive s ≡ true → is_over s ≡ false
not_over_inactive s h k =
    ap (λ (b : Bool). not b && (not (has_inactive s) && not (is_some_put s.nonblocking))) h ∙ ap (λ (b : Bool). not b && not (is_some_put s.nonblocking)) k

pub not_over_updates : (s : MachineState) → is_active s ≡ false → has_inactive s ≡ false → is_some_put s.nonblocking ≡ true → is_over s ≡ false
not_over_updates s h k l =
    ap (λ (b : Bool). not b && (not (has_inactive s) && not (is_some_put s.nonblocking))) h
    ∙ (ap (λ (b : Bool). not b && not (is_some_put s.nonblocking)) k ∙ ap not l)

-- ---- orders of moments
pub not_le : (m until : ℕ) → until < m → nat_le m until ≡ false
not_le m until h = grind (arith, nat_tests)

pub is_le : (m until : ℕ) → m ≤ until → nat_le m until ≡ true
is_le m until h = grind (arith, nat_tests)

-- ---- one item more
half_long : {A : Type 0} (f : A → A) (xs : List A) (at : ℕ) → length (map f (take at xs) ++ drop at xs) ≡ length xs
half_long f [] zero = refl
half_long f [] (suc at) = refl
half_long f (x ∷ xs) zero = refl
half_long f (x ∷ xs) (suc at) = ap suc (half_long f xs at)

any_default : {A : Type 0} (xs : List A) (at : ℕ) (x e : A) → at < length xs → get_or xs at x ≡ get_or xs at e
any_default [] at x e low = absurd (omega (arith, low))
any_default (y ∷ xs) zero x e low = refl
any_default (y ∷ xs) (suc at) x e low = any_default xs at x e (omega (arith, low))

pub one_more : (f : Standing → Standing) (xs now new : List Standing) (at : ℕ) (x : Standing) (ready : Bool) → at < length xs → now ≡ map f (take at xs) ++ drop at xs → x ≡ get_or now at x → (if ready then Ready else x) ≡ f x → new ≡ slice_set now at (if ready then Ready else get_or now at Over) → new ≡ map f (take (at + 1) xs) ++ drop (at + 1) xs
one_more f xs now new at x ready low so_far is same put =
    let n : at + 1 ≡ suc at = omega arith in
    let long : length now ≡ length xs = ap (λ (l : List Standing). length l) so_far ∙ half_long f xs at in
    let there : x ≡ get_or now at Over = is ∙ any_default now at x Over (omega (arith, low, long)) in
    put
    ∙ (ap (slice_set now at) (ap (λ y. if ready then Ready else y) (sym there) ∙ (same ∙ ap f there))
    ∙ (ap (λ l. slice_set l at (f (get_or l at Over))) so_far ∙ (changed f xs at Over low ∙ ap (λ k. map f (take k xs) ++ drop k xs) (sym n))))

pub all_mapped : (f : Standing → Standing) (xs now : List Standing) (at : ℕ) → length xs ≤ at → now ≡ map f (take at xs) ++ drop at xs → now ≡ map f xs
all_mapped f xs now at long so_far =
    so_far ∙ (ap (λ l. map f (take at xs) ++ l) (drop_all at xs long) ∙ (append-nil (map f (take at xs)) ∙ ap (map f) (take_all at xs long)))
