-- A loop is one turn after another.
use Rattle.std.proofs.Common.{◌≡◌, ◌≤◌, ◌<◌, ℕ, zero, suc, ◌+◌, ◌-◌, List, [], ◌∷◌, length, drop, refl, ap, sym, ◌∙◌, arith}
use Rattle.std.specs.Prelude.{Bool, true, false, if◌then◌else◌, Option, Some, None, Err, get_or, slice_set}
use Rattle.std.proofs.Math.ListN.{drop_of_length-le}
use Rattle.nt_value.specs.Digits.{is_one}
use Rattle.nt_value.specs.declared.digit.Digit.{Digit}
use Rattle.nt_value.specs.declared.digit.Digit.TheVariants.{One, X, Z, Zero}
use Rattle.nt_design.proofs.Loops.{each_more, each_none, loop_is, loop_more, repeat_more, repeat_none}
use Rattle.nt_design.proofs.Frame.{two}
use Rattle.nt_design.proofs.Shaped.{false_is, nothing_there, some_back}
use Rattle.nt_design.specs.Expressions.{Calls, World}
use Rattle.nt_design.specs.Parts.{Value, int_value, test_of}
use Rattle.nt_design.specs.Statements.{Doing, after_body, do_all, does, downwards, each_of, iterate, loop, loop_of, nothing, on_next, one_then, repeat_of, upwards}
use Rattle.nt_design.specs.Turns.{Timed, Timing, and_then, pick}
use Rattle.nt_design.specs.declared.act.Act.{Act}
use Rattle.nt_design.specs.declared.act.Flow.{Flow}
use Rattle.nt_design.specs.declared.act.Flow.TheVariants.{Next, Broke, Continued, Returned}
use Rattle.nt_design.specs.declared.env.Stop.{Stop}
use Rattle.nt_design.specs.declared.env.Stop.TheVariants.{TooLong, OutOfMemory}
use Rattle.nt_values.proofs.Told.{drop_item, stops}
use Rattle.nt_values.specs.Tells.{Tells}
use Rattle.nt_acts.specs.Doable.{with_locals}
use Rattle.nt_acts.specs.Endings.{ends, goes_with, once, passes, then_step, turn}
use Rattle.nt_acts.specs.Spans.{index_of, span_indices}
use Rattle.nt_acts.specs.declared.span.Span.{Span}

-- ---- what an answer with locals says
pub err_seen : {A : Type 0} (most few : ℕ) (a b : List Value) (m : Timed (List Value × A)) (e : Stop) → Tells few m (with_locals a (Err e)) → Tells most m (with_locals b (Err e))
err_seen most few a b m TooLong h = h
err_seen most few a b m (OutOfMemory e) h = tt

-- ---- a test
-- what a test's answer says of it
pub test_said : (m : Timed Value) (b : Bool) (l : ℕ) → and_then m (λ t k. Some (is_one (test_of t), k)) ≡ Some (b, l) → (t : Value) × (m ≡ Some (t, l)) × (is_one (test_of t) ≡ b)
test_said None b l h = nothing_there (b, l) h
test_said (Some p) b l h =
    let e = some_back (is_one (test_of p.0), p.1) (b, l) h in
    (p.0, ap {B = Timed Value} (λ k. Some (p.0, k)) (ap (λ q. q.1) e), ap (λ q. q.0) e)

pub test_stops : {A : Type 0} (most few : ℕ) (m : Timed Value) (go : Value → ℕ → Timed A) (e : Stop) → Tells few (and_then m (λ t k. Some (is_one (test_of t), k))) (Err e) → Tells most (and_then m go) (Err e)
test_stops most few None go TooLong h = refl
test_stops most few (Some p) go TooLong h = nothing_there (is_one (test_of p.0), p.1) (sym h)
test_stops most few m go (OutOfMemory e) h = tt

pub pick_on : {A : Type 0} (d : Digit) (a b : A) → is_one d ≡ true → pick d a b b ≡ a
pick_on One a b h = refl
pick_on Zero a b h = false_is h
pick_on X a b h = false_is h
pick_on Z a b h = false_is h

pub pick_off : {A : Type 0} (d : Digit) (a b : A) → is_one d ≡ false → pick d a b b ≡ b
pick_off One a b h = false_is (sym h)
pick_off Zero a b h = refl
pick_off X a b h = refl
pick_off Z a b h = refl

-- ---- turns
body_ends : (flow : Flow) (go : Doing) (locals : List Value) (left : ℕ) → after_body flow go locals left ≡ goes_with (ends flow) go locals left
body_ends Next go locals left = refl
body_ends Broke go locals left = refl
body_ends Continued go locals left = refl
body_ends Returned go locals left = refl

pub iterate_once : (body go : Doing) (locals : List Value) (left : ℕ) → iterate body go locals left ≡ and_then (once body locals left) (λ e k. goes_with e.1 go e.0 k)
iterate_once body go locals zero = refl
iterate_once body go locals (suc n) = of_body (body locals n)
  where
    of_body : (m : Timed (List Value × Flow)) → and_then m (λ e k. after_body e.1 go e.0 k) ≡ and_then {A = List Value × Option Flow} (and_then m (λ e k. Some ((e.0, ends e.1), k))) (λ e k. goes_with e.1 go e.0 k)
    of_body None = refl
    of_body (Some p) = body_ends p.0.1 go p.0.0 p.1

step_passes : (flow : Flow) (go : Doing) (locals : List Value) (left : ℕ) → on_next flow go locals left ≡ goes_with (passes flow) go locals left
step_passes Next go locals left = refl
step_passes Broke go locals left = refl
step_passes Continued go locals left = refl
step_passes Returned go locals left = refl

one_step : (step go : Doing) (locals : List Value) (left : ℕ) → one_then step go locals left ≡ and_then (then_step None step locals left) (λ e k. goes_with e.1 go e.0 k)
one_step step go locals left = of_step (step locals left)
  where
    of_step : (m : Timed (List Value × Flow)) → and_then m (λ e l. on_next e.1 go e.0 l) ≡ and_then {A = List Value × Option Flow} (and_then m (λ e k. Some ((e.0, passes e.1), k))) (λ e k. goes_with e.1 go e.0 k)
    of_step None = refl
    of_step (Some p) = step_passes p.0.1 go p.0.0 p.1

either_step : (end : Option Flow) (step go : Doing) (locals : List Value) (left : ℕ) → goes_with end (one_then step go) locals left ≡ and_then (then_step end step locals left) (λ e k. goes_with e.1 go e.0 k)
either_step None step go locals left = one_step step go locals left
either_step (Some flow) step go locals left = refl

after_once : (step go : Doing) (m : Timed (List Value × Option Flow)) → and_then m (λ e k. goes_with e.1 (one_then step go) e.0 k) ≡ and_then (and_then m (λ e k. then_step e.1 step e.0 k)) (λ e k. goes_with e.1 go e.0 k)
after_once step go None = refl
after_once step go (Some p) = either_step p.0.1 step go p.0.0 p.1

by_digit : (step body go : Doing) (locals : List Value) (d : Digit) (l : ℕ) → pick d (iterate body (one_then step go) locals l) (nothing locals l) (nothing locals l) ≡ and_then (pick d (and_then (once body locals l) (λ e k. then_step e.1 step e.0 k)) (Some ((locals, Some Next), l)) (Some ((locals, Some Next), l))) (λ e k. goes_with e.1 go e.0 k)
by_digit step body go locals One l = iterate_once body (one_then step go) locals l ∙ after_once step go (once body locals l)
by_digit step body go locals Zero l = refl
by_digit step body go locals X l = refl
by_digit step body go locals Z l = refl

by_test : (step body go : Doing) (locals : List Value) (m : Timed Value) → and_then m (λ t l. pick (test_of t) (iterate body (one_then step go) locals l) (nothing locals l) (nothing locals l)) ≡ and_then (and_then m (λ t l. pick (test_of t) (and_then (once body locals l) (λ e k. then_step e.1 step e.0 k)) (Some ((locals, Some Next), l)) (Some ((locals, Some Next), l)))) (λ e k. goes_with e.1 go e.0 k)
by_test step body go locals None = refl
by_test step body go locals (Some p) = by_digit step body go locals (test_of p.0) p.1

pub loop_turn : (n : ℕ) (test : Timing Value) (step body : Doing) (locals : List Value) (left : ℕ) → loop_of (suc n) test step body locals left ≡ and_then (turn test step body locals left) (λ e k. goes_with e.1 (loop_of n test step body) e.0 k)
loop_turn n test step body locals left =
    loop_more n test step body locals left ∙ by_test step body (loop_of n test step body) locals (test locals left)

-- ---- the rest of a loop with a test
module _ (test : Timing Value) (step body : Doing) (first : List Value) (left : ℕ) where
  abbrev pub Looped : List Value → ℕ → Type 0
  Looped locals turns = (n : ℕ) × (turns ≤ n) × (loop test step body first left ≡ loop_of (suc n) test step body locals turns)

  pub looped_first : Looped first left
  looped_first = (left, omega arith, loop_is test step body first left)

  looped_next : (locals : List Value) (turns : ℕ) (so : Looped locals turns) → loop test step body first left ≡ and_then (turn test step body locals turns) (λ e k. goes_with e.1 (loop_of so.0 test step body) e.0 k)
  looped_next locals turns so = so.2 ∙ loop_turn so.0 test step body locals turns

  pub looped_stops : (most few : ℕ) (locals after last : List Value) (turns : ℕ) (e : Stop) → Looped locals turns → Tells few (turn test step body locals turns) (with_locals after (Err e)) → Tells most (loop test step body first left) (with_locals last (Err e))
  looped_stops most few locals after last turns e so bad =
      stops few most (loop test step body first left) (turn test step body locals turns) (λ e k. goes_with e.1 (loop_of so.0 test step body) e.0 k) e (looped_next locals turns so) bad

  pub looped_ends : (locals after : List Value) (turns k : ℕ) (end : Option Flow) (flow : Flow) → Looped locals turns → turn test step body locals turns ≡ Some ((after, end), k) → end ≡ Some flow → loop test step body first left ≡ Some ((after, flow), k)
  looped_ends locals after turns k end flow so is e =
      looped_next locals turns so ∙ (ap (λ m. and_then m (λ e k. goes_with e.1 (loop_of so.0 test step body) e.0 k)) is ∙ ap {B = Timed (List Value × Flow)} (λ o. goes_with o (loop_of so.0 test step body) after k) e)

  pub looped_on : (locals after : List Value) (turns k : ℕ) (end : Option Flow) → Looped locals turns → turn test step body locals turns ≡ Some ((after, end), k) → end ≡ None → k < turns → Looped after k
  looped_on locals after turns k end so is e less =
      let most = so.1 in (
        so.0 - 1,
        omega (arith, most, less),
        looped_next locals turns so ∙ (ap (λ m. and_then m (λ e k. goes_with e.1 (loop_of so.0 test step body) e.0 k)) is
            ∙ (ap {B = Timed (List Value × Flow)} (λ o. goes_with o (loop_of so.0 test step body) after k) e ∙ ap (λ n. loop_of n test step body after k) (one_more so.0 turns k most less))),
      )
    where
      one_more : (n turns k : ℕ) → turns ≤ n → k < turns → n ≡ suc (n - 1)
      one_more n turns k most less = omega (arith, most, less)

-- ---- the rest of a `repeat`
module _ (count : ℕ) (body : Doing) (first : List Value) (left : ℕ) where
  abbrev pub Repeated : ℕ → List Value → ℕ → Type 0
  Repeated i locals turns = repeat_of count body first left ≡ repeat_of (count - i) body locals turns

  pub repeated_first : Repeated 0 first left
  repeated_first = ap (λ n. repeat_of n body first left) (no_less count)
    where
      no_less : (n : ℕ) → n ≡ n - 0
      no_less n = omega arith

  repeated_next : (i : ℕ) (locals : List Value) (turns : ℕ) → i < count → Repeated i locals turns → repeat_of count body first left ≡ and_then (once body locals turns) (λ e k. goes_with e.1 (repeat_of (count - (i + 1)) body) e.0 k)
  repeated_next i locals turns low so =
      so ∙ (ap (λ n. repeat_of n body locals turns) (one_less count i low)
      ∙ (repeat_more (count - (i + 1)) body locals turns ∙ iterate_once body (repeat_of (count - (i + 1)) body) locals turns))
    where
      one_less : (count i : ℕ) → i < count → count - i ≡ suc (count - (i + 1))
      one_less count i low = omega (arith, low)

  pub repeated_stops : (most few i : ℕ) (locals after last : List Value) (turns : ℕ) (e : Stop) → i < count → Repeated i locals turns → Tells few (once body locals turns) (with_locals after (Err e)) → Tells most (repeat_of count body first left) (with_locals last (Err e))
  repeated_stops most few i locals after last turns e low so bad =
      stops few most (repeat_of count body first left) (once body locals turns) (λ e k. goes_with e.1 (repeat_of (count - (i + 1)) body) e.0 k) e (repeated_next i locals turns low so) bad

  pub repeated_ends : (i : ℕ) (locals after : List Value) (turns k : ℕ) (end : Option Flow) (flow : Flow) → i < count → Repeated i locals turns → once body locals turns ≡ Some ((after, end), k) → end ≡ Some flow → repeat_of count body first left ≡ Some ((after, flow), k)
  repeated_ends i locals after turns k end flow low so is e =
      repeated_next i locals turns low so ∙ (ap (λ m. and_then m (λ e k. goes_with e.1 (repeat_of (count - (i + 1)) body) e.0 k)) is ∙ ap {B = Timed (List Value × Flow)} (λ o. goes_with o (repeat_of (count - (i + 1)) body) after k) e)

  pub repeated_on : (i : ℕ) (locals after : List Value) (turns k : ℕ) (end : Option Flow) → i < count → Repeated i locals turns → once body locals turns ≡ Some ((after, end), k) → end ≡ None → Repeated (i + 1) after k
  repeated_on i locals after turns k end low so is e =
      repeated_next i locals turns low so ∙ (ap (λ m. and_then m (λ e k. goes_with e.1 (repeat_of (count - (i + 1)) body) e.0 k)) is ∙ ap {B = Timed (List Value × Flow)} (λ o. goes_with o (repeat_of (count - (i + 1)) body) after k) e)

  pub repeated_last : (i : ℕ) (locals : List Value) (turns : ℕ) → count ≤ i → Repeated i locals turns → repeat_of count body first left ≡ Some ((locals, Next), turns)
  repeated_last i locals turns high so =
      so ∙ (ap (λ n. repeat_of n body locals turns) (none count i high) ∙ repeat_none body locals turns)
    where
      none : (count i : ℕ) → count ≤ i → count - i ≡ 0
      none count i high = omega (arith, high)

-- ---- indices in order
up_next : (k n from : ℕ) → k < n → drop k (upwards from n) ≡ (from + k) ∷ drop (k + 1) (upwards from n)
up_next k zero from h = absurd (omega (arith, h))
up_next zero (suc n) from h = two (λ x xs. x ∷ xs) (plus_none from) (sym (drop_one from (upwards (suc from) n)))
  where
    plus_none : (from : ℕ) → from ≡ from + 0
    plus_none from = omega arith

    drop_one : (x : ℕ) (xs : List ℕ) → drop (0 + 1) (x ∷ xs) ≡ xs
    drop_one x [] = refl
    drop_one x (y ∷ xs) = refl
up_next (suc k) (suc n) from h =
    up_next k n (suc from) (omega (arith, h)) ∙ two (λ x xs. x ∷ xs) (moved from k) (ap (λ i. drop i (upwards from (suc n))) (later k))
  where
    moved : (from k : ℕ) → suc from + k ≡ from + suc k
    moved from k = omega arith

    later : (k : ℕ) → suc (k + 1) ≡ suc k + 1
    later k = omega arith

down_next : (k n from : ℕ) → k < n → drop k (downwards from n) ≡ (from - k) ∷ drop (k + 1) (downwards from n)
down_next k zero from h = absurd (omega (arith, h))
down_next zero (suc n) from h = two (λ x xs. x ∷ xs) (minus_none from) (sym (drop_one from (downwards (from - 1) n)))
  where
    minus_none : (from : ℕ) → from ≡ from - 0
    minus_none from = omega arith

    drop_one : (x : ℕ) (xs : List ℕ) → drop (0 + 1) (x ∷ xs) ≡ xs
    drop_one x [] = refl
    drop_one x (y ∷ xs) = refl
down_next (suc k) (suc n) from h =
    down_next k n (from - 1) (omega (arith, h)) ∙ two (λ x xs. x ∷ xs) (moved from k) (ap (λ i. drop i (downwards from (suc n))) (later k))
  where
    moved : (from k : ℕ) → from - 1 - k ≡ from - suc k
    moved from k = omega arith

    later : (k : ℕ) → suc (k + 1) ≡ suc k + 1
    later k = omega arith

up_long : (n from : ℕ) → length (upwards from n) ≡ n
up_long zero from = refl
up_long (suc n) from = ap suc (up_long n (suc from))

down_long : (n from : ℕ) → length (downwards from n) ≡ n
down_long zero from = refl
down_long (suc n) from = ap suc (down_long n (from - 1))

span_next : (up : Bool) (from many k : ℕ) → k < many → drop k (if up then upwards from many else downwards from many) ≡ (if up then from + k else from - k) ∷ drop (k + 1) (if up then upwards from many else downwards from many)
span_next true from many k h = up_next k many from h
span_next false from many k h = down_next k many from h

span_long : (up : Bool) (from many : ℕ) → length (if up then upwards from many else downwards from many) ≡ many
span_long true from many = up_long many from
span_long false from many = down_long many from

-- ---- the rest of a `foreach`
module _ (span : Span) (at : ℕ) (body : Doing) (first : List Value) (left : ℕ) where
  abbrev pub Counted : ℕ → List Value → ℕ → Type 0
  Counted k locals turns = each_of (span_indices span) at body first left ≡ each_of (drop k (span_indices span)) at body locals turns

  counted_next : (k : ℕ) (locals set : List Value) (turns : ℕ) → k < span.many → set ≡ slice_set locals at (int_value (index_of span k)) → Counted k locals turns → each_of (span_indices span) at body first left ≡ and_then (once body set turns) (λ e j. goes_with e.1 (each_of (drop (k + 1) (span_indices span)) at body) e.0 j)
  counted_next k locals set turns low is so =
      so ∙ (ap (λ l. each_of l at body locals turns) (span_next span.up span.from span.many k low)
      ∙ (each_more (index_of span k) (drop (k + 1) (span_indices span)) at body locals turns
      ∙ (ap (λ l. iterate body (each_of (drop (k + 1) (span_indices span)) at body) l turns) (sym is)
      ∙ iterate_once body (each_of (drop (k + 1) (span_indices span)) at body) set turns)))

  pub counted_stops : (most few k : ℕ) (locals set after last : List Value) (turns : ℕ) (e : Stop) → k < span.many → set ≡ slice_set locals at (int_value (index_of span k)) → Counted k locals turns → Tells few (once body set turns) (with_locals after (Err e)) → Tells most (each_of (span_indices span) at body first left) (with_locals last (Err e))
  counted_stops most few k locals set after last turns e low is so bad =
      stops few most (each_of (span_indices span) at body first left) (once body set turns) (λ e j. goes_with e.1 (each_of (drop (k + 1) (span_indices span)) at body) e.0 j) e (counted_next k locals set turns low is so) bad

  pub counted_ends : (k : ℕ) (locals set after : List Value) (turns j : ℕ) (end : Option Flow) (flow : Flow) → k < span.many → set ≡ slice_set locals at (int_value (index_of span k)) → Counted k locals turns → once body set turns ≡ Some ((after, end), j) → end ≡ Some flow → each_of (span_indices span) at body first left ≡ Some ((after, flow), j)
  counted_ends k locals set after turns j end flow low is so done e =
      counted_next k locals set turns low is so ∙ (ap (λ m. and_then m (λ e j. goes_with e.1 (each_of (drop (k + 1) (span_indices span)) at body) e.0 j)) done ∙ ap {B = Timed (List Value × Flow)} (λ o. goes_with o (each_of (drop (k + 1) (span_indices span)) at body) after j) e)

  pub counted_on : (k : ℕ) (locals set after : List Value) (turns j : ℕ) (end : Option Flow) → k < span.many → set ≡ slice_set locals at (int_value (index_of span k)) → Counted k locals turns → once body set turns ≡ Some ((after, end), j) → end ≡ None → Counted (k + 1) after j
  counted_on k locals set after turns j end low is so done e =
      counted_next k locals set turns low is so ∙ (ap (λ m. and_then m (λ e j. goes_with e.1 (each_of (drop (k + 1) (span_indices span)) at body) e.0 j)) done ∙ ap {B = Timed (List Value × Flow)} (λ o. goes_with o (each_of (drop (k + 1) (span_indices span)) at body) after j) e)

  pub counted_last : (k : ℕ) (locals : List Value) (turns : ℕ) → span.many ≤ k → Counted k locals turns → each_of (span_indices span) at body first left ≡ Some ((locals, Next), turns)
  counted_last k locals turns high so =
      so ∙ (ap (λ l. each_of l at body locals turns) (drop_of_length-le (span_indices span) (omega (arith, span_long span.up span.from span.many, high))) ∙ each_none at body locals turns)

-- ---- the rest of statements in order
module _ (calls : Calls) (world : World) (name : ℕ) (acts : List Act) (first : List Value) (left : ℕ) where
  abbrev pub Done : ℕ → List Value → ℕ → Type 0
  Done i locals turns = do_all calls world name acts first left ≡ do_all calls world name (drop i acts) locals turns

  done_next : (i : ℕ) (locals : List Value) (turns : ℕ) (act : Act) → i < length acts → act ≡ get_or acts i act → Done i locals turns → do_all calls world name acts first left ≡ and_then (does calls world name act locals turns) (λ e l. on_next e.1 (do_all calls world name (drop (i + 1) acts)) e.0 l)
  done_next i locals turns act low is so = so ∙ ap (λ l. do_all calls world name l locals turns) (drop_item acts i act low is)

  pub done_stops : (most few i : ℕ) (locals after last : List Value) (turns : ℕ) (act : Act) (e : Stop) → i < length acts → act ≡ get_or acts i act → Done i locals turns → Tells few (does calls world name act locals turns) (with_locals after (Err e)) → Tells most (do_all calls world name acts first left) (with_locals last (Err e))
  done_stops most few i locals after last turns act e low is so bad =
      stops few most (do_all calls world name acts first left) (does calls world name act locals turns) (λ e l. on_next e.1 (do_all calls world name (drop (i + 1) acts)) e.0 l) e (done_next i locals turns act low is so) bad

  pub done_on : (i : ℕ) (locals after : List Value) (turns k : ℕ) (act : Act) (flow : Flow) → i < length acts → act ≡ get_or acts i act → Done i locals turns → does calls world name act locals turns ≡ Some ((after, flow), k) → do_all calls world name acts first left ≡ on_next flow (do_all calls world name (drop (i + 1) acts)) after k
  done_on i locals after turns k act flow low is so done =
      done_next i locals turns act low is so ∙ ap (λ m. and_then m (λ e l. on_next e.1 (do_all calls world name (drop (i + 1) acts)) e.0 l)) done

  pub done_last : (i : ℕ) (locals : List Value) (turns : ℕ) → length acts ≤ i → Done i locals turns → do_all calls world name acts first left ≡ Some ((locals, Next), turns)
  done_last i locals turns high so = so ∙ ap (λ l. do_all calls world name l locals turns) (drop_of_length-le acts high)

-- statements after which the next one doesn't follow
pub jumps : (flow : Flow) (go : Doing) (locals : List Value) (left : ℕ) → (flow ≡ Next → ⊥) → on_next flow go locals left ≡ Some ((locals, flow), left)
jumps Next go locals left h = absurd (h refl)
jumps Broke go locals left h = refl
jumps Continued go locals left h = refl
jumps Returned go locals left h = refl
