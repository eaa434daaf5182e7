-- What an answer tells of a whole, from what its parts' answers tell.
use Rattle.std.proofs.Common.{map, ◌≡◌, ◌≤◌, ◌<◌, ℕ, suc, ◌+◌, List, [], ◌∷◌, ◌++◌, length, drop, refl, ap, sym, subst, ◌∙◌, arith, add-one, append_assoc, drop-cons}
use Rattle.std.specs.Prelude.{true, false, Some, None, Result, Ok, Err, get_or, slice_get}
use Rattle.std.proofs.Math.ListN.{drop_of_length-le}
use Rattle.std.proofs.lemmas.List.{append-nil}
use Rattle.std.proofs.lemmas.Option.{slice_get-get_or}
use Rattle.nt_value.specs.Operators.{binary_of, one_digit}
use Rattle.nt_value.specs.declared.digit.Digit.{Digit}
use Rattle.nt_value.specs.declared.digit.Digit.TheVariants.{One, X, Z, Zero}
use Rattle.nt_value.specs.declared.operator.Binary.{Binary}
use Rattle.nt_design.specs.Expressions.{by_choice, by_operator, is_decided}
use Rattle.nt_design.specs.Parts.{Value, merged, one, only, test_of}
use Rattle.nt_design.specs.Turns.{Timed, Timing, all_of, and_then, by_two, pick}
use Rattle.nt_design.specs.declared.env.Stop.{Stop}
use Rattle.nt_design.specs.declared.env.Stop.TheVariants.{TooLong, OutOfMemory}
use Rattle.nt_values.specs.Tells.{Tells}

pub told_by : {A : Type 0} (most : ℕ) (m n : Timed A) (r : Result (A × ℕ) Stop) → m ≡ n → Tells most n r → Tells most m r
told_by most m n r e h = subst (λ m. Tells most m r) (sym e) h

-- fewer turns are no more than more
pub more_turns : {A : Type 0} (few most : ℕ) (m : Timed A) (r : Result (A × ℕ) Stop) → few ≤ most → Tells few m r → Tells most m r
more_turns few most m (Ok p) h t = (t.0, omega (arith, h, t.1))
more_turns few most m (Err TooLong) h t = t
more_turns few most m (Err (OutOfMemory e)) h t = tt

-- what stops the first part stops the whole
pub stops : {A B : Type 0} (few most : ℕ) (o : Timed B) (m : Timed A) (go : A → ℕ → Timed B) (e : Stop) → o ≡ and_then m go → Tells few m (Err e) → Tells most o (Err e)
stops few most o m go TooLong is h = is ∙ ap (λ m. and_then m go) h
stops few most o m go (OutOfMemory e) is h = tt

-- what follows the first part
pub follows : {A B : Type 0} (most l : ℕ) (o : Timed B) (m : Timed A) (go : A → ℕ → Timed B) (x : A) (r : Result (B × ℕ) Stop) → o ≡ and_then m go → m ≡ Some (x, l) → l ≤ most → Tells l (go x l) r → Tells most o r
follows most l o m go x r is h few t =
    told_by most o (go x l) r (is ∙ ap (λ m. and_then m go) h) (more_turns l most (go x l) r few t)

-- ---- operators and arms
pub decided_told : (o : Binary) (m n : Timing Value) (locals : List Value) (left most : ℕ) (x : Value) (l : ℕ) (v : Value) → m locals left ≡ Some (x, l) → l ≤ most → is_decided o (test_of x) ≡ true → v ≡ one (one_digit (only x).leaf.four (test_of x)) → Tells most (by_operator o m n locals left) (Ok (v, l))
decided_told o m n locals left most x l v h few on is = (rw (h, on, is) refl, few)

pub other_told : (o : Binary) (m n : Timing Value) (locals : List Value) (left most : ℕ) (x : Value) (l : ℕ) (r : Result (Value × ℕ) Stop) → m locals left ≡ Some (x, l) → l ≤ most → is_decided o (test_of x) ≡ false → Tells l (and_then (n locals l) (λ y k. Some (one (binary_of o (only x) (only y)), k))) r → Tells most (by_operator o m n locals left) r
other_told o m n locals left most x l r h few off t =
    more_turns l most (by_operator o m n locals left) r few (rw (h, off) t)

pub chosen : (m a b : Timing Value) (locals : List Value) (left most : ℕ) (t : Value) (l : ℕ) (d : Digit) (r : Result (Value × ℕ) Stop) → m locals left ≡ Some (t, l) → l ≤ most → test_of t ≡ d → Tells l (pick d (a locals l) (b locals l) (by_two merged a b locals l)) r → Tells most (by_choice m a b locals left) r
chosen m a b locals left most t l d r h few is rest =
    more_turns l most (by_choice m a b locals left) r few (rw (h, is) rest)

pub picks_third : {A : Type 0} (d : Digit) (a b c : A) → (d ≡ One → ⊥) → (d ≡ Zero → ⊥) → pick d a b c ≡ c
picks_third One a b c n m = absurd (n refl)
picks_third Zero a b c n m = absurd (m refl)
picks_third X a b c n m = refl
picks_third Z a b c n m = refl

-- ---- several expressions, one after the other
pub drop_item : {A : Type 0} (xs : List A) (i : ℕ) (x : A) → i < length xs → x ≡ get_or xs i x → drop i xs ≡ x ∷ drop (i + 1) xs
drop_item xs i x h e = rw (add-one, drop-cons xs i x h) (ap (λ y. y ∷ drop (suc i) xs) (sym e))

-- the rest gives what is left of the whole
abbrev pub Rest : {X A : Type 0} → (X → Timing A) → List X → List Value → ℕ → List A → List X → ℕ → Type 0
Rest f xs locals left found rest turns =
    all_of (map f xs) locals left ≡ and_then (all_of (map f rest) locals turns) (λ vs k. Some (found ++ vs, k))

module _ {X A : Type 0} (f : X → Timing A) (xs : List X) (locals : List Value) (left : ℕ) where
  pub item_stops : (most : ℕ) (found : List A) (i turns : ℕ) (x : X) (e : Stop) → i < length xs → x ≡ get_or xs i x → Rest f xs locals left found (drop i xs) turns → Tells turns (f x locals turns) (Err e) → Tells most (all_of (map f xs) locals left) (Err e)
  item_stops most found i turns x e h g so_far bad =
      stops turns most (all_of (map f xs) locals left) (all_of (map f (x ∷ drop (i + 1) xs)) locals turns) (λ vs k. Some (found ++ vs, k)) e
      (so_far ∙ ap (λ l. and_then (all_of (map f l) locals turns) (λ vs k. Some (found ++ vs, k))) (drop_item xs i x h g))
      (stops turns turns (all_of (map f (x ∷ drop (i + 1) xs)) locals turns) (f x locals turns) (λ v l. and_then (all_of (map f (drop (i + 1) xs)) locals l) (λ vs k. Some (v ∷ vs, k))) e refl bad)

  pub item_done : (found : List A) (i turns : ℕ) (x : X) (v : A) (l : ℕ) → i < length xs → x ≡ get_or xs i x → Rest f xs locals left found (drop i xs) turns → f x locals turns ≡ Some (v, l) → Rest f xs locals left (found ++ v ∷ []) (drop (i + 1) xs) l
  item_done found i turns x v l h g so_far good =
      so_far
      ∙ (ap (λ l. and_then (all_of (map f l) locals turns) (λ vs k. Some (found ++ vs, k))) (drop_item xs i x h g)
      ∙ (ap (λ m. and_then (and_then m (λ v l. and_then (all_of (map f (drop (i + 1) xs)) locals l) (λ vs k. Some (v ∷ vs, k)))) (λ vs k. Some (found ++ vs, k))) good
      ∙ moved (all_of (map f (drop (i + 1) xs)) locals l)))
    where
      moved : (m : Timed (List A)) → and_then (and_then m (λ vs k. Some (v ∷ vs, k))) (λ vs k. Some (found ++ vs, k)) ≡ and_then m (λ vs k. Some ((found ++ v ∷ []) ++ vs, k))
      moved None = refl
      moved (Some p) = ap (λ vs. Some (vs, p.1)) (sym (append_assoc found (v ∷ []) p.0))

  -- after the last one
  pub all_done : (found : List A) (i turns : ℕ) → length xs ≤ i → Rest f xs locals left found (drop i xs) turns → all_of (map f xs) locals left ≡ Some (found, turns)
  all_done found i turns h so_far =
      so_far
      ∙ (ap (λ l. and_then (all_of (map f l) locals turns) (λ vs k. Some (found ++ vs, k))) (drop_of_length-le xs h)
      ∙ ap (λ vs. Some (vs, turns)) (append-nil found))

-- before the first one
pub whole : {A : Type 0} (m : Timed (List A)) → m ≡ and_then m (λ vs k. Some ([] ++ vs, k))
whole None = refl
whole (Some p) = refl

pub got : {A : Type 0} (xs : List A) (i : ℕ) (x : A) → i < length xs → x ≡ get_or xs i x → slice_get xs i ≡ Some x
got xs i x h e = slice_get-get_or xs i x h ∙ ap (λ g. Some g) (sym e)
