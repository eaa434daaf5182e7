-- What may take turns: something with the turns that are left after it, or nothing where it takes too many. A turn is a
-- call of a function or an iteration of a loop; that they are counted, and their limit, are this project's rules.
use Rattle.std.specs.Prelude.{ℕ, zero, suc, List, [], ◌∷◌, Option, Some, None}
use Rattle.nt_value.specs.declared.digit.Digit.{Digit}
use Rattle.nt_value.specs.declared.digit.Digit.TheVariants.{Zero, One, X, Z}
use Rattle.nt_design.specs.Parts.{Value}

abbrev pub Timed : Type 0 → Type 0
Timed A = Option (A × ℕ)

-- goes on with what came out
abbrev pub and_then : {A B : Type 0} → Timed A → (A → ℕ → Timed B) → Timed B
and_then None go = None
and_then (Some p) go = go p.0 p.1

-- takes one turn
abbrev pub spend : {A : Type 0} → ℕ → (ℕ → Timed A) → Timed A
spend zero go = None
spend (suc left) go = go left

-- one of three by a test that is true, false or unknown
abbrev pub pick : {A : Type 0} → Digit → A → A → A → A
pick One first second third = first
pick Zero first second third = second
pick X first second third = third
pick Z first second third = third

-- what comes out with given locals and turns
abbrev pub Timing : Type 0 → Type 0
Timing A = List Value → ℕ → Timed A

-- all of a list in order
abbrev pub all_of : {A : Type 0} → List (Timing A) → Timing (List A)
all_of [] locals left = Some ([], left)
all_of (m ∷ ms) locals left =
    and_then (m locals left) (λ x l. and_then (all_of ms locals l) (λ xs k. Some (x ∷ xs, k)))

-- a function of what comes out
abbrev pub by_one : {A B : Type 0} → (A → B) → Timing A → Timing B
by_one f m locals left = and_then (m locals left) (λ x l. Some (f x, l))

-- a function of what comes out of two, the first before the second
abbrev pub by_two : {A B C : Type 0} → (A → B → C) → Timing A → Timing B → Timing C
by_two f m n locals left = and_then (m locals left) (λ x l. and_then (n locals l) (λ y k. Some (f x y, k)))
