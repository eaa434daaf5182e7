-- What a loop and a `case` do, by one iteration or one item.
use Rattle.std.proofs.Common.{◌≡◌, ℕ, zero, suc, List, [], ◌∷◌, map, refl}
use Rattle.std.specs.Prelude.{true, false, if◌then◌else◌, Some, None, slice_set}
use Rattle.nt_design.specs.Expressions.{World, Calls, value_of}
use Rattle.nt_design.specs.Parts.{Value, int_value, is_same_value, test_of}
use Rattle.nt_design.specs.Statements.{Doing, each_of, first_arm, is_among, iterate, loop, loop_of, nothing, one_then, repeat_of}
use Rattle.nt_design.specs.Turns.{Timing, and_then, pick}
use Rattle.nt_design.specs.declared.tree.Tree.{Tree}

pub loop_is : (test : Timing Value) (step body : Doing) (locals : List Value) (left : ℕ) → loop test step body locals left ≡ loop_of (suc left) test step body locals left
unfolding loop
loop_is test step body locals left = refl

pub loop_none : (test : Timing Value) (step body : Doing) (locals : List Value) (left : ℕ) → loop_of zero test step body locals left ≡ None
unfolding loop_of
loop_none test step body locals left = refl

pub loop_more : (n : ℕ) (test : Timing Value) (step body : Doing) (locals : List Value) (left : ℕ) → loop_of (suc n) test step body locals left ≡ and_then (test locals left) (λ t l. pick (test_of t) (iterate body (one_then step (loop_of n test step body)) locals l) (nothing locals l) (nothing locals l))
unfolding loop_of
loop_more n test step body locals left = refl

pub repeat_none : (body : Doing) (locals : List Value) (left : ℕ) → repeat_of zero body locals left ≡ nothing locals left
unfolding repeat_of
repeat_none body locals left = refl

pub repeat_more : (n : ℕ) (body : Doing) (locals : List Value) (left : ℕ) → repeat_of (suc n) body locals left ≡ iterate body (repeat_of n body) locals left
unfolding repeat_of
repeat_more n body locals left = refl

pub each_none : (i : ℕ) (body : Doing) (locals : List Value) (left : ℕ) → each_of [] i body locals left ≡ nothing locals left
unfolding each_of
each_none i body locals left = refl

pub each_more : (index : ℕ) (indices : List ℕ) (i : ℕ) (body : Doing) (locals : List Value) (left : ℕ) → each_of (index ∷ indices) i body locals left ≡ iterate body (each_of indices i body) (slice_set locals i (int_value index)) left
unfolding each_of
each_more index indices i body locals left = refl

pub among_none : (test : Value) (locals : List Value) (left : ℕ) → is_among test [] locals left ≡ Some (false, left)
unfolding is_among
among_none test locals left = refl

pub among_more : (test : Value) (item : Timing Value) (items : List (Timing Value)) (locals : List Value) (left : ℕ) → is_among test (item ∷ items) locals left ≡ and_then (item locals left) (λ v l. if is_same_value test v then Some (true, l) else is_among test items locals l)
unfolding is_among
among_more test item items locals left = refl

pub arm_none : (calls : Calls) (world : World) (test : Value) (other : Doing) (locals : List Value) (left : ℕ) → first_arm calls world test [] other locals left ≡ other locals left
unfolding first_arm
arm_none calls world test other locals left = refl

pub arm_more : (calls : Calls) (world : World) (test : Value) (arm : List Tree × Doing) (arms : List (List Tree × Doing)) (other : Doing) (locals : List Value) (left : ℕ) → first_arm calls world test (arm ∷ arms) other locals left ≡ and_then (is_among test (map (value_of calls world) arm.0) locals left) (λ is l. if is then arm.1 locals l else first_arm calls world test arms other locals l)
unfolding first_arm
arm_more calls world test arm arms other locals left = refl
