-- The ascending order of a net's slots.
use Rattle.std.proofs.Common.{◌≡◌, ℕ, zero, suc, ◌+◌, ◌<◌, ◌≤◌, Bool, true, false, not, ◌&&◌, ◌||◌, ◌==◌, nat_lt, length, refl, ap, arith, eq-eqb, ne_eqb, lt-ltb}
use Rattle.std.specs.List.{range_with_len}
use Rattle.std.proofs.lemmas.Bool.{false≢true}
use Rattle.std.proofs.lemmas.List.FromFn.{length-range_with_len}
use Rattle.nt_design.specs.WellFormed.{IsDesign}
use Rattle.nt_design.specs.declared.object.Net.{Net}
use Rattle.nt_design.specs.declared.design.Design.{Design}
use Rattle.nt_semantics.specs.Same.{is_listed}
use Rattle.nt_semantics.specs.Step.{is_distinct, all_below, is_order}
use Rattle.std.proofs.Common.{slice_get, Some}

both : (a b : Bool) → a ≡ true → b ≡ true → (a && b) ≡ true
both true b p q = q
both false b p q = absurd (false≢true p)

range_below : (n a m : ℕ) → a + m ≤ n → all_below n (range_with_len a m) ≡ true
range_below n a zero h = refl
range_below n a (suc m) h =
    both (nat_lt a n) (all_below n (range_with_len (a + 1) m)) (lt-ltb a n (omega (arith, h))) (range_below n (a + 1) m (omega (arith, h)))

neither : (a b : Bool) → a ≡ false → b ≡ false → (a || b) ≡ false
neither true b p q = p
neither false b p q = q

not_in_range : (x a m : ℕ) → x < a → is_listed x (range_with_len a m) ≡ false
not_in_range x a zero h = refl
not_in_range x a (suc m) h =
    neither (x == a) (is_listed x (range_with_len (a + 1) m)) (ne_eqb x a (λ e. omega (arith, h, e))) (not_in_range x (a + 1) m (omega (arith, h)))

range_distinct : (a m : ℕ) → is_distinct (range_with_len a m) ≡ true
range_distinct a zero = refl
range_distinct a (suc m) =
    both (not (is_listed a (range_with_len (a + 1) m))) (is_distinct (range_with_len (a + 1) m)) (ap not (not_in_range a (a + 1) m (omega arith))) (range_distinct (a + 1) m)

pub range_is_order : (n : ℕ) → is_order n (range_with_len 0 n) ≡ true
range_is_order n =
    both _ _ (both _ _ (eq-eqb (length (range_with_len 0 n)) n (length-range_with_len 0 n)) (range_below n 0 n (omega arith))) (range_distinct 0 n)

pub few_slots : (d : Design) (n : ℕ) (net : Net) → IsDesign d → slice_get d.nets n ≡ Some net → length net.slots ≤ 1024
few_slots d n net is here = (is.nets n net here).few_drivers
