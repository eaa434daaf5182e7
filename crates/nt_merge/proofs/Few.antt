-- How many drivers a net has where no assignment has a fault; that there is one first fault.
use Rattle.std.proofs.Common.{◌≡◌, ℕ, suc, zero, ◌+◌, ◌<◌, ◌≤◌, Bool, eqb, List, length, ap, ◌∙◌, arith, inl, inr}
use Rattle.std.proofs.lemmas.Bool.{cases_eq, cases_lt, eq-eqb, ne_eqb}
use Rattle.std.proofs.lemmas.List.{length_push}
use Rattle.nt_merge.specs.declared.drivers.DriverFault.{DriverFault}
use Rattle.nt_merge.specs.declared.drivers.DriverFault.TheVariants as fault
use Rattle.nt_merge.specs.Drivers.{class_of, drivers_within, earlier_drivers, IsFault, second, too_many, OneFault, FewDrivers}
use Rattle.nt_merge.proofs.Counting.{more_yes, more_no}

-- where no assignment of a class comes after so many, there are no more
at_most : (least driven : List ℕ) (class most : ℕ) → ((at : ℕ) → at < length driven → class_of least driven at ≡ class → length (drivers_within least driven at class) ≡ most → ⊥)
    → (n : ℕ) → n ≤ length driven → length (drivers_within least driven n class) ≤ most
at_most least driven class most never zero le = omega arith
at_most least driven class most never (suc n) le =
    let before : length (drivers_within least driven n class) ≤ most = at_most least driven class most never n (omega (arith, le)) in
    let next : suc n ≡ n + 1 = omega arith in
    let same = ap (λ (m : ℕ). length (drivers_within least driven m class)) next in
    let p = λ (at : ℕ). eqb (class_of least driven at) class in
    elim (cases_eq (class_of least driven n) class) [
      | inl e ↦ let more = ap length (more_yes p n (eq-eqb (class_of least driven n) class e)) ∙ length_push (drivers_within least driven n class) n in
          let short : length (drivers_within least driven n class) ≡ most → ⊥ = never n (omega (arith, le)) e in omega (arith, same, more, short, before)
      | inr ne ↦ let more = ap length (more_no p n (ne_eqb (class_of least driven n) class ne)) in omega (arith, same, more, before)
    ]

pub few : FewDrivers
few least driven resolved none class = (
  at_most least driven class 1024 (λ at lt e is. none at (fault.TooMany at) (too_many at lt (ap (λ c. length (drivers_within least driven at c)) e ∙ is))) (length driven) (omega arith),
  λ single. at_most least driven class 1 (λ at lt e is. none at (fault.Second at) (second at lt (single at lt e) (ap (λ c. length (drivers_within least driven at c)) e ∙ is))) (length driven) (omega arith),
)

one_at : {least driven : List ℕ} {resolved : List Bool} {i j : ℕ} {f g : DriverFault} → IsFault least driven resolved i f → IsFault least driven resolved j g → i ≡ j → f ≡ g
one_at (second a _ _ _) (second b _ _ _) e = ap fault.Second e
one_at (too_many a _ _) (too_many b _ _) e = ap fault.TooMany e
one_at {least = least} {driven = driven} (second a _ _ p) (too_many b _ q) e = let r = ap (earlier_drivers least driven) e in absurd (omega (arith, p, q, r))
one_at {least = least} {driven = driven} (too_many a _ p) (second b _ _ q) e = let r = ap (earlier_drivers least driven) e in absurd (omega (arith, p, q, r))

pub one : OneFault
one least driven resolved f g a b = elim (cases_eq a.at b.at) [
  | inl e ↦ one_at a.is b.is e
  | inr ne ↦ elim (cases_lt a.at b.at) [
    | inl lt ↦ absurd (b.none_before a.at f lt a.is)
    | inr le ↦ absurd (a.none_before b.at g (omega (arith, le, ne)) b.is)
  ]
]
