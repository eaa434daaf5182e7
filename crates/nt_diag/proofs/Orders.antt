-- The order of refusals is total.
use Rattle.std.proofs.Common.{◌≡◌, ℕ, ◌≤◌, ◌⊎◌, inl, inr, List, [], ◌∷◌, refl, sym, ap, ◌∙◌, arith}
use Rattle.std.specs.Prelude.{get_or}
use Rattle.std.proofs.lemmas.Bool.{cases_lt}
use Rattle.nt_diag.specs.Laws.{IsSameFault, OneRefusal}
use Rattle.nt_diag.specs.Order.{LessOr, Found, FoundNoLater, Phase, phase_number, rule_number, Lengths, Tokens, Syntax, Tasks, Shared, Declarations, Bodies, Joins, Drivers}
use Rattle.nt_diag.specs.declared.rule.Rule.{Rule}
use Rattle.nt_diag.specs.declared.rule.Rule.TheVariants.{X1, X2, X3, X4, X5, X6, X7, S1, S2, S3, T1, T2, T3, T4, T5, T6, T7, T8, T9, T10, T11, T12, T13, T14, T15, T16, T17, T18, N1, N2, N3, N4, N5, N6, N7, P1, P2, P3, P4, P5, P6, P7, P8, M1, M2, K1, K2, K3, K4, K5, K6}

-- ---- rules and phases by number
abbrev rules_in_order : List Rule
rules_in_order = X1 ∷ X1 ∷ X2 ∷ X3 ∷ X4 ∷ X5 ∷ X6 ∷ X7 ∷ S1 ∷ S2 ∷ S3 ∷ T1 ∷ T2 ∷ T3 ∷ T4 ∷ T5 ∷ T6 ∷ T7 ∷ T8 ∷ T9 ∷ T10 ∷ T11 ∷ T12 ∷ T13 ∷ T14 ∷ T15 ∷ T16 ∷ T17 ∷ T18 ∷ N1 ∷ N2 ∷ N3 ∷ N4 ∷ N5 ∷ N6 ∷ N7 ∷ P1 ∷ P2 ∷ P3 ∷ P4 ∷ P5 ∷ P6 ∷ P7 ∷ P8 ∷ M1 ∷ M2 ∷ K1 ∷ K2 ∷ K3 ∷ K4 ∷ K5 ∷ K6 ∷ []

rule_back : (r : Rule) → get_or rules_in_order (rule_number r) X1 ≡ r
rule_back X1 = refl
rule_back X2 = refl
rule_back X3 = refl
rule_back X4 = refl
rule_back X5 = refl
rule_back X6 = refl
rule_back X7 = refl
rule_back S1 = refl
rule_back S2 = refl
rule_back S3 = refl
rule_back T1 = refl
rule_back T2 = refl
rule_back T3 = refl
rule_back T4 = refl
rule_back T5 = refl
rule_back T6 = refl
rule_back T7 = refl
rule_back T8 = refl
rule_back T9 = refl
rule_back T10 = refl
rule_back T11 = refl
rule_back T12 = refl
rule_back T13 = refl
rule_back T14 = refl
rule_back T15 = refl
rule_back T16 = refl
rule_back T17 = refl
rule_back T18 = refl
rule_back N1 = refl
rule_back N2 = refl
rule_back N3 = refl
rule_back N4 = refl
rule_back N5 = refl
rule_back N6 = refl
rule_back N7 = refl
rule_back P1 = refl
rule_back P2 = refl
rule_back P3 = refl
rule_back P4 = refl
rule_back P5 = refl
rule_back P6 = refl
rule_back P7 = refl
rule_back P8 = refl
rule_back M1 = refl
rule_back M2 = refl
rule_back K1 = refl
rule_back K2 = refl
rule_back K3 = refl
rule_back K4 = refl
rule_back K5 = refl
rule_back K6 = refl

one_rule : (r s : Rule) → rule_number r ≡ rule_number s → r ≡ s
one_rule r s e = sym (rule_back r) ∙ ap (λ n. get_or rules_in_order n X1) e ∙ rule_back s

abbrev phases_in_order : List Phase
phases_in_order = Lengths ∷ Lengths ∷ Tokens ∷ Syntax ∷ Tasks ∷ Shared ∷ Declarations ∷ Bodies ∷ Joins ∷ Drivers ∷ []

phase_back : (p : Phase) → get_or phases_in_order (phase_number p) Lengths ≡ p
phase_back Lengths = refl
phase_back Tokens = refl
phase_back Syntax = refl
phase_back Tasks = refl
phase_back Shared = refl
phase_back Declarations = refl
phase_back Bodies = refl
phase_back Joins = refl
phase_back Drivers = refl

one_phase : (p q : Phase) → phase_number p ≡ phase_number q → p ≡ q
one_phase p q e = sym (phase_back p) ∙ ap (λ n. get_or phases_in_order n Lengths) e ∙ phase_back q

-- ---- one step of the order
less_or_total : (x y : ℕ) (P Q : Type 0) → P ⊎ Q → LessOr x y P ⊎ LessOr y x Q
less_or_total x y P Q h =
    elim (cases_lt x y) [
      | inl lt ↦ inl (inl lt)
      | inr ge ↦ elim (cases_lt y x) [
        | inl gt ↦ inr (inl gt)
        | inr le ↦ let e : x ≡ y = omega arith in elim h [
          | inl p ↦ inl (inr (e, p))
          | inr q ↦ inr (inr (sym e, q))
        ]
      ]
    ]

less_or_chain : (x y z : ℕ) (P Q R : Type 0) → (P → Q → R) → LessOr x y P → LessOr y z Q → LessOr x z R
less_or_chain x y z P Q R f (inl a) (inl b) = inl (omega arith)
less_or_chain x y z P Q R f (inl a) (inr b) = let e = b.0 in inl (omega arith)
less_or_chain x y z P Q R f (inr a) (inl b) = let e = a.0 in inl (omega arith)
less_or_chain x y z P Q R f (inr a) (inr b) = inr (a.0 ∙ b.0, f a.1 b.1)

less_or_both : (x y : ℕ) (P Q : Type 0) → LessOr x y P → LessOr y x Q → (x ≡ y) × P × Q
less_or_both x y P Q (inl a) (inl b) = absurd (omega arith)
less_or_both x y P Q (inl a) (inr b) = let e = b.0 in absurd (omega arith)
less_or_both x y P Q (inr a) (inl b) = let e = a.0 in absurd (omega arith)
less_or_both x y P Q (inr a) (inr b) = (a.0, a.1, b.1)

le_total : (x y : ℕ) → (x ≤ y) ⊎ (y ≤ x)
le_total x y = elim (cases_lt x y) [
  | inl lt ↦ inl (omega arith)
  | inr ge ↦ inr (omega arith)
]

-- ---- the order
total : (f g : Found) → FoundNoLater f g ⊎ FoundNoLater g f
total f g =
    less_or_total (phase_number f.phase) (phase_number g.phase) _ _
    (less_or_total f.refusal.place.file g.refusal.place.file _ _
    (less_or_total f.refusal.place.offset g.refusal.place.offset _ _
    (le_total (rule_number f.refusal.rule) (rule_number g.refusal.rule))))

chain : (f g h : Found) → FoundNoLater f g → FoundNoLater g h → FoundNoLater f h
chain f g h =
    less_or_chain (phase_number f.phase) (phase_number g.phase) (phase_number h.phase) _ _ _
    (less_or_chain f.refusal.place.file g.refusal.place.file h.refusal.place.file _ _ _
    (less_or_chain f.refusal.place.offset g.refusal.place.offset h.refusal.place.offset _ _ _
    (λ p q. omega arith)))

both : (f g : Found) → FoundNoLater f g → FoundNoLater g f → IsSameFault f g
both f g p q =
    let phases = less_or_both (phase_number f.phase) (phase_number g.phase) _ _ p q in
    let files = less_or_both f.refusal.place.file g.refusal.place.file _ _ phases.1 phases.2 in
    let offsets = less_or_both f.refusal.place.offset g.refusal.place.offset _ _ files.1 files.2 in
    let low = offsets.1 in
    let high = offsets.2 in
    record {
      phase = one_phase f.phase g.phase phases.0;
      rule = one_rule f.refusal.rule g.refusal.rule (omega arith);
      file = files.0;
      offset = offsets.0;
    }

pub one_refusal_holds : OneRefusal
one_refusal_holds =
    record {
      total = total;
      chain = chain;
      one = both;
    }
