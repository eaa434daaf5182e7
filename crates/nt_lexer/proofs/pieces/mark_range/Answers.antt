-- The ranges of marks are those of their table, byte by byte.
use Rattle.std.proofs.Common.{◌≡◌, ℕ, List, [], ◌∷◌, true, refl, arith}
use Rattle.nt_lexer.specs.Spellings.{marks}
use Rattle.nt_lexer.specs.Steps.{IsRange}
use Rattle.nt_lexer.proofs.Ranges.{all_fit, range_at}
use Rattle.nt_lexer.proofs.pieces.mark_range.Goals as goal

abbrev low : List (ℕ × ℕ)
low = (0, 3) ∷ (0, 0) ∷ (3, 4) ∷ (0, 0) ∷ (4, 5) ∷ (5, 7) ∷ (7, 8) ∷ (8, 9) ∷ (9, 10) ∷ (10, 11) ∷ (11, 14) ∷ (14, 15) ∷ (15, 18) ∷ (18, 19) ∷ (19, 20) ∷ []

low_fit : all_fit marks 33 low ≡ true
unfolding marks
low_fit = refl

abbrev middle : List (ℕ × ℕ)
middle = (20, 22) ∷ (22, 23) ∷ (23, 27) ∷ (27, 30) ∷ (30, 34) ∷ (34, 35) ∷ (35, 36) ∷ []

middle_fit : all_fit marks 58 middle ≡ true
unfolding marks
middle_fit = refl

abbrev high : List (ℕ × ℕ)
high = (36, 37) ∷ (0, 0) ∷ (37, 38) ∷ (38, 40) ∷ []

high_fit : all_fit marks 91 high ≡ true
unfolding marks
high_fit = refl

abbrev top : List (ℕ × ℕ)
top = (40, 41) ∷ (41, 43) ∷ (43, 44) ∷ (44, 48) ∷ []

top_fit : all_fit marks 123 top ≡ true
unfolding marks
top_fit = refl

pub returns-in-33-to-47 : goal.returns-in-33-to-47
returns-in-33-to-47 c = range_at marks 33 c.args.first c.from.result low low_fit (omega (arith, c.from.ensures, c.in-33-to-47)) (omega (arith, c.from.ensures, c.in-33-to-47))

pub returns-in-58-to-64 : goal.returns-in-58-to-64
returns-in-58-to-64 c = range_at marks 58 c.args.first c.from-in-58-to-64.result middle middle_fit (omega (arith, c.from-in-58-to-64.ensures, c.in-58-to-64)) (omega (arith, c.from-in-58-to-64.ensures, c.in-58-to-64))

pub returns-in-91-to-94 : goal.returns-in-91-to-94
returns-in-91-to-94 c = range_at marks 91 c.args.first c.from-in-91-to-94.result high high_fit (omega (arith, c.from-in-91-to-94.ensures, c.in-91-to-94)) (omega (arith, c.from-in-91-to-94.ensures, c.in-91-to-94))

pub returns-in-123-to-126 : goal.returns-in-123-to-126
returns-in-123-to-126 c = range_at marks 123 c.args.first c.from-in-123-to-126.result top top_fit (omega (arith, c.from-in-123-to-126.ensures, c.in-123-to-126)) (omega (arith, c.from-in-123-to-126.ensures, c.in-123-to-126))

everywhere : (b : ℕ) → IsRange marks b (0, 48)
unfolding marks
everywhere b = record { ordered = omega arith; inside = omega arith; before = refl; after = refl }

pub returns-in_default : goal.returns-in_default
returns-in_default c = everywhere c.args.first

pub returns-in_default-2 : goal.returns-in_default-2
returns-in_default-2 c = everywhere c.args.first

pub returns-in_default-3 : goal.returns-in_default-3
returns-in_default-3 c = everywhere c.args.first

pub returns-in_default-4 : goal.returns-in_default-4
returns-in_default-4 c = everywhere c.args.first

pub returns-in_default-5 : goal.returns-in_default-5
returns-in_default-5 c = everywhere c.args.first
