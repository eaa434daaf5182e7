-- The ranges of words are those of their table, letter by letter.
use Rattle.std.proofs.Common.{◌≡◌, ℕ, ◌≤◌, List, [], ◌∷◌, ◌&&◌, true, false, refl, sym, ap, ◌∙◌, arith}
use Rattle.std.specs.Prelude.{nat_le}
use Rattle.std.specs.Char.{is_ascii_lowercase}
use Rattle.std.proofs.lemmas.Bool.{true≢false, le-leb}
use Rattle.nt_lexer.specs.Spellings.{words}
use Rattle.nt_lexer.proofs.Ranges.{all_fit, range_at, all_between, no_range}
use Rattle.nt_lexer.proofs.pieces.word_range.Goals as goal

abbrev letters : List (ℕ × ℕ)
letters = (0, 8) ∷ (8, 14) ∷ (14, 23) ∷ (23, 26) ∷ (26, 38) ∷ (38, 45) ∷ (45, 47) ∷ (0, 0) ∷ (47, 56) ∷ (56, 57) ∷ (0, 0) ∷ (57, 60) ∷ (60, 62) ∷ (62, 66) ∷ (66, 68) ∷ (68, 77) ∷ (0, 0) ∷ (77, 85) ∷ (85, 95) ∷ (95, 105) ∷ (105, 109) ∷ (109, 112) ∷ (112, 118) ∷ (0, 0) ∷ (0, 0) ∷ (0, 0) ∷ []

letters_fit : all_fit words 97 letters ≡ true
unfolding words
letters_fit = refl

pub returns-then-is_ascii_lowercase : goal.returns-then-is_ascii_lowercase
returns-then-is_ascii_lowercase c = range_at words 97 c.args.first c.from.result letters letters_fit (omega (arith, c.from.ensures, c.if-is_ascii_lowercase.ensures.cases)) (omega (arith, c.from.ensures, c.if-is_ascii_lowercase.ensures.cases))

all_lower : all_between 97 122 words ≡ true
unfolding words
all_lower = refl

not_lower : (b : ℕ) → 97 ≤ b → b ≤ 122 → is_ascii_lowercase b ≡ false → ⊥
not_lower b least most e = true≢false (sym (ap (λ t. t && nat_le b 122) (le-leb 97 b least) ∙ le-leb b 122 most) ∙ e)

pub returns-else-is_ascii_lowercase : goal.returns-else-is_ascii_lowercase
returns-else-is_ascii_lowercase c = no_range 97 122 c.args.first words (λ least most. not_lower c.args.first least most (sym c.is_ascii_lowercase.ensures.value ∙ c.if-is_ascii_lowercase.false)) all_lower
