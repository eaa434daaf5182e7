-- Eight words are the ones at their places.
use Rattle.std.proofs.Common.{◌≡◌, ℕ, List, [], ◌∷◌, length, get_or, refl, sym, ◌∙◌, ap, arith, codes, decimal}
use Rattle.std.proofs.lemmas.Fmt.{decimal_digit}
use Rattle.nettype_sim.specs.Words.{AreRunWords, HasRunForm}

abbrev at : List (List ℕ) → ℕ → List ℕ
at ws i = get_or ws i []

rebuilt : (ws : List (List ℕ)) → length ws ≡ 8 → ws ≡ at ws 0 ∷ at ws 1 ∷ at ws 2 ∷ at ws 3 ∷ at ws 4 ∷ at ws 5 ∷ at ws 6 ∷ at ws 7 ∷ []
rebuilt ([]) h = absurd (omega (arith, h))
rebuilt (a ∷ []) h = absurd (omega (arith, h))
rebuilt (a ∷ b ∷ []) h = absurd (omega (arith, h))
rebuilt (a ∷ b ∷ c ∷ []) h = absurd (omega (arith, h))
rebuilt (a ∷ b ∷ c ∷ d ∷ []) h = absurd (omega (arith, h))
rebuilt (a ∷ b ∷ c ∷ d ∷ e ∷ []) h = absurd (omega (arith, h))
rebuilt (a ∷ b ∷ c ∷ d ∷ e ∷ f ∷ []) h = absurd (omega (arith, h))
rebuilt (a ∷ b ∷ c ∷ d ∷ e ∷ f ∷ g ∷ []) h = absurd (omega (arith, h))
rebuilt (a ∷ b ∷ c ∷ d ∷ e ∷ f ∷ g ∷ i ∷ []) h = refl
rebuilt (a ∷ b ∷ c ∷ d ∷ e ∷ f ∷ g ∷ i ∷ j ∷ ws) h = absurd (omega (arith, h))

pub run_words : (ws : List (List ℕ)) (file top : List ℕ) → length ws ≡ 8 → HasRunForm ws → file ≡ get_or ws 1 [] → top ≡ get_or ws 3 [] → ws ≡ codes "run" ∷ file ∷ codes "--top" ∷ top ∷ codes "--until" ∷ decimal 0 ∷ codes "--workers" ∷ codes "1" ∷ []
run_words ws file top h form is_file is_top =
    rebuilt ws h ∙ rw (form.0, form.1, form.2, form.3 ∙ sym (decimal_digit 0 (omega arith)), form.4, form.5, ← is_file, ← is_top) refl

pub form_of : (ws : List (List ℕ)) (file top : List ℕ) (until : ℕ) → AreRunWords ws file top until → HasRunForm ws
form_of ws file top until run = (
  word 0,
  word 2,
  word 4,
  word 5 ∙ ap decimal run.3 ∙ decimal_digit 0 (omega arith),
  word 6,
  word 7,
)
  where
    word : (i : ℕ) → at ws i ≡ at (codes "run" ∷ file ∷ codes "--top" ∷ top ∷ codes "--until" ∷ decimal until ∷ codes "--workers" ∷ codes "1" ∷ []) i
    word i = ap (λ (words : List (List ℕ)). at words i) run.0
