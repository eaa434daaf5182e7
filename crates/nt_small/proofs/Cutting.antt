-- How a text falls into pieces.
use Rattle.std.proofs.Common.{◌≡◌, inl, inr, ◌⊎◌, ℕ, suc, ◌≤◌, max, Bool, true, false, ◌&&◌, List, [], ◌∷◌, ◌++◌, length, get_or, append_assoc, take, drop, refl, sym, ◌∙◌, ap, arith}
use Rattle.std.proofs.lemmas.Bool.Decides.{nat_tests}
use Rattle.nt_small.specs.Grammar.{is_white, is_word_byte, is_letter, is_digit}
use Rattle.nt_small.specs.Pieces.{pieces_of, word_len, starts_word, join_front}

pub bool_cases : (t : Bool) → (t ≡ true) ⊎ (t ≡ false)
bool_cases true = inl refl
bool_cases false = inr refl

pub word_not_white : (b : ℕ) → is_word_byte b ≡ true → is_white b ≡ false
unfolding is_word_byte is_white is_letter is_digit
word_not_white b h = grind (arith, nat_tests)

word_len_more : (b : ℕ) (bs : List ℕ) → is_word_byte b ≡ true → word_len (b ∷ bs) ≡ suc (word_len bs)
word_len_more b bs w = rw w refl

word_len_none : (b : ℕ) (bs : List ℕ) → is_word_byte b ≡ false → word_len (b ∷ bs) ≡ 0
word_len_none b bs w = rw w refl

pub joined : (b : ℕ) (bs : List ℕ) → is_white b ≡ false → is_word_byte b ≡ true → starts_word bs ≡ true → pieces_of (b ∷ bs) ≡ join_front b (pieces_of bs)
joined b bs white w next = rw (white, w, next) refl

pub alone : (b : ℕ) (bs : List ℕ) → is_white b ≡ false → is_word_byte b && starts_word bs ≡ false → pieces_of (b ∷ bs) ≡ (b ∷ []) ∷ pieces_of bs
alone b bs white apart = rw (white, apart) refl

pub skipped : (b : ℕ) (bs : List ℕ) → is_white b ≡ true → pieces_of (b ∷ bs) ≡ pieces_of bs
skipped b bs white = rw white refl

-- the first n bytes, and the pieces of the rest
abbrev cut : ℕ → List ℕ → List (List ℕ)
cut n text = take n text ∷ pieces_of (drop n text)

pub word_step : (b : ℕ) (bs : List ℕ) → is_word_byte b ≡ true → pieces_of (b ∷ bs) ≡ cut (suc (word_len bs)) (b ∷ bs)
word_step b [] w = alone b [] (word_not_white b w) (ap (λ t. t && false) w)
word_step b (c ∷ cs) w =
    elim (bool_cases (is_word_byte c)) [
      | inl next ↦ joined b (c ∷ cs) (word_not_white b w) w next ∙ ap (λ (l : List (List ℕ)). join_front b l) (word_step c cs next) ∙ sym (ap (λ n. cut (suc n) (b ∷ c ∷ cs)) (word_len_more c cs next))
      | inr mark ↦ alone b (c ∷ cs) (word_not_white b w) (ap (λ t. t && is_word_byte c) w ∙ mark) ∙ sym (ap (λ n. cut (suc n) (b ∷ c ∷ cs)) (word_len_none c cs mark))
    ]

-- a text that does not begin with white space begins with a piece
pub piece_step : (b : ℕ) (bs : List ℕ) → is_white b ≡ false → pieces_of (b ∷ bs) ≡ cut (max (word_len (b ∷ bs)) 1) (b ∷ bs)
piece_step b bs white =
    elim (bool_cases (is_word_byte b)) [
      | inl w ↦ let e : max (word_len (b ∷ bs)) 1 ≡ suc (word_len bs) = omega (arith, word_len_more b bs w) in word_step b bs w ∙ sym (ap (λ n. cut n (b ∷ bs)) e)
      | inr mark ↦ let e : max (word_len (b ∷ bs)) 1 ≡ 1 = omega (arith, word_len_none b bs mark) in alone b bs white (ap (λ t. t && starts_word bs) mark) ∙ sym (ap (λ n. cut n (b ∷ bs)) e)
    ]

-- one piece more, from a text that does not begin with white space
pub piece_more : (text rest : List ℕ) (n : ℕ) (found more : List (List ℕ)) → 1 ≤ length rest → is_white (get_or rest 0 0) ≡ false → n ≡ max (word_len rest) 1 → found ++ pieces_of rest ≡ pieces_of text → more ≡ found ++ take n rest ∷ [] → more ++ pieces_of (drop n rest) ≡ pieces_of text
piece_more text [] n found more some white is so_far pushed = absurd (omega (arith, some))
piece_more text (b ∷ bs) n found more some white is so_far pushed =
    let here : pieces_of (b ∷ bs) ≡ cut n (b ∷ bs) = piece_step b bs white ∙ sym (ap (λ k. cut k (b ∷ bs)) is) in
    ap (λ (l : List (List ℕ)). l ++ pieces_of (drop n (b ∷ bs))) pushed ∙ append_assoc found (take n (b ∷ bs) ∷ []) (pieces_of (drop n (b ∷ bs))) ∙ ap (λ (l : List (List ℕ)). found ++ l) (sym here) ∙ so_far
