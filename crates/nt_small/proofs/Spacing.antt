-- The pieces of a text are the only tokens that it may be read as.
use Rattle.std.proofs.Common.{◌≡◌, inl, inr, ◌⊎◌, ℕ, Bool, true, false, ◌&&◌, List, [], ◌∷◌, ◌++◌, refl, sym, ◌∙◌, ap, subst}
use Rattle.std.specs.List.{list_all}
use Rattle.std.proofs.lemmas.Bool.{false≢true}
use Rattle.nt_small.specs.Grammar.{is_white, is_word_byte, is_word, starts_white, AreApart, Spaced}
use Rattle.nt_small.specs.Pieces.{pieces_of, starts_word, join_front}
use Rattle.nt_small.proofs.Cutting.{bool_cases, word_not_white, joined, alone, skipped}

pub and_left : (a b : Bool) → a && b ≡ true → a ≡ true
and_left true b h = refl
and_left false b h = absurd (false≢true h)

pub and_right : (a b : Bool) → a && b ≡ true → b ≡ true
and_right true b h = h
and_right false b h = absurd (false≢true h)

white_not_word : (b : ℕ) → is_white b ≡ true → is_word_byte b ≡ false
white_not_word b white =
    elim (bool_cases (is_word_byte b)) [
      | inl w ↦ absurd (false≢true (sym (word_not_white b w) ∙ white))
      | inr mark ↦ mark
    ]

-- a token is one or more bytes of a word, or one other byte that is not white
abbrev pub IsWordToken : List ℕ → Type 0
IsWordToken [] = ⊥
IsWordToken (b ∷ bs) = (is_word_byte b ≡ true) × (list_all is_word_byte bs ≡ true)

abbrev pub IsMarkToken : List ℕ → Type 0
IsMarkToken [] = ⊥
IsMarkToken (b ∷ []) = (is_white b ≡ false) × (is_word_byte b ≡ false)
IsMarkToken (b ∷ c ∷ bs) = ⊥

abbrev pub AreTokens : List (List ℕ) → Type 0
AreTokens [] = Unit {0}
AreTokens (t ∷ ts) = (IsWordToken t ⊎ IsMarkToken t) × AreTokens ts

gap_skipped : (gap text : List ℕ) → list_all is_white gap ≡ true → pieces_of (gap ++ text) ≡ pieces_of text
gap_skipped [] text h = refl
gap_skipped (b ∷ gap) text h =
    skipped b (gap ++ text) (and_left _ _ h) ∙ gap_skipped gap text (and_right _ _ h)

word_front : (b : ℕ) (t rest : List ℕ) → is_word_byte b ≡ true → list_all is_word_byte t ≡ true → starts_word rest ≡ false → pieces_of ((b ∷ t) ++ rest) ≡ (b ∷ t) ∷ pieces_of rest
word_front b [] rest w all mark = alone b rest (word_not_white b w) (ap (λ v. v && starts_word rest) w ∙ mark)
word_front b (c ∷ t) rest w all mark =
    joined b ((c ∷ t) ++ rest) (word_not_white b w) w (and_left _ _ all) ∙ ap (λ (l : List (List ℕ)). join_front b l) (word_front c t rest (and_left _ _ all) (and_right _ _ all) mark)

mark_front : (b : ℕ) (rest : List ℕ) → is_white b ≡ false → is_word_byte b ≡ false → pieces_of ((b ∷ []) ++ rest) ≡ (b ∷ []) ∷ pieces_of rest
mark_front b rest white mark = alone b rest white (ap (λ v. v && starts_word rest) mark)

-- behind a word comes no byte of a word
no_word_behind : (ts : List (List ℕ)) (t rest : List ℕ) → is_word t ≡ true → AreTokens ts → AreApart t ts rest → Spaced ts rest → starts_word rest ≡ false
no_word_behind [] t [] w tokens apart h = refl
no_word_behind [] t (b ∷ bs) w tokens apart h = white_not_word b (and_left _ _ h)
no_word_behind (u ∷ us) t rest w tokens apart ([], next, white, is, later, spaced) =
    subst (λ (l : List ℕ). starts_word l ≡ false) (sym is) (at_token u tokens.0 (λ v. subst (λ (l : List ℕ). starts_white l ≡ true) is (apart w v)))
  where
    at_token : (v : List ℕ) → IsWordToken v ⊎ IsMarkToken v → (is_word v ≡ true → starts_white (v ++ next) ≡ true) → starts_word (v ++ next) ≡ false
    at_token [] (inl none) white = absurd none
    at_token [] (inr none) white = absurd none
    at_token (b ∷ bs) token white =
        elim (bool_cases (is_word_byte b)) [
          | inl v ↦ absurd (false≢true (sym (word_not_white b v) ∙ white v))
          | inr mark ↦ mark
        ]
no_word_behind (u ∷ us) t rest w tokens apart (g ∷ gap, next, white, is, later, spaced) =
    subst (λ (l : List ℕ). starts_word l ≡ false) (sym is) (white_not_word g (and_left _ _ white))

-- a text of tokens has no other pieces
pub pieces-spaced : (ts : List (List ℕ)) (text : List ℕ) → AreTokens ts → Spaced ts text → pieces_of text ≡ ts
pieces-spaced [] text tokens h = all_white text h
  where
    all_white : (l : List ℕ) → list_all is_white l ≡ true → pieces_of l ≡ []
    all_white [] white = refl
    all_white (b ∷ l) white = skipped b l (and_left _ _ white) ∙ all_white l (and_right _ _ white)
pieces-spaced (t ∷ ts) text tokens (gap, rest, white, is, apart, spaced) =
    ap pieces_of is ∙ gap_skipped gap (t ++ rest) white ∙ front t tokens.0 apart ∙ ap (λ (l : List (List ℕ)). t ∷ l) (pieces-spaced ts rest tokens.1 spaced)
  where
    front : (u : List ℕ) → IsWordToken u ⊎ IsMarkToken u → AreApart u ts rest → pieces_of (u ++ rest) ≡ u ∷ pieces_of rest
    front [] (inl none) later = absurd none
    front [] (inr none) later = absurd none
    front (b ∷ u) (inl word) later = word_front b u rest word.0 word.1 (no_word_behind ts (b ∷ u) rest word.0 tokens.1 later spaced)
    front (b ∷ []) (inr mark) later = mark_front b rest mark.0 mark.1
    front (b ∷ c ∷ u) (inr none) later = absurd none

-- the first of the pieces begins with b
abbrev FirstBegins : ℕ → List (List ℕ) → Type 0
FirstBegins b [] = Unit {0}
FirstBegins b (p ∷ ps) = is_word p ≡ is_word_byte b

-- a piece that a text begins with begins as the text does
first_piece : (bs u : List ℕ) (us : List (List ℕ)) → pieces_of bs ≡ u ∷ us → starts_white bs ≡ false → is_word u ≡ starts_word bs
first_piece [] u us is white = cc
first_piece (b ∷ bs) u us is white = begins (b ∷ bs) (pieces_of (b ∷ bs)) (front (bool_cases (is_word_byte b && starts_word bs))) u us is
  where
    joins : (ps : List (List ℕ)) → FirstBegins b (join_front b ps)
    joins [] = refl
    joins (p ∷ ps) = refl

    front : (is_word_byte b && starts_word bs ≡ true) ⊎ (is_word_byte b && starts_word bs ≡ false) → FirstBegins b (pieces_of (b ∷ bs))
    front (inl both) = subst (FirstBegins b) (sym (joined b bs white (and_left _ _ both) (and_right _ _ both))) (joins (pieces_of bs))
    front (inr apart) = subst (FirstBegins b) (sym (alone b bs white apart)) refl

    begins : (text : List ℕ) (ps : List (List ℕ)) → FirstBegins b ps → (v : List ℕ) (vs : List (List ℕ)) → ps ≡ v ∷ vs → is_word v ≡ is_word_byte b
    begins text ps so v vs same = subst (FirstBegins b) same so

apart_of : (t : List ℕ) (ps : List (List ℕ)) (bs : List ℕ) → pieces_of bs ≡ ps → (is_word t ≡ true → starts_word bs ≡ false) → AreApart t ps bs
apart_of t [] bs is mark = tt
apart_of t (u ∷ us) bs is mark = λ w v.
    elim (bool_cases (starts_white bs)) [
      | inl white ↦ white
      | inr black ↦ absurd (false≢true (sym (mark w) ∙ sym (first_piece bs u us is black) ∙ v))
    ]

spaced_white : (b : ℕ) (ts : List (List ℕ)) (text : List ℕ) → is_white b ≡ true → Spaced ts text → Spaced ts (b ∷ text)
spaced_white b [] text white h = ap (λ v. v && list_all is_white text) white ∙ h
spaced_white b (t ∷ ts) text white (gap, rest, all, is, apart, spaced) =
    (b ∷ gap, rest, ap (λ v. v && list_all is_white gap) white ∙ all, ap (λ (l : List ℕ). b ∷ l) is, apart, spaced)

spaced_alone : (b : ℕ) (bs : List ℕ) → is_word_byte b && starts_word bs ≡ false → Spaced (pieces_of bs) bs → Spaced ((b ∷ []) ∷ pieces_of bs) (b ∷ bs)
spaced_alone b bs single h = ([], bs, refl, refl, apart_of (b ∷ []) (pieces_of bs) bs refl (λ w. sym (ap (λ v. v && starts_word bs) w) ∙ single), h)

spaced_joined : (b : ℕ) (bs : List ℕ) (ps : List (List ℕ)) → pieces_of bs ≡ ps → starts_word bs ≡ true → Spaced ps bs → Spaced (join_front b ps) (b ∷ bs)
spaced_joined b [] [] is word h = absurd (false≢true word)
spaced_joined b (c ∷ bs) [] is word h = absurd (false≢true (sym (white_not_word c (and_left _ _ h)) ∙ word))
spaced_joined b bs (p ∷ ps) is word ([], rest, all, same, apart, spaced) =
    ([], rest, refl, ap (λ (l : List ℕ). b ∷ l) same, later ps apart, spaced)
  where
    black : (l : List ℕ) → starts_word l ≡ true → starts_white l ≡ false
    black [] w = refl
    black (c ∷ l) w = word_not_white c w

    later : (qs : List (List ℕ)) → AreApart p qs rest → AreApart (b ∷ p) qs rest
    later [] a = tt
    later (u ∷ us) a = λ w v. a (first_piece bs p ps is (black bs word) ∙ word) v
spaced_joined b bs (p ∷ ps) is word (g ∷ gap, rest, all, same, apart, spaced) =
    absurd (false≢true (sym (white_not_word g (and_left _ _ all)) ∙ subst (λ (l : List ℕ). starts_word l ≡ true) same word))

-- a text is its pieces, with white space between them
pub spaced-pieces : (text : List ℕ) → Spaced (pieces_of text) text
spaced-pieces [] = refl
spaced-pieces (b ∷ bs) =
    elim (bool_cases (is_white b)) [
      | inl white ↦ subst (λ (ps : List (List ℕ)). Spaced ps (b ∷ bs)) (sym (skipped b bs white)) (spaced_white b (pieces_of bs) bs white (spaced-pieces bs))
      | inr black ↦ elim (bool_cases (is_word_byte b && starts_word bs)) [
        | inl both ↦ subst (λ (ps : List (List ℕ)). Spaced ps (b ∷ bs)) (sym (joined b bs black (and_left _ _ both) (and_right _ _ both))) (spaced_joined b bs (pieces_of bs) refl (and_right _ _ both) (spaced-pieces bs))
        | inr single ↦ subst (λ (ps : List (List ℕ)). Spaced ps (b ∷ bs)) (sym (alone b bs black single)) (spaced_alone b bs single (spaced-pieces bs))
      ]
    ]
