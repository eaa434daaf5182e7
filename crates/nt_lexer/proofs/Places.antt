-- Places in a file, byte by byte.
use Rattle.std.proofs.Common.{◌≡◌, ℕ, ◌+◌, Bool, true, false, cond, not, [], ◌∷◌, ◌++◌, length, take, reverse, sym, ap, ◌∙◌, arith, length-append}
use Rattle.std.specs.Prelude.{◌==◌}
use Rattle.std.specs.List.{prefix_len, count_by}
use Rattle.std.proofs.lemmas.Bool.{ne_eqb, eq-eqb}
use Rattle.std.proofs.lemmas.List.Sums.{sum_by-append}
use Rattle.std.proofs.lemmas.List.{reverse-append, append-nil}
use Rattle.nt_value.specs.declared.place.Place.{Place}
use Rattle.nt_lexer.specs.Bytes.{Bytes}
use Rattle.nt_lexer.specs.Cuts.{is_end, is_inside, place_after}
use Rattle.nt_lexer.specs.Steps.{Moved}

count_snoc : (p : ℕ → Bool) (xs : Bytes) (b : ℕ) → count_by p (xs ++ b ∷ []) ≡ count_by p xs + (0 + cond (p b) 1 0)
count_snoc p xs b = sum_by-append (λ x. cond (p x) 1 0) xs (b ∷ [])

abbrev at_place : ℕ → ℕ → ℕ → ℕ → Place
at_place file offset line column = record { file = file; offset = offset; line = line; column = column }

same_place : (file o o' l l' c c' : ℕ) → o ≡ o' → l ≡ l' → c ≡ c' → at_place file o l c ≡ at_place file o' l' c'
same_place file o o' l l' c c' eo el ec = ap (λ x. at_place file x l c) eo ∙ ap (λ x. at_place file o' x c) el ∙ ap (λ x. at_place file o' l' x) ec

reverse_snoc : (xs : Bytes) (b : ℕ) → reverse (xs ++ b ∷ []) ≡ b ∷ reverse xs
reverse_snoc xs b = reverse-append xs (b ∷ [])

snoc_len : (xs : Bytes) (b : ℕ) → length xs + 1 ≡ length (xs ++ b ∷ [])
snoc_len xs b = sym (length-append xs (b ∷ []))

pub moved_end : (at : Place) (b : ℕ) → b ≡ 10 → Moved at (b ∷ []) (at_place at.file (at.offset + 1) (at.line + 1) 1)
unfolding place_after
moved_end at b e file before is =
    let t : (b == 10) ≡ true = eq-eqb b 10 e in
    let line : 1 + count_by is_end before + 1 ≡ 1 + count_by is_end (before ++ b ∷ []) = omega (arith, count_snoc is_end before b, ap {B = ℕ} (λ u. cond u 1 0) t) in
    let column : 1 ≡ 1 + prefix_len is_inside (reverse (before ++ b ∷ [])) =
    ap {B = ℕ} (λ (u : Bool). 1 + cond (not u) (1 + prefix_len is_inside (reverse before)) 0) (sym t) ∙ ap {B = ℕ} (λ xs. 1 + prefix_len is_inside xs) (sym (reverse_snoc before b)) in
    ap (λ (q : Place). at_place q.file (q.offset + 1) (q.line + 1) 1) is ∙ same_place file _ _ _ _ _ _ (snoc_len before b) line column

pub moved_inside : (at : Place) (b : ℕ) → (b ≡ 10 → ⊥) → Moved at (b ∷ []) (at_place at.file (at.offset + 1) at.line (at.column + 1))
unfolding place_after
moved_inside at b ne file before is =
    let t : (b == 10) ≡ false = ne_eqb b 10 ne in
    let line : 1 + count_by is_end before ≡ 1 + count_by is_end (before ++ b ∷ []) = omega (arith, count_snoc is_end before b, ap {B = ℕ} (λ u. cond u 1 0) t) in
    let more : 1 + prefix_len is_inside (reverse before) + 1 ≡ 1 + (1 + prefix_len is_inside (reverse before)) = omega arith in
    let column : 1 + prefix_len is_inside (reverse before) + 1 ≡ 1 + prefix_len is_inside (reverse (before ++ b ∷ [])) =
    more ∙ ap {B = ℕ} (λ (u : Bool). 1 + cond (not u) (1 + prefix_len is_inside (reverse before)) 0) (sym t) ∙ ap {B = ℕ} (λ xs. 1 + prefix_len is_inside xs) (sym (reverse_snoc before b)) in
    ap (λ (q : Place). at_place q.file (q.offset + 1) q.line (q.column + 1)) is ∙ same_place file _ _ _ _ _ _ (snoc_len before b) line column

pub moved_none : (at : Place) (text : Bytes) → Moved at (take 0 text) at
moved_none at text file before is = is ∙ ap (place_after file) (sym (append-nil before))
