-- Each piece by its first byte: where nothing is opened, it is the longest lexeme.
use Rattle.std.proofs.Common.{◌≡◌, ℕ, zero, suc, ◌+◌, ◌≤◌, Bool, true, false, not, ◌&&◌, ◌||◌, nat_lt, nat_le, if◌then◌else◌, [], ◌∷◌, length, take, drop, Option, Some, None, inl, inr, refl, sym, ap, subst, ◌∙◌, arith}
use Rattle.std.specs.Prelude.{◌==◌}
use Rattle.std.specs.Char.{is_ascii_alphabetic, is_ascii_digit}
use Rattle.std.specs.List.{prefix_len}
use Rattle.std.proofs.lemmas.Bool.{eqb-true, ltb-true}
use Rattle.nt_value.specs.declared.digit.Digit.{Digit}
use Rattle.nt_diag.specs.declared.rule.Rule.TheVariants.{X1, X3, X4}
use Rattle.nt_lexer.specs.Bytes.{Bytes, is_blank, sort, in_run}
use Rattle.nt_lexer.specs.Numbers.{decimal, decimal_literal, based_literal, digits_in, fits_word, based_front, filling_front}
use Rattle.nt_lexer.specs.Directives.{named}
use Rattle.nt_lexer.specs.Spellings.{marks}
use Rattle.nt_lexer.specs.Spellings.{words}
use Rattle.nt_lexer.specs.Pieces.{piece, piece_by, name_piece, name_len, number_len, word_or_name, system_piece, system_by, number_piece, sized_or_decimal, decimal_piece, sized_piece, unsized_piece, unsized_or, filling_or, mark_or, first_mark, tick_piece, block_by, closing, begins_with, sign_piece}
use Rattle.nt_lexer.specs.Lexemes.{IsName, Longest, is_opened, ByLongest, LongestMatch}
use Rattle.nt_lexer.specs.declared.kinds.Based.{Based}
use Rattle.nt_lexer.specs.declared.kinds.Mark.{Mark}
use Rattle.nt_lexer.specs.declared.kinds.Sort.{Sort}
use Rattle.nt_lexer.specs.declared.kinds.Sort.TheVariants as s
use Rattle.nt_lexer.specs.declared.kinds.Run.TheVariants as run
use Rattle.nt_lexer.specs.declared.kinds.Piece.{Piece}
use Rattle.nt_lexer.specs.declared.kinds.Piece.TheVariants as p
use Rattle.nt_lexer.specs.declared.kinds.TokenKind.{TokenKind}
use Rattle.nt_lexer.specs.declared.kinds.TokenKind.TheVariants as k
use Rattle.nt_lexer.proofs.Fronts.{or_false, UnsizedBy, unsized_law}
use Rattle.nt_lexer.proofs.Longest.{white_longest, name_longest, system_longest, system_none, bad_none}
use Rattle.nt_lexer.proofs.Matches.{digits, decimal_longest, sized_longest, tick_based, tick_filling, tick_only, mark_longest, mark_none, sign_only, line_longest}

-- ---- the bytes of some sorts

sorted : Bool → Bool → Bool → Bool → Bool → Bool → Bool → Bool → Sort
sorted t1 t2 t3 t4 t5 t6 t7 t8 =
    if t1 then s.Blank else if t2 then s.Letter else if t3 then s.Digit else if t4 then s.Dollar else if t5 then s.Quote else if t6 then s.Tick else if t7 then s.Grave else if t8 then s.Sign else s.Bad

dollar_by : (t1 t2 t3 t4 t5 t6 t7 t8 : Bool) → sorted t1 t2 t3 t4 t5 t6 t7 t8 ≡ s.Dollar → t4 ≡ true
unfolding sorted
dollar_by true t2 t3 t4 t5 t6 t7 t8 e = absurd cc
dollar_by false true t3 t4 t5 t6 t7 t8 e = absurd cc
dollar_by false false true t4 t5 t6 t7 t8 e = absurd cc
dollar_by false false false true t5 t6 t7 t8 e = refl
dollar_by false false false false true t6 t7 t8 e = absurd cc
dollar_by false false false false false true t7 t8 e = absurd cc
dollar_by false false false false false false true t8 e = absurd cc
dollar_by false false false false false false false true e = absurd cc
dollar_by false false false false false false false false e = absurd cc

quote_by : (t1 t2 t3 t4 t5 t6 t7 t8 : Bool) → sorted t1 t2 t3 t4 t5 t6 t7 t8 ≡ s.Quote → t5 ≡ true
unfolding sorted
quote_by true t2 t3 t4 t5 t6 t7 t8 e = absurd cc
quote_by false true t3 t4 t5 t6 t7 t8 e = absurd cc
quote_by false false true t4 t5 t6 t7 t8 e = absurd cc
quote_by false false false true t5 t6 t7 t8 e = absurd cc
quote_by false false false false true t6 t7 t8 e = refl
quote_by false false false false false true t7 t8 e = absurd cc
quote_by false false false false false false true t8 e = absurd cc
quote_by false false false false false false false true e = absurd cc
quote_by false false false false false false false false e = absurd cc

grave_by : (t1 t2 t3 t4 t5 t6 t7 t8 : Bool) → sorted t1 t2 t3 t4 t5 t6 t7 t8 ≡ s.Grave → t7 ≡ true
unfolding sorted
grave_by true t2 t3 t4 t5 t6 t7 t8 e = absurd cc
grave_by false true t3 t4 t5 t6 t7 t8 e = absurd cc
grave_by false false true t4 t5 t6 t7 t8 e = absurd cc
grave_by false false false true t5 t6 t7 t8 e = absurd cc
grave_by false false false false true t6 t7 t8 e = absurd cc
grave_by false false false false false true t7 t8 e = absurd cc
grave_by false false false false false false true t8 e = refl
grave_by false false false false false false false true e = absurd cc
grave_by false false false false false false false false e = absurd cc

dollar_is : (b : ℕ) → sort b ≡ s.Dollar → (b == 36) ≡ true
unfolding sort sorted
dollar_is b e = dollar_by (is_blank b) (is_ascii_alphabetic b || b == 95) (is_ascii_digit b) (b == 36) (b == 34) (b == 39) (b == 96) (nat_le 33 b && nat_le b 126 && not (b == 92)) e

quote_is : (b : ℕ) → sort b ≡ s.Quote → (b == 34) ≡ true
unfolding sort sorted
quote_is b e = quote_by (is_blank b) (is_ascii_alphabetic b || b == 95) (is_ascii_digit b) (b == 36) (b == 34) (b == 39) (b == 96) (nat_le 33 b && nat_le b 126 && not (b == 92)) e

grave_is : (b : ℕ) → sort b ≡ s.Grave → (b == 96) ≡ true
unfolding sort sorted
grave_is b e = grave_by (is_blank b) (is_ascii_alphabetic b || b == 95) (is_ascii_digit b) (b == 36) (b == 34) (b == 39) (b == 96) (nat_le 33 b && nat_le b 126 && not (b == 92)) e

-- ---- pieces

too_long : (text : Bytes) (n len : ℕ) (kind : TokenKind) (t : Bool) → nat_lt 256 len ≡ t → len ≤ n → Longest text n → ByLongest text (if t then p.Wrong X4 0 else p.Take n kind)
too_long text n len kind true e le l = (n, l, omega (arith, ltb-true 256 len e, le))
too_long text n len kind false e le l = l

wide : (text : Bytes) (n : ℕ) (kind : TokenKind) (t : Bool) → Longest text n → ByLongest text (if t then p.Wrong X3 0 else p.Take n kind)
wide text n kind true l = inr (n, l)
wide text n kind false l = l

wider : (text : Bytes) (other : Piece) (n : ℕ) (t : Bool) → Longest text n → ByLongest text other → ByLongest text (if t then p.Wrong X3 0 else other)
wider text other n true l x = inr (n, l)
wider text other n false l x = x

number_by : (b : ℕ) (bs ds rest : Bytes) (o : Option Based) → sort b ≡ s.Digit → UnsizedBy (drop (digits bs) bs) o → ByLongest (b ∷ bs) (sized_or_decimal (number_len (b ∷ bs)) ds rest o)
unfolding decimal_piece sized_piece
number_by b bs ds rest None e law = wide (b ∷ bs) (number_len (b ∷ bs)) (k.Number (decimal_literal (decimal ds))) (nat_lt 2147483647 (decimal ds)) (decimal_longest b bs e law)
number_by b bs ds rest (Some q) e law =
    let n : ℕ = number_len (b ∷ bs) + (q.before + q.len) in
    let l : Longest (b ∷ bs) n = sized_longest b bs q e law in
    let kind : TokenKind = k.Number (based_literal (decimal ds) true q rest) in
    wider (b ∷ bs) (if decimal ds == 0 then p.Wrong X3 0 else p.Take n kind) n (nat_lt 64 (decimal ds)) l (wide (b ∷ bs) n kind (decimal ds == 0) l)

no_name : (b : ℕ) (bs : Bytes) → (sort b ≡ s.Letter → ⊥) → (m : ℕ) → m ≤ length (b ∷ bs) → IsName (take m (b ∷ bs)) → ⊥
no_name b bs other zero le x = x
no_name b bs other (suc j) le x = other x.0

no_name_end : (m : ℕ) → m ≤ 0 → IsName (take m []) → ⊥
no_name_end zero le x = x
no_name_end (suc j) le x = absurd (omega (arith, le))

system_sort : (x : Sort) (a b : ℕ) (bs : Bytes) → sort a ≡ s.Dollar → sort b ≡ x → ByLongest (a ∷ b ∷ bs) (system_by x (b ∷ bs))
system_sort s.Letter a b bs e f =
    too_long (a ∷ b ∷ bs) (1 + name_len (b ∷ bs)) (name_len (b ∷ bs)) (k.System (take (name_len (b ∷ bs)) (b ∷ bs))) (nat_lt 256 (name_len (b ∷ bs))) refl (omega arith)
    (system_longest a b bs e (eqb-true a 36 (dollar_is a e)) f)
system_sort s.Blank a b bs e f = system_none a (b ∷ bs) e (no_name b bs (λ g. let bad = sym f ∙ g in cc))
system_sort s.Digit a b bs e f = system_none a (b ∷ bs) e (no_name b bs (λ g. let bad = sym f ∙ g in cc))
system_sort s.Dollar a b bs e f = system_none a (b ∷ bs) e (no_name b bs (λ g. let bad = sym f ∙ g in cc))
system_sort s.Quote a b bs e f = system_none a (b ∷ bs) e (no_name b bs (λ g. let bad = sym f ∙ g in cc))
system_sort s.Tick a b bs e f = system_none a (b ∷ bs) e (no_name b bs (λ g. let bad = sym f ∙ g in cc))
system_sort s.Grave a b bs e f = system_none a (b ∷ bs) e (no_name b bs (λ g. let bad = sym f ∙ g in cc))
system_sort s.Sign a b bs e f = system_none a (b ∷ bs) e (no_name b bs (λ g. let bad = sym f ∙ g in cc))
system_sort s.Bad a b bs e f = system_none a (b ∷ bs) e (no_name b bs (λ g. let bad = sym f ∙ g in cc))

dollar_case : (a : ℕ) (bs : Bytes) → sort a ≡ s.Dollar → ByLongest (a ∷ bs) (system_piece bs)
unfolding system_piece
dollar_case a [] e = system_none a [] e no_name_end
dollar_case a (b ∷ bs) e = system_sort (sort b) a b bs e refl

tick_marks : (b : ℕ) (bs : Bytes) (o : Option (Mark × ℕ)) → first_mark marks (b ∷ bs) ≡ o → sort b ≡ s.Tick → UnsizedBy (b ∷ bs) None → filling_front (b ∷ bs) ≡ None
    → ByLongest (b ∷ bs) (mark_or o (p.Wrong X3 0))
tick_marks b bs (Some found) g e law f = mark_longest (b ∷ bs) found g (tick_only b bs e law f)
tick_marks b bs None g e law f = inl (mark_none (b ∷ bs) g (tick_only b bs e law f))

tick_fills : (b : ℕ) (bs : Bytes) (o : Option Digit) → filling_front (b ∷ bs) ≡ o → sort b ≡ s.Tick → UnsizedBy (b ∷ bs) None
    → ByLongest (b ∷ bs) (filling_or o (mark_or (first_mark marks (b ∷ bs)) (p.Wrong X3 0)))
tick_fills b bs (Some digit) f e law = tick_filling b bs digit e law f
tick_fills b bs None f e law = tick_marks b bs (first_mark marks (b ∷ bs)) refl e law f

tick_by : (b : ℕ) (bs : Bytes) (o : Option Based) → sort b ≡ s.Tick → UnsizedBy (b ∷ bs) o → ByLongest (b ∷ bs) (unsized_or o (b ∷ bs))
unfolding unsized_piece
tick_by b bs (Some q) e law = by (fits_word q.radix (digits_in q (b ∷ bs)))
  where
    by : (t : Bool) → ByLongest (b ∷ bs) (if t then p.Take (q.before + q.len) (k.Number (based_literal 32 false q (b ∷ bs))) else p.Wrong X3 0)
    by true = tick_based b bs q e law
    by false = inr (q.before + q.len, tick_based b bs q e law)
tick_by b bs None e law = tick_fills b bs (filling_front (b ∷ bs)) refl e law

sign_marks : (b : ℕ) (bs : Bytes) (o : Option (Mark × ℕ)) → first_mark marks (b ∷ bs) ≡ o → sort b ≡ s.Sign → begins_with 47 47 (b ∷ bs) ≡ false → ByLongest (b ∷ bs) (mark_or o (p.Wrong X1 0))
sign_marks b bs (Some found) g e f = mark_longest (b ∷ bs) found g (sign_only b bs e f)
sign_marks b bs None g e f = mark_none (b ∷ bs) g (sign_only b bs e f)

sign_by : (b : ℕ) (bs : Bytes) (block : Piece) (t u : Bool) → begins_with 47 47 (b ∷ bs) ≡ t → u ≡ false → sort b ≡ s.Sign
    → ByLongest (b ∷ bs) (if t then p.Skip (2 + prefix_len (in_run run.Line) (drop 2 (b ∷ bs))) else if u then block else mark_or (first_mark marks (b ∷ bs)) (p.Wrong X1 0))
sign_by b bs block true u f g e = line_longest b bs e f
sign_by b bs block false true f g e = absurd cc
sign_by b bs block false false f g e = sign_marks b bs (first_mark marks (b ∷ bs)) refl e f

by_sort : (x : Sort) (b : ℕ) (bs : Bytes) → sort b ≡ x → is_opened (b ∷ bs) ≡ false → ByLongest (b ∷ bs) (piece_by x b bs)
unfolding name_piece number_piece tick_piece sign_piece
by_sort s.Blank b bs e o = white_longest b bs e
by_sort s.Letter b bs e o =
    let text : Bytes = b ∷ bs in
    too_long text (name_len text) (name_len text) (word_or_name (take (name_len text) text) (named words (take (name_len text) text))) (nat_lt 256 (name_len text)) refl (omega arith) (name_longest b bs e)
by_sort s.Digit b bs e o =
    let text : Bytes = b ∷ bs in
    let n : ℕ = number_len text in
    let one : n ≡ suc (digits bs) = omega arith in
    let law : UnsizedBy (drop (digits bs) bs) (based_front (drop n text)) = subst (UnsizedBy (drop (digits bs) bs)) (sym (ap (λ i. based_front (drop i text)) one)) (unsized_law (drop (digits bs) bs)) in
    number_by b bs (take n text) (drop n text) (based_front (drop n text)) e law
by_sort s.Dollar b bs e o = dollar_case b bs e
by_sort s.Quote b bs e o = absurd (let bad = sym (or_false (b == 34) (b == 96) (or_false (b == 34 || b == 96) (begins_with 47 42 (b ∷ bs)) o).0).0 ∙ quote_is b e in cc)
by_sort s.Tick b bs e o = tick_by b bs (based_front (b ∷ bs)) e (unsized_law (b ∷ bs))
by_sort s.Grave b bs e o = absurd (let bad = sym (or_false (b == 34) (b == 96) (or_false (b == 34 || b == 96) (begins_with 47 42 (b ∷ bs)) o).0).1 ∙ grave_is b e in cc)
by_sort s.Sign b bs e o =
    let text : Bytes = b ∷ bs in
    sign_by b bs (block_by (closing (drop 2 text))) (begins_with 47 47 text) (begins_with 47 42 text) refl (or_false (b == 34 || b == 96) (begins_with 47 42 text) o).1 e
by_sort s.Bad b bs e o = bad_none b bs e

pub by_longest : LongestMatch
unfolding piece
by_longest [] o = absurd cc
by_longest (b ∷ bs) o = by_sort (sort b) b bs refl o
