-- The tokens of a file end with the end, and stand in order.
use Rattle.std.proofs.Common.{◌≡◌, ℕ, ◌+◌, ◌<◌, ◌≤◌, Bool, true, false, if◌then◌else◌, List, [], ◌∷◌, ◌++◌, length, take, drop, Option, Some, None, refl, sym, ap, subst, ◌∙◌, append_assoc, arith, length-append, length-take}
use Rattle.std.specs.Prelude.{All, nat_lt, ◌==◌}
use Rattle.std.specs.List.{prefix_len}
use Rattle.std.proofs.lemmas.List.Elements.{All-nil, All-cons, All-append}
use Rattle.nt_diag.specs.declared.rule.Rule.TheVariants.{X1, X3, X4, X5, X7}
use Rattle.nt_lexer.specs.declared.kinds.Run.TheVariants as run
use Rattle.nt_value.specs.declared.digit.Digit.{Digit}
use Rattle.nt_value.specs.declared.unit.Unit.{Unit as TimeUnit}
use Rattle.nt_value.specs.declared.place.Place.{Place}
use Rattle.nt_lexer.specs.Bytes.{Bytes, sort, in_run}
use Rattle.nt_lexer.specs.Numbers.{decimal, decimal_literal, based_literal, digits_in, fits_word, based_front, filling_front}
use Rattle.nt_lexer.specs.Directives.{timescale, default_nettype, named}
use Rattle.nt_lexer.specs.Spellings.{marks}
use Rattle.nt_lexer.specs.Spellings.{words}
use Rattle.nt_lexer.specs.Pieces.{piece, name_len, number_len, begins_with, text_value, piece_by, name_piece, word_or_name, system_piece, system_by, number_piece, sized_or_decimal, decimal_piece, sized_piece, unsized_piece, unsized_or, filling_or, mark_or, first_mark, tick_piece, whole_text, text_by, text_piece, inside_len, block_by, closing, sign_piece, directive_by, directive_piece}
use Rattle.nt_lexer.specs.Cuts.{place_after, place_at, Outcome, goes, stops, outcome, next, end_token, Lexes, done, on, agrees}
use Rattle.nt_lexer.specs.Laws.{Ascending, no_token, token_then, NoEnd, IsList}
use Rattle.nt_lexer.specs.declared.kinds.Based.{Based}
use Rattle.nt_lexer.specs.declared.kinds.Mark.{Mark}
use Rattle.nt_lexer.specs.declared.kinds.Word.{Word}
use Rattle.nt_lexer.specs.declared.kinds.Sort.{Sort}
use Rattle.nt_lexer.specs.declared.kinds.Sort.TheVariants as s
use Rattle.nt_lexer.specs.declared.kinds.Head.{Head}
use Rattle.nt_lexer.specs.declared.kinds.Piece.{Piece}
use Rattle.nt_lexer.specs.declared.kinds.Piece.TheVariants as p
use Rattle.nt_lexer.specs.declared.kinds.Token.{Token}
use Rattle.nt_lexer.specs.declared.kinds.TokenKind.{TokenKind}
use Rattle.nt_lexer.specs.declared.kinds.TokenKind.TheVariants as k

abbrev no_end : TokenKind → Bool
no_end k.End = false
no_end _ = true

-- no piece is the end
abbrev fine : Piece → Bool
fine (p.Take n kind) = no_end kind
fine _ = true

either : (t : Bool) (x y : Piece) → fine x ≡ true → fine y ≡ true → fine (if t then x else y) ≡ true
either true x y e f = e
either false x y e f = f

name_fine : (text : Bytes) (n : ℕ) (o : Option Word) → fine (p.Take n (word_or_name text o)) ≡ true
name_fine text n (Some w) = refl
name_fine text n None = refl

system_fine : (x : Sort) (text : Bytes) → fine (system_by x text) ≡ true
system_fine s.Letter text = either (nat_lt 256 (name_len text)) (p.Wrong X4 0) (p.Take (1 + name_len text) (k.System (take (name_len text) text))) refl refl
system_fine s.Blank text = refl
system_fine s.Digit text = refl
system_fine s.Dollar text = refl
system_fine s.Quote text = refl
system_fine s.Tick text = refl
system_fine s.Grave text = refl
system_fine s.Sign text = refl
system_fine s.Bad text = refl

dollar_fine : (text : Bytes) → fine (system_piece text) ≡ true
unfolding system_piece
dollar_fine [] = refl
dollar_fine (b ∷ bs) = system_fine (sort b) (b ∷ bs)

number_fine : (len : ℕ) (digits rest : Bytes) (o : Option Based) → fine (sized_or_decimal len digits rest o) ≡ true
unfolding decimal_piece sized_piece
number_fine len digits rest None = either (nat_lt 2147483647 (decimal digits)) (p.Wrong X3 0) (p.Take len (k.Number (decimal_literal (decimal digits)))) refl refl
number_fine len digits rest (Some based) =
    let good : Piece = p.Take (len + (based.before + based.len)) (k.Number (based_literal (decimal digits) true based rest)) in
    either (nat_lt 64 (decimal digits)) (p.Wrong X3 0) (if decimal digits == 0 then p.Wrong X3 0 else good) refl (either (decimal digits == 0) (p.Wrong X3 0) good refl refl)

mark_fine : (o : Option (Mark × ℕ)) (other : Piece) → fine other ≡ true → fine (mark_or o other) ≡ true
mark_fine (Some m) other e = refl
mark_fine None other e = e

filling_fine : (o : Option Digit) (other : Piece) → fine other ≡ true → fine (filling_or o other) ≡ true
filling_fine (Some d) other e = refl
filling_fine None other e = e

tick_fine : (o : Option Based) (text : Bytes) → fine (unsized_or o text) ≡ true
unfolding unsized_piece
tick_fine (Some based) text =
    either (fits_word based.radix (digits_in based text)) (p.Take (based.before + based.len) (k.Number (based_literal 32 false based text))) (p.Wrong X3 0) refl refl
tick_fine None text = filling_fine (filling_front text) (mark_or (first_mark marks text) (p.Wrong X3 0)) (mark_fine (first_mark marks text) (p.Wrong X3 0) refl)

text_fine : (text : Bytes) (o : Option ℕ) → fine (text_by text o) ≡ true
unfolding whole_text
text_fine text None = refl
text_fine text (Some n) =
    let inside : Bytes = take n text in
    either (nat_lt (prefix_len (in_run run.Text) inside) (length inside)) (p.Wrong X1 (1 + prefix_len (in_run run.Text) inside)) (p.Take (length inside + 2) (k.Text (text_value false inside))) refl refl

block_fine : (o : Option ℕ) → fine (block_by o) ≡ true
block_fine None = refl
block_fine (Some n) = refl

directive_fine : (o : Option (TimeUnit × ℕ)) (q : Option ℕ) → fine (directive_by o q) ≡ true
directive_fine (Some u) q = refl
directive_fine None (Some n) = refl
directive_fine None None = refl

by_fine : (x : Sort) (b : ℕ) (bs : Bytes) → fine (piece_by x b bs) ≡ true
unfolding name_piece number_piece tick_piece text_piece sign_piece directive_piece
by_fine s.Blank b bs = refl
by_fine s.Letter b bs =
    let text : Bytes = b ∷ bs in
    let word : Option Word = named words (take (name_len text) text) in
    either (nat_lt 256 (name_len text)) (p.Wrong X4 0) (p.Take (name_len text) (word_or_name (take (name_len text) text) word)) refl (name_fine (take (name_len text) text) (name_len text) word)
by_fine s.Digit b bs =
    let text : Bytes = b ∷ bs in
    number_fine (number_len text) (take (number_len text) text) (drop (number_len text) text) (based_front (drop (number_len text) text))
by_fine s.Dollar b bs = dollar_fine bs
by_fine s.Quote b bs = text_fine bs (inside_len false bs)
by_fine s.Tick b bs = tick_fine (based_front (b ∷ bs)) (b ∷ bs)
by_fine s.Grave b bs = directive_fine (timescale (b ∷ bs)) (default_nettype (b ∷ bs))
by_fine s.Sign b bs =
    let text : Bytes = b ∷ bs in
    let block : Piece = block_by (closing (drop 2 text)) in
    let mark : Piece = mark_or (first_mark marks text) (p.Wrong X1 0) in
    either (begins_with 47 47 text) (p.Skip (2 + prefix_len (in_run run.Line) (drop 2 text))) (if begins_with 47 42 text then block else mark) refl
    (either (begins_with 47 42 text) block mark (block_fine (closing (drop 2 text))) (mark_fine (first_mark marks text) (p.Wrong X1 0) refl))
by_fine s.Bad b bs = refl

piece_fine : (text : Bytes) → fine (piece text) ≡ true
unfolding piece
piece_fine [] = refl
piece_fine (b ∷ bs) = by_fine (sort b) b bs

-- what one piece adds
record Adds (at : Place) (head after : Head) (one : List Token) : Type 0 where
  none : All NoEnd one
  here : (n j : ℕ) (ts : List Token) → at.offset < n → Ascending at.file n j ts → Ascending at.file at.offset j (one ++ ts)
  count : after.count ≡ head.count + length one

lower : {file j : ℕ} (m n : ℕ) (ts : List Token) → m ≤ n → Ascending file n j ts → Ascending file m j ts
lower m n ts le (no_token within) = no_token (omega (arith, le, within))
lower m n ts le (token_then t file from rest) = token_then t file (omega (arith, le, from)) rest

abbrev AddsBy : Place → Head → Outcome → Type 0
AddsBy at head (goes n after one) = Adds at head after one
AddsBy at head (stops rule n) = Unit {0}

adds_if : (t : Bool) (at : Place) (head : Head) (x y : Outcome) → AddsBy at head x → AddsBy at head y → AddsBy at head (if t then x else y)
adds_if true at head x y a b = a
adds_if false at head x y a b = b

nothing : (at : Place) (head after : Head) → after.count ≡ head.count → Adds at head after []
nothing at head after e = record { none = All-nil NoEnd; here = λ n j ts lt a. lower at.offset n ts (omega arith) a; count = omega (arith, e) }

token_adds : (at : Place) (head after : Head) (kind : TokenKind) → no_end kind ≡ true → after.count ≡ head.count + 1 → Adds at head after (record { kind = kind; at = at } ∷ [])
token_adds at head after kind f e = record {
  none = All-cons NoEnd (record { kind = kind; at = at }) [] (λ is. let bad : no_end k.End ≡ true = ap no_end (sym is) ∙ f in cc) (All-nil NoEnd);
  here = λ n j ts lt a. token_then (record { kind = kind; at = at }) refl (omega arith) (lower (at.offset + 1) n ts (omega arith) a);
  count = e;
}

adds : (head : Head) (at : Place) (x : Piece) → fine x ≡ true → AddsBy at head (outcome head at x)
unfolding outcome
adds head at (p.Skip n) f = nothing at head head refl
adds head at (p.Scale n unit) f =
    adds_if (agrees head.unit unit) at head (goes n (record { unit = Some unit; count = head.count }) []) (stops X5 0) (nothing at head (record { unit = Some unit; count = head.count }) refl) tt
adds head at (p.Take n kind) f =
    let after : Head = record { unit = head.unit; count = head.count + 1 } in
    adds_if (nat_lt head.count 1000000) at head (goes n after (record { kind = kind; at = at } ∷ [])) (stops X7 0) (token_adds at head after kind f refl) tt
adds head at (p.Wrong rule n) f = tt

place_offset : (file : ℕ) (bytes : Bytes) (at : ℕ) → at ≤ length bytes → (place_at file bytes at).offset ≡ at
unfolding place_after
place_offset file bytes at le = omega (arith, length-take at bytes)

place_file : (file : ℕ) (bytes : Bytes) (at : ℕ) → (place_at file bytes at).file ≡ file
unfolding place_after
place_file file bytes at = refl

next_adds : (file : ℕ) (bytes : Bytes) (at : ℕ) (head : Head) (o : Outcome) → next file bytes at head ≡ o → AddsBy (place_at file bytes at) head o
next_adds file bytes at head o e = subst (AddsBy (place_at file bytes at) head) e (adds head (place_at file bytes at) (piece (drop at bytes)) (piece_fine (drop at bytes)))

pub each : {file : ℕ} {bytes : Bytes} {at : ℕ} {head last : Head} {ts : List Token} → Lexes file bytes at head ts last → IsList file bytes at head last ts
each {file = file} {bytes = bytes} {at = at} {head = head} (done e) = record {
  front = [];
  ends = refl;
  no_end = All-nil NoEnd;
  ascends =
      let end : (place_at file bytes (length bytes)).offset ≡ length bytes = place_offset file bytes (length bytes) (omega arith) in
      token_then (end_token file bytes) (place_file file bytes (length bytes)) (omega (arith, e, end)) (no_token (omega (arith, end)));
  count = omega arith;
}
each {file = file} {bytes = bytes} {at = at} {head = head} (on {n = n} {after = after} {one = one} {rest = rest} lt some e l) =
    let i = each l in
    let a : Adds (place_at file bytes at) head after one = next_adds file bytes at head (goes n after one) e in
    let same : (place_at file bytes at).offset ≡ at = place_offset file bytes at (omega arith) in
    record {
      front = one ++ i.front;
      ends = ap (λ xs. one ++ xs) i.ends ∙ sym (append_assoc one i.front (end_token file bytes ∷ []));
      no_end = All-append NoEnd one i.front a.none i.no_end;
      ascends =
          let in_file : Ascending (place_at file bytes at).file (at + n) (length bytes + 1) rest = subst (λ f. Ascending f (at + n) (length bytes + 1) rest) (sym (place_file file bytes at)) i.ascends in
          subst (λ f. Ascending f at (length bytes + 1) (one ++ rest)) (place_file file bytes at)
          (subst (λ m. Ascending (place_at file bytes at).file m (length bytes + 1) (one ++ rest)) same (a.here (at + n) (length bytes + 1) rest (omega (arith, same, some)) in_file));
      count = omega (arith, i.count, a.count, length-append one i.front);
    }
