-- Texts as they are written and what they say (IEEE 1800-2017, 5.9).
use Rattle.std.specs.Prelude.{◌≡◌, ℕ, suc, true, false, ◌||◌, ◌==◌, [], ◌∷◌, ◌++◌, Some, length, take, drop}
use Rattle.nt_lexer.specs.Bytes.{Bytes}
use Rattle.nt_lexer.specs.Pieces.{escape_value, inside_len, is_escape, text_value}

-- what stands between the quotes, and what it says: `\n`, `\"` and `\\` say a line feed, a quote and a backslash, and any other byte,
-- which is no quote, line feed or backslash, says itself
pub data Says : Bytes → Bytes → Type 0 where
  nothing : Says [] []
  plain : {b : ℕ} {bs said : Bytes} → (b == 34 || b == 10) ≡ false → (b == 92) ≡ false → Says bs said → Says (b ∷ bs) (b ∷ said)
  escape : {b : ℕ} {bs said : Bytes} → is_escape b ≡ true → Says bs said → Says (92 ∷ b ∷ bs) (escape_value b ∷ said)

-- so many bytes stand before the closing quote
pub record Quoted (text : Bytes) (n : ℕ) : Type 0 where
  pub said : Bytes
  pub says : Says (take n text) said
  pub closes : drop n text ≡ 34 ∷ drop (suc n) text

-- a text is closed exactly where it is so written, and it says what is written
pub record EachText : Type 0 where
  pub taken : (inside said rest : Bytes) → Says inside said → (inside_len false (inside ++ 34 ∷ rest) ≡ Some (length inside)) × (text_value false inside ≡ said)
  pub quoted : (text : Bytes) (n : ℕ) → inside_len false text ≡ Some n → Quoted text n
