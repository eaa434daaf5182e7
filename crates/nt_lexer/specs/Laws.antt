-- Laws of the cutting of a file into tokens.
use Rattle.std.specs.Prelude.{◌≡◌, ℕ, ◌+◌, ◌≤◌, List, [], ◌∷◌, ◌++◌, All, Some, length, slice_get, Result, Ok, Err}
use Rattle.std.specs.declared.vec.Vec.{Vec}
use Rattle.std.specs.declared.alloc.Global.{Global}
use Rattle.nt_diag.specs.declared.refusal.Fault.{Fault}
use Rattle.nt_diag.specs.declared.refusal.Refusal.{Refusal}
use Rattle.nt_lexer.specs.Bytes.{Bytes}
use Rattle.nt_lexer.specs.Cuts.{Lexes, Stuck, end_token}
use Rattle.nt_lexer.specs.Directives.{named}
use Rattle.nt_lexer.specs.Spellings.{words}
use Rattle.nt_lexer.specs.declared.kinds.Head.{Head}
use Rattle.nt_lexer.specs.declared.kinds.Word.{Word}
use Rattle.nt_lexer.specs.declared.kinds.Token.{Token}
use Rattle.nt_lexer.specs.declared.kinds.TokenKind.TheVariants as k

-- a file has one list of tokens or one first fault, and not both
pub record OneCut : Type 0 where
  pub tokens : {file : ℕ} {bytes : Bytes} {at : ℕ} {head one other : Head} {ts us : List Token} → Lexes file bytes at head ts one → Lexes file bytes at head us other
      → (ts ≡ us) × (one ≡ other)
  pub fault : {file : ℕ} {bytes : Bytes} {at : ℕ} {head : Head} {r q : Refusal} → Stuck file bytes at head r → Stuck file bytes at head q → r ≡ q
  pub apart : {file : ℕ} {bytes : Bytes} {at : ℕ} {head last : Head} {r : Refusal} {ts : List Token} → Stuck file bytes at head r → Lexes file bytes at head ts last → ⊥

-- tokens of one file, in the order of their offsets, from the first offset on and below the second
pub data Ascending (file : ℕ) : ℕ → ℕ → List Token → Type 0 where
  no_token : {i j : ℕ} → i ≤ j → Ascending file i j []
  token_then : {i j : ℕ} {ts : List Token} (t : Token) → t.at.file ≡ file → i ≤ t.at.offset → Ascending file (t.at.offset + 1) j ts
      → Ascending file i j (t ∷ ts)

abbrev pub NoEnd : Token → Type 0
NoEnd t = t.kind ≡ k.End → ⊥

-- the tokens of a file from an offset on
pub record IsList (file : ℕ) (bytes : Bytes) (at : ℕ) (head last : Head) (ts : List Token) : Type 0 where
  pub front : List Token
  pub ends : ts ≡ front ++ end_token file bytes ∷ []
  pub no_end : All NoEnd front
  pub ascends : Ascending file at (length bytes + 1) ts
  pub count : last.count ≡ head.count + length front

-- the last token and no other is the end, the tokens stand in order, and the count is that of all tokens but the end
abbrev pub EachList : Type 0
EachList = (file : ℕ) (bytes : Bytes) (at : ℕ) (head last : Head) (ts : List Token) → Lexes file bytes at head ts last → IsList file bytes at head last ts

-- so stand the tokens that are answered
abbrev pub Ascend : ℕ → Bytes → Result (Vec Token Global) Fault → Type 0
Ascend file bytes (Ok v) = Ascending file 0 (length bytes + 1) v.items
Ascend file bytes (Err f) = Unit {0}

-- each word of the list is read as itself
abbrev pub EachWord : Type 0
EachWord = (place : ℕ) (text : Bytes) (word : Word) → slice_get words place ≡ Some (text, word) → named words text ≡ Some word
