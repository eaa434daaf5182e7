-- What tokens stand for in expressions.
use Rattle.std.specs.Prelude.{ℕ, Bool, true, false, not, List, [], ◌∷◌, if◌then◌else◌, Option, Some, None, codes}
use Rattle.std.specs.Str.{bytes_eq}
use Rattle.nt_value.specs.declared.place.Place.{Place}
use Rattle.nt_value.specs.declared.operator.Unary.{Unary}
use Rattle.nt_value.specs.declared.operator.Unary.TheVariants as u
use Rattle.nt_value.specs.declared.operator.Binary.{Binary}
use Rattle.nt_value.specs.declared.operator.Binary.TheVariants as b
use Rattle.nt_ast.specs.declared.expr.Key.{Key}
use Rattle.nt_ast.specs.declared.expr.Key.TheVariants as key
use Rattle.nt_lexer.specs.declared.kinds.Mark.{Mark}
use Rattle.nt_lexer.specs.declared.kinds.Mark.TheVariants as m
use Rattle.nt_lexer.specs.declared.kinds.Word.TheVariants as w
use Rattle.nt_lexer.specs.declared.kinds.TokenKind.{TokenKind}
use Rattle.nt_lexer.specs.declared.kinds.TokenKind.TheVariants as k
use Rattle.nt_lexer.specs.declared.kinds.Token.{Token}
use Rattle.nt_read_expr.specs.declared.list.Separator.{Separator}
use Rattle.nt_read_expr.specs.declared.list.Separator.TheVariants.{Comma, CommaOrWord}
use Rattle.nt_read_expr.specs.declared.front.System.{System}
use Rattle.nt_read_expr.specs.declared.front.System.TheVariants.{Time, Sign}

abbrev pub Tokens : Type 0
Tokens = List Token

-- The operator that a mark between two operands is (IEEE 1800-2017, 11.4, A.8.6). `<<<` is `<<`, and `^~` is `~^`.
abbrev pub binary_of : Mark → Option Binary
binary_of m.Star = Some b.Mul
binary_of m.Slash = Some b.Div
binary_of m.Percent = Some b.Rem
binary_of m.Plus = Some b.Add
binary_of m.Minus = Some b.Sub
binary_of m.ShiftLeft = Some b.Shl
binary_of m.ShiftRight = Some b.Shr
binary_of m.ArithmeticLeft = Some b.Shl
binary_of m.ArithmeticRight = Some b.Sshr
binary_of m.Less = Some b.Lt
binary_of m.LessEqual = Some b.Le
binary_of m.Greater = Some b.Gt
binary_of m.GreaterEqual = Some b.Ge
binary_of m.Equal = Some b.Eq
binary_of m.NotEqual = Some b.Ne
binary_of m.CaseEqual = Some b.CaseEq
binary_of m.NotCaseEqual = Some b.CaseNe
binary_of m.And = Some b.And
binary_of m.Xor = Some b.Xor
binary_of m.TildeXor = Some b.Xnor
binary_of m.XorTilde = Some b.Xnor
binary_of m.Or = Some b.Or
binary_of m.AndAnd = Some b.LogicalAnd
binary_of m.OrOr = Some b.LogicalOr
binary_of _ = None

-- The levels of these operators, the tightest first (IEEE 1800-2017, 11.3.2, table 11-2).
abbrev pub level : Binary → ℕ
level b.Mul = 1
level b.Div = 1
level b.Rem = 1
level b.Add = 2
level b.Sub = 2
level b.Shl = 3
level b.Shr = 3
level b.Sshr = 3
level b.Lt = 4
level b.Le = 4
level b.Gt = 4
level b.Ge = 4
level b.Eq = 5
level b.Ne = 5
level b.CaseEq = 5
level b.CaseNe = 5
level b.And = 6
level b.Xor = 7
level b.Xnor = 7
level b.Or = 8
level b.LogicalAnd = 9
level b.LogicalOr = 10

-- The operator that a mark before its operand is (IEEE 1800-2017, 11.4.3, 11.4.7 to 11.4.9, A.8.6).
abbrev pub unary_of : Mark → Option Unary
unary_of m.Plus = Some u.Plus
unary_of m.Minus = Some u.Minus
unary_of m.Not = Some u.LogicalNot
unary_of m.Tilde = Some u.Not
unary_of m.And = Some u.RedAnd
unary_of m.TildeAnd = Some u.RedNand
unary_of m.Or = Some u.RedOr
unary_of m.TildeOr = Some u.RedNor
unary_of m.Xor = Some u.RedXor
unary_of m.TildeXor = Some u.RedXnor
unary_of m.XorTilde = Some u.RedXnor
unary_of _ = None

-- The marks of indexed parts, and whether they count up from the base (IEEE 1800-2017, 11.5.1).
abbrev pub upward : Mark → Option Bool
upward m.PlusColon = Some true
upward m.MinusColon = Some false
upward _ = None

-- the names of the system functions of expressions (IEEE 1800-2017, 11.7, 20.3, 20.5)
unfoldable pub system_of : List ℕ → Option System
system_of name =
    if bytes_eq name (codes "time") then Some Time
    else (if bytes_eq name (codes "signed") then Some (Sign true) else (if bytes_eq name (codes "unsigned") then Some (Sign false) else None))

-- the name of the number of elements (IEEE 1800-2017, 7.5.2)
unfoldable pub is_size : List ℕ → Bool
is_size name = bytes_eq name (codes "size")

-- whether a name after a dot is a member: `size` is one only where the Bool holds
abbrev pub is_member : Bool → List ℕ → Bool
is_member true name = true
is_member false name = not (is_size name)

-- the key that begins an item of a pattern (IEEE 1800-2017, 10.9)
abbrev pub key_of : TokenKind → Option Key
key_of (k.Name name) = Some (key.Member name)
key_of (k.Word w.Default) = Some key.Other
key_of _ = None

-- what stands between two items of a list: a comma, or also the word `or` between events (IEEE 1800-2017, 9.4.2.1)
abbrev pub separates : Separator → TokenKind → Bool
separates by (k.Mark m.Comma) = true
separates CommaOrWord (k.Word w.Or) = true
separates _ _ = false

-- the place of the first token
abbrev pub start : Tokens → Place
start [] = record { file = 0; offset = 0; line = 0; column = 0 }
start (t ∷ ts) = t.at

-- What may stand after an expression.
abbrev pub stops : TokenKind → Bool
stops (k.Mark m.Semicolon) = true
stops (k.Mark m.Comma) = true
stops (k.Mark m.RightParen) = true
stops (k.Mark m.RightBracket) = true
stops (k.Mark m.RightBrace) = true
stops (k.Mark m.LeftBrace) = true
stops (k.Mark m.Colon) = true
stops (k.Mark m.PlusColon) = true
stops (k.Mark m.MinusColon) = true
stops (k.Mark m.Assign) = true
stops (k.Word w.Or) = true
stops k.End = true
stops _ = false

-- whether the first token is such
abbrev pub stop_first : Tokens → Bool
stop_first [] = false
stop_first (t ∷ ts) = stops t.kind
