-- What it means that all of a text is one expression or one statement.
use Rattle.std.specs.Prelude.{◌≡◌, ◌⊎◌, ⊤, ℕ, List, length, None, Result, Ok, Err}
use Rattle.nt_ast.specs.declared.expr.Expr.{Expr}
use Rattle.nt_ast.specs.declared.stmt.Stmt.{Stmt}
use Rattle.nt_diag.specs.declared.refusal.Fault.{Fault}
use Rattle.nt_diag.specs.declared.refusal.Fault.TheVariants as fault
use Rattle.nt_lexer.specs.Bytes.{Bytes}
use Rattle.nt_lexer.specs.Cuts.{Lexes, Stuck}
use Rattle.nt_lexer.specs.declared.kinds.Head.{Head}
use Rattle.nt_lexer.specs.declared.kinds.Token.{Token}
use Rattle.nt_parse_expr.specs.Readings.{Derives, StatementDerives}

-- before a text: no time unit, and no token
abbrev pub fresh : Head
fresh = record { unit = None; count = 0 }

-- a text is cut into tokens of which this holds
abbrev pub CutInto : Bytes → (List Token → Type 0) → Type 0
CutInto text P = (tokens : List Token) × (head : Head) × Lexes 0 text 0 fresh tokens head × P tokens

-- all tokens but the end are one expression
abbrev pub IsExpression : List Token → Expr → Type 0
IsExpression tokens x = (after : List Token) × Derives 64 tokens x after × (length after ≡ 1)

-- all tokens but the end are one statement
abbrev pub IsStatement : List Token → Stmt → Type 0
IsStatement tokens x = (after : List Token) × StatementDerives 64 tokens x after × (length after ≡ 1)

-- what is told of a text that is to be an expression: its tree; a refusal exactly where it has a fault of tokens or is none
abbrev pub ExpressionOf : Bytes → Result Expr Fault → Type 0
ExpressionOf text (Ok x) = CutInto text (λ tokens. IsExpression tokens x)
ExpressionOf text (Err (fault.Refused r)) = Stuck 0 text 0 fresh r ⊎ CutInto text (λ tokens. (x : Expr) → IsExpression tokens x → ⊥)
ExpressionOf text (Err (fault.OutOfMemory e)) = ⊤

-- the same of a statement
abbrev pub StatementOf : Bytes → Result Stmt Fault → Type 0
StatementOf text (Ok x) = CutInto text (λ tokens. IsStatement tokens x)
StatementOf text (Err (fault.Refused r)) = Stuck 0 text 0 fresh r ⊎ CutInto text (λ tokens. (x : Stmt) → IsStatement tokens x → ⊥)
StatementOf text (Err (fault.OutOfMemory e)) = ⊤
