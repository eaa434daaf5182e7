-- What tokens stand for in statements.
use Rattle.std.specs.Prelude.{ℕ, Bool, true, false, List, [], ◌∷◌, if◌then◌else◌, Option, Some, None, codes}
use Rattle.std.specs.Str.{bytes_eq}
use Rattle.nt_value.specs.declared.place.Place.{Place}
use Rattle.nt_value.specs.declared.operator.Binary.{Binary}
use Rattle.nt_value.specs.declared.operator.Binary.TheVariants as b
use Rattle.nt_value.specs.declared.kind.Edge.{Edge}
use Rattle.nt_value.specs.declared.kind.Edge.TheVariants.{Pos, Neg}
use Rattle.nt_ast.specs.declared.path.Path.{Path}
use Rattle.nt_ast.specs.declared.stmt.Stmt.{Stmt}
use Rattle.nt_ast.specs.declared.stmt.Stmt.TheVariants as s
use Rattle.nt_lexer.specs.declared.kinds.Mark.{Mark}
use Rattle.nt_lexer.specs.declared.kinds.Mark.TheVariants as m
use Rattle.nt_lexer.specs.declared.kinds.Word.TheVariants as w
use Rattle.nt_lexer.specs.declared.kinds.TokenKind.{TokenKind}
use Rattle.nt_lexer.specs.declared.kinds.TokenKind.TheVariants as k
use Rattle.nt_read_stmt.specs.declared.lead.Lead.{Lead}
use Rattle.nt_read_stmt.specs.declared.lead.Lead.TheVariants as l
use Rattle.nt_read_stmt.specs.declared.front.Form.{Form}
use Rattle.nt_read_stmt.specs.declared.front.Form.TheVariants as form
use Rattle.nt_read_stmt.specs.declared.front.Task.{Task}
use Rattle.nt_read_stmt.specs.declared.front.Task.TheVariants.{Display, Finish}
use Rattle.nt_read_expr.specs.Tables.{Tokens}

-- The operator of a mark that `=` may follow in an assignment (IEEE 1800-2017, 11.4.1, A.6.2).
abbrev pub compound_of : Mark → Option Binary
compound_of m.Plus = Some b.Add
compound_of m.Minus = Some b.Sub
compound_of m.Star = Some b.Mul
compound_of m.Slash = Some b.Div
compound_of m.Percent = Some b.Rem
compound_of m.And = Some b.And
compound_of m.Or = Some b.Or
compound_of m.Xor = Some b.Xor
compound_of m.ShiftLeft = Some b.Shl
compound_of m.ShiftRight = Some b.Shr
compound_of m.ArithmeticRight = Some b.Sshr
compound_of _ = None

-- The operator of `++` and `--` (IEEE 1800-2017, 11.4.2).
abbrev pub step_of : Mark → Option Binary
step_of m.PlusPlus = Some b.Add
step_of m.MinusMinus = Some b.Sub
step_of _ = None

-- the words of edges (IEEE 1800-2017, 9.4.2)
abbrev pub edge_of : TokenKind → Option Edge
edge_of (k.Word w.Posedge) = Some Pos
edge_of (k.Word w.Negedge) = Some Neg
edge_of _ = None

-- the names of the system tasks (IEEE 1800-2017, 20.2, 21.2.1)
unfoldable pub task_of : List ℕ → Option Task
task_of name =
    if bytes_eq name (codes "display") then Some Display else (if bytes_eq name (codes "finish") then Some Finish else None)

-- the form of statement that a first token begins
abbrev pub form_of : TokenKind → Form
form_of (k.Word w.If) = form.Choice
form_of (k.Word w.Begin) = form.Block
form_of (k.Word w.Case) = form.Case
form_of (k.Word w.While) = form.Led
form_of (k.Word w.Repeat) = form.Led
form_of (k.Word w.For) = form.Led
form_of (k.Word w.Forever) = form.Led
form_of (k.Word w.Foreach) = form.Led
form_of (k.Word w.Wait) = form.Led
form_of (k.Mark m.Hash) = form.Led
form_of (k.Mark m.At) = form.Led
form_of _ = form.Simple

-- the statement with this lead and this body
abbrev pub with_body : Place → Lead → Stmt → Stmt
with_body at (l.While test) body = s.While at test body
with_body at (l.Repeat count) body = s.Repeat at count body
with_body at (l.Wait test) body = s.Wait at test body
with_body at l.Forever body = s.Forever at body
with_body at (l.Foreach p array q index) body = s.Foreach at p array q index body
with_body at (l.For fresh p name from test step) body = s.For at fresh p name from test step body
with_body at (l.Delay amount) body = s.Delay at amount body
with_body at (l.Event any on) body = s.Event at any on body

-- a name without a package
abbrev pub plain_path : Place → List ℕ → Path
plain_path at name = record { at = at; scope = None; name = name }

-- What may stand after a statement: not an `else`, which would belong to it, nor the colon of a label.
abbrev pub ends_statement : TokenKind → Bool
ends_statement (k.Word w.Else) = false
ends_statement (k.Mark m.Colon) = false
ends_statement _ = true

-- whether the first token is such
abbrev pub statement_stop : Tokens → Bool
statement_stop [] = false
statement_stop (t ∷ ts) = ends_statement t.kind
