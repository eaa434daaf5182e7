-- What tokens stand for in items.
use Rattle.std.specs.Prelude.{ℕ, Bool, true, false, List, [], Option, Some, None}
use Rattle.nt_value.specs.declared.place.Place.{Place}
use Rattle.nt_value.specs.declared.kind.ProcKind.{ProcKind}
use Rattle.nt_value.specs.declared.kind.ProcKind.TheVariants as proc
use Rattle.nt_ast.specs.declared.path.Declared.{Declared}
use Rattle.nt_ast.specs.declared.expr.Expr.{Expr}
use Rattle.nt_ast.specs.declared.expr.Expr.TheVariants as e
use Rattle.nt_ast.specs.declared.types.TypeTree.{TypeTree}
use Rattle.nt_lexer.specs.declared.kinds.Word.TheVariants as w
use Rattle.nt_lexer.specs.declared.kinds.TokenKind.{TokenKind}
use Rattle.nt_lexer.specs.declared.kinds.TokenKind.TheVariants as k
use Rattle.nt_read_stmt.specs.Tables.{plain_path}
use Rattle.nt_read_unit.specs.Tables.{one_bit}

-- the words of parameters, and whether such a word says that the parameter is local (IEEE 1800-2017, 6.20, A.2.1.1)
abbrev pub param_of : TokenKind → Option Bool
param_of (k.Word w.Parameter) = Some false
param_of (k.Word w.Localparam) = Some true
param_of _ = None

-- the words of nets that are wires (6.6.1)
abbrev pub wire_of : TokenKind → Bool
wire_of (k.Word w.Wire) = true
wire_of (k.Word w.Tri) = true
wire_of _ = false

-- the words of procedures (9.2, A.6.2)
abbrev pub proc_of : TokenKind → Option ProcKind
proc_of (k.Word w.Initial) = Some proc.Initial
proc_of (k.Word w.Always) = Some proc.Always
proc_of (k.Word w.AlwaysComb) = Some proc.Comb
proc_of (k.Word w.AlwaysFf) = Some proc.Ff
proc_of _ = None

-- whether a word says that each call of a function has its own variables (13.4.2, A.2.6 lifetime)
abbrev pub lifetime_of : TokenKind → Option Bool
lifetime_of (k.Word w.Automatic) = Some true
lifetime_of (k.Word w.Static) = Some false
lifetime_of _ = None

-- the type of what is declared at this place, where none may be written (6.10, 13.4, 23.2.2.3)
abbrev pub type_at : Option TypeTree → Place → TypeTree
type_at None at = one_bit at
type_at (Some x) at = x

-- a declared name without dimensions
abbrev pub plain_name : Place → List ℕ → Option Expr → Declared
plain_name at name x = record { at = at; name = name; dims = []; start = x }

-- the same name with an initial value
abbrev pub started : Declared → Option Expr → Declared
started what x = record { at = what.at; name = what.name; dims = what.dims; start = x }

-- a name as an expression
abbrev pub name_read : Place → List ℕ → Expr
name_read at name = e.Read at (plain_path at name)
