-- How the words and marks of the language are written.
use Rattle.std.specs.Prelude.{ℕ, List, [], ◌∷◌, codes}
use Rattle.nt_value.specs.declared.unit.Base.{Base}
use Rattle.nt_value.specs.declared.unit.Base.TheVariants as b
use Rattle.nt_lexer.specs.Bytes.{Bytes}
use Rattle.nt_lexer.specs.declared.kinds.Mark.{Mark}
use Rattle.nt_lexer.specs.declared.kinds.Mark.TheVariants as m
use Rattle.nt_lexer.specs.declared.kinds.Word.{Word}
use Rattle.nt_lexer.specs.declared.kinds.Word.TheVariants as w

-- the reserved words (IEEE 1800-2017, 5.6.2, Annex B) in the order of their letters: those of this language, and those that it
-- leaves out
unfoldable pub words : List (Bytes × Word)
words =
    (codes "alias", w.LeftOut) ∷
    (codes "always", w.Always) ∷
    (codes "always_comb", w.AlwaysComb) ∷
    (codes "always_ff", w.AlwaysFf) ∷
    (codes "always_latch", w.LeftOut) ∷
    (codes "assert", w.LeftOut) ∷
    (codes "assign", w.Assign) ∷
    (codes "automatic", w.Automatic) ∷
    (codes "begin", w.Begin) ∷
    (codes "bind", w.LeftOut) ∷
    (codes "bit", w.Bit) ∷
    (codes "break", w.Break) ∷
    (codes "buf", w.LeftOut) ∷
    (codes "byte", w.Byte) ∷
    (codes "case", w.Case) ∷
    (codes "casex", w.LeftOut) ∷
    (codes "casez", w.LeftOut) ∷
    (codes "chandle", w.LeftOut) ∷
    (codes "class", w.LeftOut) ∷
    (codes "clocking", w.LeftOut) ∷
    (codes "config", w.LeftOut) ∷
    (codes "continue", w.Continue) ∷
    (codes "covergroup", w.LeftOut) ∷
    (codes "default", w.Default) ∷
    (codes "disable", w.LeftOut) ∷
    (codes "do", w.LeftOut) ∷
    (codes "else", w.Else) ∷
    (codes "end", w.End) ∷
    (codes "endcase", w.EndCase) ∷
    (codes "endclass", w.LeftOut) ∷
    (codes "endfunction", w.EndFunction) ∷
    (codes "endmodule", w.EndModule) ∷
    (codes "endpackage", w.EndPackage) ∷
    (codes "endtask", w.LeftOut) ∷
    (codes "enum", w.LeftOut) ∷
    (codes "event", w.LeftOut) ∷
    (codes "export", w.LeftOut) ∷
    (codes "extern", w.LeftOut) ∷
    (codes "final", w.LeftOut) ∷
    (codes "for", w.For) ∷
    (codes "force", w.LeftOut) ∷
    (codes "foreach", w.Foreach) ∷
    (codes "forever", w.Forever) ∷
    (codes "fork", w.LeftOut) ∷
    (codes "function", w.Function) ∷
    (codes "generate", w.LeftOut) ∷
    (codes "genvar", w.LeftOut) ∷
    (codes "if", w.If) ∷
    (codes "import", w.Import) ∷
    (codes "initial", w.Initial) ∷
    (codes "inout", w.Inout) ∷
    (codes "input", w.Input) ∷
    (codes "int", w.Int) ∷
    (codes "integer", w.Integer) ∷
    (codes "interconnect", w.Interconnect) ∷
    (codes "interface", w.LeftOut) ∷
    (codes "join", w.LeftOut) ∷
    (codes "localparam", w.Localparam) ∷
    (codes "logic", w.Logic) ∷
    (codes "longint", w.Longint) ∷
    (codes "modport", w.LeftOut) ∷
    (codes "module", w.Module) ∷
    (codes "nand", w.LeftOut) ∷
    (codes "negedge", w.Negedge) ∷
    (codes "nettype", w.Nettype) ∷
    (codes "nor", w.LeftOut) ∷
    (codes "or", w.Or) ∷
    (codes "output", w.Output) ∷
    (codes "package", w.Package) ∷
    (codes "packed", w.LeftOut) ∷
    (codes "parameter", w.Parameter) ∷
    (codes "posedge", w.Posedge) ∷
    (codes "priority", w.LeftOut) ∷
    (codes "program", w.LeftOut) ∷
    (codes "property", w.LeftOut) ∷
    (codes "pulldown", w.LeftOut) ∷
    (codes "pullup", w.LeftOut) ∷
    (codes "rand", w.LeftOut) ∷
    (codes "real", w.LeftOut) ∷
    (codes "realtime", w.LeftOut) ∷
    (codes "ref", w.LeftOut) ∷
    (codes "reg", w.Reg) ∷
    (codes "release", w.LeftOut) ∷
    (codes "repeat", w.Repeat) ∷
    (codes "return", w.Return) ∷
    (codes "sequence", w.LeftOut) ∷
    (codes "shortint", w.Shortint) ∷
    (codes "shortreal", w.LeftOut) ∷
    (codes "signed", w.Signed) ∷
    (codes "specify", w.LeftOut) ∷
    (codes "static", w.Static) ∷
    (codes "string", w.LeftOut) ∷
    (codes "struct", w.Struct) ∷
    (codes "supply0", w.LeftOut) ∷
    (codes "supply1", w.LeftOut) ∷
    (codes "tagged", w.LeftOut) ∷
    (codes "task", w.LeftOut) ∷
    (codes "time", w.Time) ∷
    (codes "tri", w.Tri) ∷
    (codes "tri0", w.LeftOut) ∷
    (codes "tri1", w.LeftOut) ∷
    (codes "triand", w.LeftOut) ∷
    (codes "trior", w.LeftOut) ∷
    (codes "trireg", w.LeftOut) ∷
    (codes "typedef", w.Typedef) ∷
    (codes "union", w.LeftOut) ∷
    (codes "unique", w.LeftOut) ∷
    (codes "unsigned", w.Unsigned) ∷
    (codes "uwire", w.LeftOut) ∷
    (codes "var", w.Var) ∷
    (codes "virtual", w.LeftOut) ∷
    (codes "void", w.Void) ∷
    (codes "wait", w.Wait) ∷
    (codes "wand", w.LeftOut) ∷
    (codes "while", w.While) ∷
    (codes "wire", w.Wire) ∷
    (codes "with", w.With) ∷
    (codes "wor", w.LeftOut) ∷
    []

-- the marks (5.5) by their first byte, and of those the longer ones first
unfoldable pub marks : List (Bytes × Mark)
marks =
    (codes "!==", m.NotCaseEqual) ∷
    (codes "!=", m.NotEqual) ∷
    (codes "!", m.Not) ∷
    (codes "#", m.Hash) ∷
    (codes "%", m.Percent) ∷
    (codes "&&", m.AndAnd) ∷
    (codes "&", m.And) ∷
    (codes "'{", m.TickBrace) ∷
    (codes "(", m.LeftParen) ∷
    (codes ")", m.RightParen) ∷
    (codes "*", m.Star) ∷
    (codes "++", m.PlusPlus) ∷
    (codes "+:", m.PlusColon) ∷
    (codes "+", m.Plus) ∷
    (codes ",", m.Comma) ∷
    (codes "--", m.MinusMinus) ∷
    (codes "-:", m.MinusColon) ∷
    (codes "-", m.Minus) ∷
    (codes ".", m.Dot) ∷
    (codes "/", m.Slash) ∷
    (codes "::", m.Scope) ∷
    (codes ":", m.Colon) ∷
    (codes ";", m.Semicolon) ∷
    (codes "<<<", m.ArithmeticLeft) ∷
    (codes "<<", m.ShiftLeft) ∷
    (codes "<=", m.LessEqual) ∷
    (codes "<", m.Less) ∷
    (codes "===", m.CaseEqual) ∷
    (codes "==", m.Equal) ∷
    (codes "=", m.Assign) ∷
    (codes ">>>", m.ArithmeticRight) ∷
    (codes ">=", m.GreaterEqual) ∷
    (codes ">>", m.ShiftRight) ∷
    (codes ">", m.Greater) ∷
    (codes "?", m.Question) ∷
    (codes "@", m.At) ∷
    (codes "[", m.LeftBracket) ∷
    (codes "]", m.RightBracket) ∷
    (codes "^~", m.XorTilde) ∷
    (codes "^", m.Xor) ∷
    (codes "{", m.LeftBrace) ∷
    (codes "||", m.OrOr) ∷
    (codes "|", m.Or) ∷
    (codes "}", m.RightBrace) ∷
    (codes "~&", m.TildeAnd) ∷
    (codes "~^", m.TildeXor) ∷
    (codes "~|", m.TildeOr) ∷
    (codes "~", m.Tilde) ∷
    []

-- 1, 10 and 100, by their power of ten (22.7)
unfoldable pub tens : List (Bytes × ℕ)
tens = (codes "1", 0) ∷ (codes "10", 1) ∷ (codes "100", 2) ∷ []

-- the bases of a unit of time (22.7)
unfoldable pub bases : List (Bytes × Base)
bases =
    (codes "s", b.S) ∷
    (codes "ms", b.Ms) ∷
    (codes "us", b.Us) ∷
    (codes "ns", b.Ns) ∷
    (codes "ps", b.Ps) ∷
    (codes "fs", b.Fs) ∷
    []
