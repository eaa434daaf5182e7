-- What tokens stand for in the heads of modules.
use Rattle.std.specs.Prelude.{Option, Some, None}
use Rattle.nt_items.specs.declared.item.Way.{Way}
use Rattle.nt_items.specs.declared.item.Way.TheVariants as way
use Rattle.nt_items.specs.declared.item.PortKind.{PortKind}
use Rattle.nt_items.specs.declared.item.PortKind.TheVariants as port
use Rattle.nt_lexer.specs.declared.kinds.Word.TheVariants as w
use Rattle.nt_lexer.specs.declared.kinds.TokenKind.{TokenKind}
use Rattle.nt_lexer.specs.declared.kinds.TokenKind.TheVariants as k

-- the words of directions (IEEE 1800-2017, 23.2.2.1, A.2.1.2 port_direction)
abbrev pub way_of : TokenKind → Option Way
way_of (k.Word w.Input) = Some way.Input
way_of (k.Word w.Output) = Some way.Output
way_of (k.Word w.Inout) = Some way.Inout
way_of _ = None

-- the words that say what a port is (23.2.2.3, A.2.1.2)
abbrev pub net_of : TokenKind → Option PortKind
net_of (k.Word w.Wire) = Some port.Wire
net_of (k.Word w.Tri) = Some port.Wire
net_of (k.Word w.Var) = Some port.Variable
net_of (k.Word w.Interconnect) = Some port.Interconnect
net_of _ = None
