use Rattle.std.proofs.Common.{◌≡◌, ◌++◌, drop, false}
use Rattle.nt_lexer.specs.Pieces.{text_value}
use Rattle.nt_lexer.proofs.texts.text_value.Given as goal

abbrev pub invariant-loop-b : goal.invariant-loop-b
invariant-loop-b l = l.said.items ++ text_value l.escaped (drop l.b-index l.inside) ≡ text_value false l.inside
