use Rattle.std.proofs.Common.{◌≡◌, ◌++◌, ◌-◌, ◌*◌, drop}
use Rattle.nt_semantics.specs.Lines.{hex_texts}
use Rattle.nt_lines.proofs.format.put_hex.Given as goal

abbrev pub invariant-loop-at : goal.invariant-loop-at
invariant-loop-at l = l.out ≡ l.initial.out ++ hex_texts (l.count - l.at) (drop (4 * l.at) l.bits.digits)
