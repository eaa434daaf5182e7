use Rattle.std.proofs.Common.{◌≡◌, ◌++◌, take}
use Rattle.std.specs.List.{flat_map}
use Rattle.nt_semantics.specs.Texts.{displayed_line}
use Rattle.nt_observe.proofs.shown.print_lines.Given as goal

abbrev pub invariant-loop-line : goal.invariant-loop-line
invariant-loop-line l = l.out ≡ l.fn.out ++ flat_map displayed_line (take l.line-index l.lines)
