use Rattle.std.proofs.Common.{◌≡◌, ◌++◌, take}
use Rattle.std.specs.List.{flat_map}
use Rattle.nt_semantics.specs.Texts.{entry_line}
use Rattle.nt_witness.proofs.entries.print_entries.Given as goal

abbrev pub invariant-loop-entry : goal.invariant-loop-entry
invariant-loop-entry l = l.out ≡ l.initial.out ++ flat_map entry_line (take l.entry-index l.entries)
