-- The exit status of each status, this project's own.
use Rattle.std.specs.Prelude.{ℕ}
use Rattle.nettype_sim.specs.declared.program.Status.{Status}
use Rattle.nettype_sim.specs.declared.program.Status.TheVariants.{Done, Usage, ReadFault, WriteFault, OutOfMemory, NotYet}

abbrev pub status_number : Status → ℕ
status_number Done = 0
status_number Usage = 2
status_number ReadFault = 3
status_number WriteFault = 4
status_number OutOfMemory = 7
status_number NotYet = 12
