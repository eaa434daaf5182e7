use Rattle.std.proofs.Common.{◌≡◌, drop}
use Rattle.nt_io.specs.Memory.{file_of, listed}
use Rattle.nt_io.proofs.memory.find.Given as goal

abbrev pub invariant-loop-name : goal.invariant-loop-name
invariant-loop-name l = file_of (listed (drop l.name-index l.files)) l.path ≡ file_of (listed l.files) l.path
