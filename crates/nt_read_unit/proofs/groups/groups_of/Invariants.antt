use Rattle.std.proofs.Common.{◌≡◌, length, ◌+◌, ◌-◌, []}
use Rattle.nt_read_unit.specs.Reader as spec
use Rattle.nt_read_unit.proofs.groups.groups_of.Given as goal

abbrev pub invariant-loop-turn : goal.invariant-loop-turn
invariant-loop-turn g l = spec.groups_of (g.R.GroupReader.goes_on l.reader) (g.R.GroupReader.reads l.reader) (length l.fn.tokens + 1) [] l.fn.tokens ≡ spec.groups_of (g.R.GroupReader.goes_on l.reader) (g.R.GroupReader.reads l.reader) (l._turn-end - l._turn + 1) l.all l.rest
