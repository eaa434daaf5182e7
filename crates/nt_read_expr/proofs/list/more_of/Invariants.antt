use Rattle.std.proofs.Common.{◌≡◌, length, ◌+◌, ◌-◌}
use Rattle.nt_read_expr.specs.Reader as spec
use Rattle.nt_read_expr.proofs.list.more_of.Given as goal

abbrev pub invariant-loop-turn : goal.invariant-loop-turn
invariant-loop-turn g l = spec.more_of l.by (g.R.ItemReader.reads l.reader) (length l.fn.tokens + 1) l.fn.found l.fn.tokens ≡ spec.more_of l.by (g.R.ItemReader.reads l.reader) (l._turn-end - l._turn + 1) l.all l.rest
