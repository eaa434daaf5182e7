use Rattle.std.specs.Prelude.{◌≡◌}
use Rattle.nt_typing.specs.Tables.{copies}
use Rattle.nt_things.proofs.concats.copies.Given as goal

abbrev pub invariant-loop-turn : goal.invariant-loop-turn
invariant-loop-turn l = l.all ≡ copies l._turn l.parts
