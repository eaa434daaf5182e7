use Rattle.nt_things.proofs.Finding.{Finding}
use Rattle.nt_things.proofs.member.find.Given as goal

abbrev pub invariant-loop-own : goal.invariant-loop-own
invariant-loop-own l = Finding l.members l.name l.own-index l.first
