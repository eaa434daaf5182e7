use Rattle.nt_const.proofs.Drafting.{Adding}
use Rattle.nt_const.proofs.walk.+walk.Given as goal

abbrev pub invariant-all_of-loop-part : goal.invariant-all_of-loop-part
invariant-all_of-loop-part g l = Adding (g.L.Lookup.sees l.known) l.parts l.part-index l.all
