use Rattle.nt_const.proofs.Hiding.{Seeking}
use Rattle.nt_const.proofs.forms.+forms.Given as goal

abbrev pub invariant-any_hides-loop-part : goal.invariant-any_hides-loop-part
invariant-any_hides-loop-part g l = Seeking (g.L.Lookup.sees l.known) l.parts l.part-index
