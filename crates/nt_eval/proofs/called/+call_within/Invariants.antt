use Rattle.nt_eval.proofs.called.+call_within.Given as goal

abbrev pub decreases-call_within : goal.decreases-call_within
decreases-call_within l = l.most
