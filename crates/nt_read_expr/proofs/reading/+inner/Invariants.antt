use Rattle.nt_read_expr.proofs.reading.+inner.Given as goal

abbrev pub decreases-inner : goal.decreases-inner
decreases-inner l = l.depth
