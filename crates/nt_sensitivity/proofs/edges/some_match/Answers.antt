use Rattle.std.proofs.Common.{sym, ◌∙◌, arith}
use Rattle.nt_sensitivity.proofs.Past.{none_past}
use Rattle.nt_sensitivity.proofs.edges.some_match.Goals as goal

pub returns : goal.returns
returns c =
    sym (none_past c.args.on.now c.args.kept.now c.args.new.now c.loop-at.at (omega (arith, c.loop-at-test.false, c.min-count.ensures, c.min.ensures))) ∙ c.loop-at.invariant
