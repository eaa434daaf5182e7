use Rattle.std.proofs.Common.{◌<◌, arith, ap, ◌∙◌, ◌++◌, [], ◌∷◌}
use Rattle.nt_value.proofs.Prints.{digit_more}
use Rattle.nt_lines.proofs.format.put_binary.Goals as goal

pub loop-at-preserved : goal.loop-at-preserved
loop-at-preserved c =
    let some : 0 < c.loop-at.at = omega arith in
    digit_more c.args.bits.digits c.loop-at.at c.digit.result _ c.loop-at.out c.push.new.self some c.digit.ensures c.loop-at.invariant (c.in_ok-push.ensures.ok ∙ ap (λ n. c.loop-at.out ++ n ∷ []) c.digit_code.ensures)
