use Rattle.std.proofs.Common.{◌+◌, ◌∙◌, arith}
use Rattle.nt_parts.proofs.Overlaid.{under, put_down}
use Rattle.nt_parts.proofs.digits.with_below.Goals as goal

pub returns-then-below-from : goal.returns-then-below-from
returns-then-below-from c =
    let f = c.from.ensures in
    let n = c.width-width.ensures.value in
    under c.args.new c.args.of c.args.below c.has_digits.ensures c.has_digits-2.ensures (omega (arith, f, n, c.if-below-from.true))

pub returns : goal.returns
returns c =
    let w = c.width.ensures.value in
    let n = c.width-width.ensures.value in
    c.put_part.ensures ∙ rw c.part.ensures (put_down c.args.new c.args.of c.args.below (c.args.below + 1) c.min-count.result c.has_digits.ensures c.has_digits-2.ensures (omega arith) (omega (arith, w, n, c.min-count.ensures)))
