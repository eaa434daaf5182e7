use Rattle.std.proofs.Common.{◌+◌, ◌∙◌, arith}
use Rattle.nt_parts.proofs.Overlaid.{past_start, part_down}
use Rattle.nt_parts.proofs.digits.part_below.Goals as goal

pub returns-then-below-from : goal.returns-then-below-from
returns-then-below-from c =
    let f = c.from.ensures in
    c.outside-none.ensures ∙ past_start c.args.of c.args.below c.args.width (omega (arith, f, c.if-below-from.true))

pub returns : goal.returns
returns c =
    let w = c.width.ensures.value in
    let f = c.from.ensures in
    let some = c.requires.some in
    c.put_part.ensures ∙ rw (c.outside-none.ensures, c.part.ensures) (part_down c.args.of c.args.below (c.args.below + 1) c.args.width c.min-count.result c.has_digits.ensures (omega arith) (omega (arith, f, some, c.if-below-from.false)) (omega (arith, w, c.min-count.ensures)))
