use Rattle.std.proofs.Common.{◌∙◌, arith}
use Rattle.nt_parts.proofs.Overlaid.{past_end, part_up}
use Rattle.nt_parts.proofs.digits.part_from.Goals as goal

pub returns-then-low-from : goal.returns-then-low-from
returns-then-low-from c =
    let w = c.width-there.ensures.value in
    let f = c.from.ensures in
    c.outside-none.ensures ∙ past_end c.args.of c.args.low c.args.width c.has_digits.ensures (omega (arith, w, f, c.if-low-from.true))

pub returns : goal.returns
returns c =
    let w = c.width-there.ensures.value in
    let f = c.from.ensures in
    c.put_part.ensures ∙ rw (c.outside-none.ensures, c.part.ensures) (part_up c.args.of c.args.low c.args.width c.min-count.result c.has_digits.ensures (omega (arith, w, f, c.if-low-from.false)) (omega (arith, w, c.min-count.ensures)))
