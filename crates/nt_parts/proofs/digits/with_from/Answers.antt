use Rattle.std.proofs.Common.{◌∙◌, arith}
use Rattle.nt_parts.proofs.Overlaid.{above, put_up}
use Rattle.nt_parts.proofs.digits.with_from.Goals as goal

pub returns-then-low-from : goal.returns-then-low-from
returns-then-low-from c =
    let w = c.width-there.ensures.value in
    let f = c.from.ensures in
    above c.args.new c.args.of c.args.low c.has_digits.ensures (omega (arith, w, f, c.if-low-from.true))

pub returns : goal.returns
returns c =
    let w = c.width-there.ensures.value in
    let n = c.width.ensures.value in
    let f = c.from.ensures in
    c.put_part.ensures ∙ rw c.part.ensures (put_up c.args.new c.args.of c.args.low c.min-count.result c.has_digits.ensures c.has_digits-2.ensures (omega (arith, w, f, c.if-low-from.false)) (omega (arith, w, n, c.min-count.ensures)))
