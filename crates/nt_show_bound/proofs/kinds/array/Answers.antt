use Rattle.std.proofs.Common.{◌<◌, sym, subst, arith}
use Rattle.nt_things.specs.Usable.{IsUsable}
use Rattle.nt_show_bound.proofs.Fitted.{array_fits}
use Rattle.nt_show_bound.proofs.kinds.array.Goals as goal

pub small-requires : goal.small-requires
small-requires c =
    let e = c.from.ensures in
    let f = c.from-2.ensures in
    let p : c.from.result < 256 = omega (arith, e, c.ranges.left.fits) in
    let q : c.from-2.result < 256 = omega (arith, f, c.ranges.right.fits) in
    array_fits c.from.result c.from-2.result c.in_ok-element.element p q (subst IsUsable (sym c.in_ok-element.ensures) c.requires)
