use Rattle.std.proofs.Common.{◌^◌, ap, arith}
use Rattle.nt_const.proofs.Numbers.{below_positive}
use Rattle.nt_const.proofs.value.depth.Goals as goal

pub overflow_sub-result : goal.overflow_sub-result
overflow_sub-result c = omega (arith, c.low_ones.ensures, c.magnitude.ensures.fits, ap (λ n. 2 ^ n) c.width.ensures.value)

pub overflow_add-result : goal.overflow_add-result
overflow_add-result c =
    omega (arith, c.low_ones.type_inv, below_positive c.args.a c.requires.below, c.magnitude.ensures.value)

pub returns : goal.returns
returns c =
    omega (arith, c.low_ones.ensures, c.magnitude.ensures.fits, c.magnitude.ensures.value, ap (λ n. 2 ^ n) c.width.ensures.value, below_positive c.args.a c.requires.below)
