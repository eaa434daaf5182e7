use Rattle.std.proofs.Common.{◌≡◌, ◌-◌, ◌^◌, ◌∙◌, ap, arith}
use Rattle.std.proofs.lemmas.Nat.Bits.{ones_shr}
use Rattle.nt_parts.proofs.Numbers.{below_is}
use Rattle.nt_parts.proofs.index.below.Goals as goal

pub overflow_sub-result : goal.overflow_sub-result
overflow_sub-result c =
    let k : 64 - (64 - c.width.result) ≡ c.width.result = omega arith in
    let e = ones_shr 64 (64 - c.width.result) (omega arith) ∙ ap (λ n. 2 ^ n - 1) k in
    let w = ap (λ n. 2 ^ n) c.width.ensures.value in
    omega (arith, e, w, c.magnitude.ensures.fits)

pub returns : goal.returns
returns c =
    let k : 64 - (64 - c.width.result) ≡ c.width.result = omega arith in
    let e = ones_shr 64 (64 - c.width.result) (omega arith) ∙ ap (λ n. 2 ^ n - 1) k in
    let w = ap (λ n. 2 ^ n) c.width.ensures.value in
    let m = c.magnitude.ensures.value in
    below_is c.args.bits.digits c.width.result _ c.requires.top c.width.ensures.whole (omega (arith, w, c.magnitude.ensures.fits, m)) (omega (arith, e, m))
