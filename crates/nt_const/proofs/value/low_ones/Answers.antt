use Rattle.std.proofs.Common.{◌≡◌, ◌-◌, ◌^◌, arith, ◌∙◌, ap}
use Rattle.std.proofs.lemmas.Nat.Bits.{ones_shr}
use Rattle.nt_const.proofs.value.low_ones.Goals as goal

pub returns : goal.returns
returns c =
    let k : 64 - (64 - c.args.width) ≡ c.args.width = omega arith in
    ones_shr 64 (64 - c.args.width) (omega arith) ∙ ap (λ n. 2 ^ n - 1) k
