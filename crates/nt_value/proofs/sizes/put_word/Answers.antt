use Rattle.std.proofs.Common.{◌≡◌, ◌+◌, ◌-◌, ◌*◌, ◌/◌, ◌^◌, ◌<◌, ◌≤◌, ℕ, subst, arith}
use Rattle.std.proofs.Math.Pow.{pow_mono}
use Rattle.nt_value.proofs.Widths.{moved_lt, packed_lt}
use Rattle.nt_value.proofs.sizes.put_word.Goals as goal

above_lt : (word low width : ℕ) → word < 2 ^ 64 → low + width ≤ 64 → word / 2 ^ (low + width) < 2 ^ (64 - (low + width))
above_lt word low width w h = moved_lt 64 (low + width) word w h

pub packed-requires-2-clause-high : goal.packed-requires-2-clause-high
packed-requires-2-clause-high c =
    let less = above_lt c.args.word c.args.low c.args.width c.ranges.word.fits c.requires.inside in
    let more = pow_mono {i = 64 - (c.args.low + c.args.width)} {j = 64 - c.args.width} (omega arith) in
    omega arith

pub packed-requires-3-clause-high : goal.packed-requires-3-clause-high
packed-requires-3-clause-high c =
    let less = above_lt c.args.word c.args.low c.args.width c.ranges.word.fits c.requires.inside in
    let e : c.args.width + (64 - (c.args.low + c.args.width)) ≡ 64 - c.args.low = let h = c.requires.inside in omega arith in
    rw c.packed-2.ensures (subst (λ k. c.args.part + 2 ^ c.args.width * (c.args.word / 2 ^ (c.args.low + c.args.width)) < 2 ^ k) e (packed_lt c.args.width (64 - (c.args.low + c.args.width)) c.args.part _ c.requires.fits less))
