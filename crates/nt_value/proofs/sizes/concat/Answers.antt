use Rattle.std.proofs.Common.{◌≡◌, ◌+◌, ◌-◌, ◌*◌, ◌<◌, ◌≤◌, ◌^◌, ℕ, ap, subst, ◌∙◌, arith}
use Rattle.std.proofs.Math.Pow.{pow_mono}
use Rattle.nt_value.proofs.Widths.{packed_lt, seen_concat, none_unknown}
use Rattle.nt_value.proofs.sizes.concat.Goals as goal

-- a word of a leaf that has room above it
room : (n m v : ℕ) → n + m ≤ 64 → v < 2 ^ n → v < 2 ^ (64 - m)
room n m v h lt = let more = pow_mono {i = n} {j = 64 - m} (omega arith) in omega arith

pub packed-requires-clause-high : goal.packed-requires-clause-high
packed-requires-clause-high c = room c.a.inside.leaf.width c.b.inside.leaf.width c.a.inside.ones (let h = c.requires in let ea = ap (λ x. x.leaf.width) c.a.view_is in let eb = ap (λ x. x.leaf.width) c.b.view_is in omega arith) c.a.invariant.ones

pub packed-requires-2-clause-high : goal.packed-requires-2-clause-high
packed-requires-2-clause-high c = room c.a.inside.leaf.width c.b.inside.leaf.width c.a.inside.unknown (let h = c.requires in let ea = ap (λ x. x.leaf.width) c.a.view_is in let eb = ap (λ x. x.leaf.width) c.b.view_is in omega arith) c.a.invariant.unknown

pub invariant_of-result : goal.invariant_of-result
invariant_of-result c =
    let a = c.a.inside in
    let b = c.b.inside in
    let h = c.requires in
    let ea = ap (λ x. x.leaf.width) c.a.view_is in
    let eb = ap (λ x. x.leaf.width) c.b.view_is in
    let turn : b.leaf.width + a.leaf.width ≡ a.leaf.width + b.leaf.width = omega arith in
    let la = c.a.invariant.low in
    record {
      low = omega arith;
      high = omega arith;
      ones = rw c.packed.ensures (subst (λ k. b.ones + 2 ^ b.leaf.width * a.ones < 2 ^ k) turn (packed_lt b.leaf.width a.leaf.width b.ones a.ones c.b.invariant.ones c.a.invariant.ones));
      unknown = rw c.packed-2.ensures (subst (λ k. b.unknown + 2 ^ b.leaf.width * a.unknown < 2 ^ k) turn (packed_lt b.leaf.width a.leaf.width b.unknown a.unknown c.b.invariant.unknown c.a.invariant.unknown));
      two = λ t. c.packed-2.ensures ∙ none_unknown a.leaf.four b.leaf.four a.unknown b.unknown (2 ^ b.leaf.width) t c.a.invariant.two c.b.invariant.two;
    }

pub returns : goal.returns
returns c = seen_concat c.a.inside c.b.inside c.args.a c.args.b _ _ c.a.view_is c.b.view_is c.b.invariant c.packed.ensures c.packed-2.ensures
