use Rattle.std.proofs.Common.{◌<◌, ◌∙◌, ap, sym, subst, arith}
use Rattle.nt_value.specs.Digits.{LeafValue}
use Rattle.nt_state.proofs.Zeds.{in_four, in_two, not_false, not_true, true_false, z_on, zero_begins}
use Rattle.nt_state.proofs.values.all_z.Goals as goal

pub returns-then-not-leaf : goal.returns-then-not-leaf
returns-then-not-leaf c = c.zero-bits.ensures ∙ in_two c.args.leaf (not_true c.args.leaf.four c.if-not-leaf.true)

pub loop-at-preserved : goal.loop-at-preserved
loop-at-preserved c = z_on c.args.leaf c.loop-at.bits c.with_digit-bits.result c.loop-at.at c.loop-at-test.true c.loop-at.invariant c.with_digit-bits.ensures

pub returns : goal.returns
returns c = in_four c.args.leaf c.loop-at.bits c.loop-at.at (not_false c.args.leaf.four c.if-not-leaf.false) (omega (arith, c.loop-at-test.false, c.loop-at.auto.at-end)) c.loop-at.invariant

pub loop-at-init : goal.loop-at-init
loop-at-init c = c.zero-bits.ensures ∙ zero_begins c.args.leaf

pub with_digit-bits-requires-clause-within : goal.with_digit-bits-requires-clause-within
with_digit-bits-requires-clause-within c = subst (λ (b : LeafValue). c.loop-at.at < b.leaf.width) (sym c.loop-at.invariant) c.loop-at-test.true

pub with_digit-bits-requires-clause-fits : goal.with_digit-bits-requires-clause-fits
with_digit-bits-requires-clause-fits c two = absurd (true_false (sym (not_false c.args.leaf.four c.if-not-leaf.false) ∙ (ap (λ (b : LeafValue). b.leaf.four) (sym c.loop-at.invariant) ∙ two)))
