use Rattle.std.proofs.Common.{refl, sym, ◌∙◌, arith}
use Rattle.nt_unit_names.specs.Items.{declares}
use Rattle.nt_instances.proofs.Numbering.{found_here, found_later, found_nowhere}
use Rattle.nt_instances.proofs.modules.find_in.Goals as goal

pub loop-number-init : goal.loop-number-init
loop-number-init c = refl

pub loop-number-preserved : goal.loop-number-preserved
loop-number-preserved c = found_later (λ x. x.now) (declares c.args.name.now) c.args.modules.now c.loop-number.number c.index-modules-number.result c.loop-number-test.true c.index-modules-number.is c.loop-number.invariant (sym c.is_named.ensures ∙ c.if-is_named.false)

pub returns-then-is_named : goal.returns-then-is_named
returns-then-is_named c = found_here (λ x. x.now) (declares c.args.name.now) c.args.modules.now c.loop-number.number c.index-modules-number.result c.loop-number-test.true c.index-modules-number.is c.loop-number.invariant (sym c.is_named.ensures ∙ c.if-is_named.true)

pub returns : goal.returns
returns c = found_nowhere (λ x. x.now) (declares c.args.name.now) c.args.modules.now c.loop-number.number (omega arith) c.loop-number.invariant
