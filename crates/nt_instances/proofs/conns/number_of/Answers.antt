use Rattle.std.proofs.Common.{refl, sym, ◌∙◌, arith}
use Rattle.std.specs.Str.{bytes_eq}
use Rattle.nt_instances.proofs.Numbering.{found_here, found_later, found_nowhere}
use Rattle.nt_instances.proofs.conns.number_of.Goals as goal

pub loop-number-init : goal.loop-number-init
loop-number-init c = refl

pub loop-number-preserved : goal.loop-number-preserved
loop-number-preserved c = found_later (λ n. n.now) (bytes_eq c.args.name.now) c.args.names.now c.loop-number.number c.index-names-number.result c.loop-number-test.true c.index-names-number.is c.loop-number.invariant (sym c.same.ensures ∙ c.if-same.false)

pub returns-then-same : goal.returns-then-same
returns-then-same c = found_here (λ n. n.now) (bytes_eq c.args.name.now) c.args.names.now c.loop-number.number c.index-names-number.result c.loop-number-test.true c.index-names-number.is c.loop-number.invariant (sym c.same.ensures ∙ c.if-same.true)

pub returns : goal.returns
returns c = found_nowhere (λ n. n.now) (bytes_eq c.args.name.now) c.args.names.now c.loop-number.number (omega arith) c.loop-number.invariant
