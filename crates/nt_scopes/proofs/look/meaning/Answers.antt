use Rattle.nt_scopes.proofs.Looking.{rest_turn, rest_found, rest_end}
use Rattle.nt_scopes.proofs.look.meaning.Goals as goal

pub returns-in_default : goal.returns-in_default
returns-in_default c =
    rest_found (λ s. s.now) c.args.chain.now c.loop-scope.scope-index c.scope-item.result c.look_in.result c.loop-scope-test.true c.scope-item.is c.loop-scope.invariant c.look_in.ensures c.in_default.not-Unknown

pub loop-scope-preserved : goal.loop-scope-preserved
loop-scope-preserved c =
    rest_turn (λ s. s.now) c.args.chain.now c.loop-scope.scope-index c.scope-item.result c.loop-scope-test.true c.scope-item.is c.loop-scope.invariant c.in-Unknown.ensures

pub returns : goal.returns
returns c = rest_end (λ s. s.now) c.args.chain.now c.loop-scope.scope-index c.loop-scope-test.false c.loop-scope.invariant
