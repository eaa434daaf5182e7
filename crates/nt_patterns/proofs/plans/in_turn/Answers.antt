use Rattle.std.proofs.Common.{sym, ◌∙◌, arith}
use Rattle.nt_patterns.proofs.Planning.{order_none, order_picked}
use Rattle.nt_patterns.proofs.plans.in_turn.Goals as goal

pub returns-then-slots-items : goal.returns-then-slots-items
returns-then-slots-items c = λ those all e g. order_none those all (λ h. c.if-slots-items.true (sym e ∙ h ∙ g))

pub returns : goal.returns
returns c = λ those all e g.
    let ge = c.loop-index-test.false in let le = c.loop-index.auto.index-end in let same = c.if-slots-items.false in
    order_picked all those c.loop-index.index c.loop-index.all.items (e ∙ same ∙ sym g) (omega (arith, e, same, ge, le)) c.loop-index.invariant
