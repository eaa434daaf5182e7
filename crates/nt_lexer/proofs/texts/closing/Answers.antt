use Rattle.std.proofs.Common.{◌∙◌, sym, ap, arith, drop, length, ◌-◌, length-drop}
use Rattle.std.proofs.lemmas.List.{take_all}
use Rattle.nt_lexer.specs.Pieces.{begins_with}
use Rattle.nt_lexer.proofs.Marks.{closing_step}
use Rattle.nt_lexer.proofs.texts.closing.Goals as goal

pub loop-at-preserved : goal.loop-at-preserved
loop-at-preserved c = (
  closing_step c.loop-at.at c.args.text.now c.loop-at-test.true c.loop-at.invariant.0
      (ap (begins_with 42 47) (sym (take_all (length c.args.text.now - c.loop-at.at) (drop c.loop-at.at c.args.text.now) (omega (arith, length-drop c.loop-at.at c.args.text.now))))
      ∙ sym c.begins_with.ensures.value ∙ c.if-begins_with.false),
  omega (arith, c.loop-at-test.true),
)
