use Rattle.std.proofs.Common.{ap, ◌∙◌, sym, drop, length, ◌-◌, arith, length-drop}
use Rattle.std.specs.List.{list_all}
use Rattle.std.proofs.lemmas.List.{take_all, drop_all}
use Rattle.nt_lexer.specs.Numbers.{is_zero}
use Rattle.nt_lexer.proofs.numbers.is_high_zero.Goals as goal

pub returns-then-digits-le32 : goal.returns-then-digits-le32
returns-then-digits-le32 c = sym (ap (list_all is_zero) (drop_all 32 c.args.digits.now c.if-digits-le32.true))

pub returns : goal.returns
returns c = c.are_zero.ensures ∙ ap (list_all is_zero) (take_all (length c.args.digits.now - 32) (drop 32 c.args.digits.now) (omega (arith, length-drop 32 c.args.digits.now)))
