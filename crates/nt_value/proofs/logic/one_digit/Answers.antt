use Rattle.std.proofs.Common.{◌∙◌}
use Rattle.nt_value.proofs.Truths.{seen_one_digit}
use Rattle.nt_value.proofs.logic.one_digit.Goals as goal

pub returns : goal.returns
returns c =
    let made = rw (c.from-one.ensures, c.from-unknown.ensures, c.is_one_bit.ensures, c.is_unknown_bit.ensures) at c.from_words.ensures in
    made ∙ seen_one_digit c.args.four c.args.digit
