use Rattle.nt_value.proofs.Flips.{seen_with_digit, stored_with_digit}
use Rattle.nt_value.proofs.bits.Bits.with_digit.Goals as goal

pub invariant_of-result : goal.invariant_of-result
invariant_of-result c =
    rw (c.with_bit.ensures, c.with_bit-2.ensures, c.is_one_bit.ensures, c.is_unknown_bit.ensures)
    (stored_with_digit c.self.inside c.args.self c.args.at c.args.digit c.self.view_is c.self.invariant c.requires.within c.requires.fits)

pub returns : goal.returns
returns c =
    rw (c.with_bit.ensures, c.with_bit-2.ensures, c.is_one_bit.ensures, c.is_unknown_bit.ensures)
    (seen_with_digit c.self.inside c.args.self c.args.at c.args.digit c.self.view_is)
