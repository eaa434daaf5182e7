use Rattle.std.proofs.Common.{◌∙◌}
use Rattle.nt_value.specs.Logic.{xnor_digit}
use Rattle.nt_value.proofs.Bitwise.{fits_pair, seen_pair}
use Rattle.nt_value.proofs.Tables.{xnor_ones, xnor_unknown, xnor_words}
use Rattle.nt_value.proofs.bits.Bits.xnor.Goals as goal

pub from_words-requires-clause-ones : goal.from_words-requires-clause-ones
from_words-requires-clause-ones c =
    rw c.low_ones.ensures
    (fits_pair xnor_ones xnor_words.ones_half xnor_words.ones_none c.self.inside c.other.inside c.args.self c.args.other c.self.view_is c.other.view_is c.requires c.self.invariant c.other.invariant)

pub from_words-requires-clause-unknown : goal.from_words-requires-clause-unknown
from_words-requires-clause-unknown c =
    fits_pair xnor_unknown xnor_words.unknown_half xnor_words.unknown_none c.self.inside c.other.inside c.args.self c.args.other c.self.view_is c.other.view_is c.requires c.self.invariant c.other.invariant

pub returns : goal.returns
returns c =
    let made = rw c.low_ones.ensures at c.from_words.ensures in
    made ∙ seen_pair xnor_digit xnor_ones xnor_unknown xnor_words c.self.inside c.other.inside c.args.self c.args.other c.self.view_is c.other.view_is c.requires
