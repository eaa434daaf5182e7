use Rattle.std.proofs.Common.{◌∙◌}
use Rattle.nt_value.specs.Logic.{and_digit}
use Rattle.nt_value.proofs.Bitwise.{fits_pair, seen_pair}
use Rattle.nt_value.proofs.Tables.{and_ones, and_unknown, and_words}
use Rattle.nt_value.proofs.bits.Bits.and.Goals as goal

pub from_words-requires-clause-ones : goal.from_words-requires-clause-ones
from_words-requires-clause-ones c =
    fits_pair and_ones and_words.ones_half and_words.ones_none c.self.inside c.other.inside c.args.self c.args.other c.self.view_is c.other.view_is c.requires c.self.invariant c.other.invariant

pub from_words-requires-clause-unknown : goal.from_words-requires-clause-unknown
from_words-requires-clause-unknown c =
    fits_pair and_unknown and_words.unknown_half and_words.unknown_none c.self.inside c.other.inside c.args.self c.args.other c.self.view_is c.other.view_is c.requires c.self.invariant c.other.invariant

pub returns : goal.returns
returns c =
    c.from_words.ensures ∙ seen_pair and_digit and_ones and_unknown and_words c.self.inside c.other.inside c.args.self c.args.other c.self.view_is c.other.view_is c.requires
