use Rattle.std.proofs.Common.{◌∙◌}
use Rattle.nt_value.specs.Logic.{or_digit}
use Rattle.nt_value.proofs.Bitwise.{fits_pair, seen_pair, sure_places}
use Rattle.nt_value.proofs.Tables.{or_ones, or_unknown, or_words}
use Rattle.nt_value.proofs.bits.Bits.or.Goals as goal

pub from_words-requires-clause-ones : goal.from_words-requires-clause-ones
from_words-requires-clause-ones c =
    fits_pair or_ones or_words.ones_half or_words.ones_none c.self.inside c.other.inside c.args.self c.args.other c.self.view_is c.other.view_is c.requires c.self.invariant c.other.invariant

pub from_words-requires-clause-unknown : goal.from_words-requires-clause-unknown
from_words-requires-clause-unknown c =
    rw (sure_places c.self.inside c.self.invariant, sure_places c.other.inside c.other.invariant)
    (fits_pair or_unknown or_words.unknown_half or_words.unknown_none c.self.inside c.other.inside c.args.self c.args.other c.self.view_is c.other.view_is c.requires c.self.invariant c.other.invariant)

pub returns : goal.returns
returns c =
    let made = rw (sure_places c.self.inside c.self.invariant, sure_places c.other.inside c.other.invariant) at c.from_words.ensures in
    made ∙ seen_pair or_digit or_ones or_unknown or_words c.self.inside c.other.inside c.args.self c.args.other c.self.view_is c.other.view_is c.requires
