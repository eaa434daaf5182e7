use Rattle.std.proofs.Common.{◌∙◌}
use Rattle.nt_value.specs.Logic.{xor_digit}
use Rattle.nt_value.proofs.Bitwise.{fits_pair, seen_pair}
use Rattle.nt_value.proofs.Tables.{xor_ones, xor_unknown, xor_words}
use Rattle.nt_value.proofs.bits.Bits.xor.Goals as goal

pub from_words-requires-clause-ones : goal.from_words-requires-clause-ones
from_words-requires-clause-ones c =
    fits_pair xor_ones xor_words.ones_half xor_words.ones_none c.self.inside c.other.inside c.args.self c.args.other c.self.view_is c.other.view_is c.requires c.self.invariant c.other.invariant

pub from_words-requires-clause-unknown : goal.from_words-requires-clause-unknown
from_words-requires-clause-unknown c =
    fits_pair xor_unknown xor_words.unknown_half xor_words.unknown_none c.self.inside c.other.inside c.args.self c.args.other c.self.view_is c.other.view_is c.requires c.self.invariant c.other.invariant

pub returns : goal.returns
returns c =
    c.from_words.ensures ∙ seen_pair xor_digit xor_ones xor_unknown xor_words c.self.inside c.other.inside c.args.self c.args.other c.self.view_is c.other.view_is c.requires
