use Rattle.std.proofs.Common.{◌∙◌}
use Rattle.nt_value.specs.Logic.{wire_digit}
use Rattle.nt_value.proofs.Bitwise.{fits_pair, seen_pair}
use Rattle.nt_value.proofs.Tables.{wire_ones, wire_unknown, wire_words}
use Rattle.nt_value.proofs.logic.wire_pair.Goals as goal

pub from_words-requires-clause-ones : goal.from_words-requires-clause-ones
from_words-requires-clause-ones c =
    fits_pair wire_ones wire_words.ones_half wire_words.ones_none c.a.inside c.b.inside c.args.a c.args.b c.a.view_is c.b.view_is c.requires c.a.invariant c.b.invariant

pub from_words-requires-clause-unknown : goal.from_words-requires-clause-unknown
from_words-requires-clause-unknown c =
    fits_pair wire_unknown wire_words.unknown_half wire_words.unknown_none c.a.inside c.b.inside c.args.a c.args.b c.a.view_is c.b.view_is c.requires c.a.invariant c.b.invariant

pub returns : goal.returns
returns c =
    c.from_words.ensures ∙ seen_pair wire_digit wire_ones wire_unknown wire_words c.a.inside c.b.inside c.args.a c.args.b c.a.view_is c.b.view_is c.requires
