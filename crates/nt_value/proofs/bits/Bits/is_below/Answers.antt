use Rattle.nt_value.proofs.Results.{both_seen, below_words}
use Rattle.nt_value.proofs.Signs.{below_signs}
use Rattle.nt_value.proofs.bits.Bits.is_below.Goals as goal

pub returns-then-negative-is_negative : goal.returns-then-negative-is_negative
returns-then-negative-is_negative c =
    below_signs c.args.self c.args.other _ _ c.is_negative-negative.ensures c.is_negative.ensures c.if-negative-is_negative.true

pub returns : goal.returns
returns c =
    let k = both_seen c.self.inside c.other.inside c.args.self c.args.other c.self.view_is c.other.view_is c.self.invariant c.other.invariant c.requires.known in
    below_words c.self.inside c.other.inside c.args.self c.args.other _ _ k.0 k.1 c.requires.leaf c.is_negative-negative.ensures c.is_negative.ensures c.if-negative-is_negative.false
