use Rattle.std.proofs.Common.{◌∙◌, sym}
use Rattle.nt_value.proofs.Results.{both_seen, seen_difference}
use Rattle.nt_value.proofs.bits.Bits.subtract.Goals as goal

pub returns : goal.returns
returns c =
    let k = both_seen c.self.inside c.other.inside c.args.self c.args.other c.self.view_is c.other.view_is c.self.invariant c.other.invariant (sym c.is_known_with.ensures ∙ c.if-not-is_known_with.false) in
    c.wrapped.ensures ∙ seen_difference c.self.inside c.other.inside c.args.self c.args.other k.0 k.1 c.requires
