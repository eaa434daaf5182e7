use Rattle.std.proofs.Common.{◌∙◌, sym}
use Rattle.nt_value.proofs.Results.{seen_plus}
use Rattle.nt_value.proofs.bits.Bits.plus.Goals as goal

pub returns : goal.returns
returns c =
    let known = sym c.is_known.ensures.value ∙ c.if-not-is_known.false in
    c.wrapped.ensures ∙ seen_plus c.self.inside c.args.self (record { view = c.self.view_is; stored = c.self.invariant; known = known })
