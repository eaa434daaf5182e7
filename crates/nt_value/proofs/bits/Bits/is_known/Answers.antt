use Rattle.std.proofs.Common.{ap, ◌∙◌}
use Rattle.nt_value.specs.Digits.{LeafValue, all_known}
use Rattle.nt_value.proofs.Words.{known_words}
use Rattle.nt_value.proofs.bits.Bits.is_known.Goals as goal

pub returns-clause-value : goal.returns-clause-value
returns-clause-value c =
    let i = c.self.inside in
    known_words i.leaf.width i.ones i.unknown c.self.invariant.unknown ∙ ap (λ (v : LeafValue). all_known v.digits) c.self.view_is
