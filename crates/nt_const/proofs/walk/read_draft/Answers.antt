use Rattle.std.proofs.Common.{sym, ◌∙◌}
use Rattle.nt_const.specs.Rules.{not_constant, other, unknown_name, two_imports}
use Rattle.nt_const.proofs.Faults.{refuse_wrong}
use Rattle.nt_const.proofs.Drafting.{drafted_read}
use Rattle.nt_const.proofs.walk.read_draft.Goals as goal

pub returns-in-Value : goal.returns-in-Value
returns-in-Value g c = rw (c.new.ensures, c.leaf.ensures.value) (drafted_read _ _ _ _ (sym c.in_ok-value.ensures ∙ c.in-Value.is))

pub returns-in-Other : goal.returns-in-Other
returns-in-Other g c = rw c.refused.ensures (refuse_wrong _ _ _ (not_constant _ (other _ _ (sym c.in_ok-value.ensures ∙ c.in-Other.is))))

pub returns-in-Unknown : goal.returns-in-Unknown
returns-in-Unknown g c = rw c.refused-in-Unknown.ensures (refuse_wrong _ _ _ (unknown_name _ _ (sym c.in_ok-value.ensures ∙ c.in-Unknown.is)))

pub returns-in-Ambiguous : goal.returns-in-Ambiguous
returns-in-Ambiguous g c = rw c.refused-in-Ambiguous.ensures (refuse_wrong _ _ _ (two_imports _ _ (sym c.in_ok-value.ensures ∙ c.in-Ambiguous.is)))
