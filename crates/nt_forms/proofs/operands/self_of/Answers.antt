use Rattle.nt_forms.proofs.Asking.{itself_of}
use Rattle.nt_forms.proofs.operands.self_of.Goals as goal

pub returns : goal.returns
returns c = λ s x h. itself_of c.args.one.draft c.args.one.size _ c.in_ok-tree.ensures h.0 h.1
