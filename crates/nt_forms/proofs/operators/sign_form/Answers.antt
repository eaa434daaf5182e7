use Rattle.nt_forms.proofs.Finishing.{if_ok}
use Rattle.nt_forms.proofs.Operating.{sign_drawn}
use Rattle.nt_forms.proofs.operators.sign_form.Goals as goal

pub returns : goal.returns
returns c =
    if_ok c.new.result (λ d h. sign_drawn d c.args.signed c.args.of.size c.signed_as-to.result c.args.of.tree c.in_ok-tree.tree c.in_ok-kind.kind c.signed_as-to.ensures c.in_ok-tree.ensures c.in_ok-kind.ensures h) c.new.ensures
