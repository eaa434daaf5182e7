use Rattle.std.proofs.Common.{◌≡◌, ◌<◌, length, get_or, subst}
use Rattle.nt_observe.proofs.Once.{scoped_more}
use Rattle.nt_observe.proofs.objects.objects_of.Goals as goal

pub loop-scoped-preserved : goal.loop-scoped-preserved
loop-scoped-preserved c =
    let lt : c.loop-scoped.scoped-index < length c.args.design.now.scopes = subst (λ xs. c.loop-scoped.scoped-index < length xs) c.as_slice-scoped-items.ensures c.loop-scoped-test.true in
    let at : c.scoped-item.result ≡ get_or c.args.design.now.scopes c.loop-scoped.scoped-index c.scoped-item.result = subst (λ xs. c.scoped-item.result ≡ get_or xs c.loop-scoped.scoped-index c.scoped-item.result) c.as_slice-scoped-items.ensures c.scoped-item.is in
    scoped_more c.args.design.now.scopes c.loop-scoped.scoped-index c.scoped-item.result c.loop-scoped.all c.add.new.all lt at c.loop-scoped.invariant c.in_ok-add.ensures
