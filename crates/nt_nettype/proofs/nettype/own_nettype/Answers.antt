use Rattle.std.proofs.Common.{ap, ◌∙◌}
use Rattle.std.specs.Prelude.{Err}
use Rattle.std.proofs.lemmas.Result.{err_from_is_err_and}
use Rattle.nt_types.specs.Opened.{view_of}
use Rattle.nt_nettype.specs.Nettypes.{world}
use Rattle.nt_nettype.proofs.Nettyping.{type_passed, choice_passed, own_told}
use Rattle.nt_nettype.proofs.nettype.own_nettype.Goals as goal

pub returns-in_err-kind : goal.returns-in_err-kind
returns-in_err-kind c =
    let p = err_from_is_err_and c.from_residual.result c.from_residual.ensures.1 in
    type_passed (world (view_of c.args.types.now.names.scopes.now) c.args.types.now.names.known.now c.args.types.now.table.now c.args.functions.now c.args.before.now) c.args.item.now c.get.result.now c.from_residual.result c.in_err-kind.field-0.0
    (p.1 ∙ ap (λ f. Err f) p.2) c.get.ensures c.requires.own c.in_err-kind.ensures

pub returns-in_err-resolver : goal.returns-in_err-resolver
returns-in_err-resolver c =
    let p = err_from_is_err_and c.from_residual-in_err-resolver.result c.from_residual-in_err-resolver.ensures.1 in
    choice_passed (world (view_of c.args.types.now.names.scopes.now) c.args.types.now.names.known.now c.args.types.now.table.now c.args.functions.now c.args.before.now) c.args.item.now c.in_ok-kind.kind
    c.from_residual-in_err-resolver.result c.in_err-resolver.field-0.0 (p.1 ∙ ap (λ f. Err f) p.2) c.requires.own (rw c.get.ensures at c.in_ok-kind.ensures.0) c.in_err-resolver.ensures

pub returns : goal.returns
returns c =
    own_told (world (view_of c.args.types.now.names.scopes.now) c.args.types.now.names.known.now c.args.types.now.table.now c.args.functions.now c.args.before.now) c.args.item.now c.in_ok-kind.kind c.in_ok-resolver.resolver c.number.result
    c.requires.own (rw c.get.ensures at c.in_ok-kind.ensures.0) c.in_ok-resolver.ensures (rw c.as_slice.ensures at c.number.ensures)
