use Rattle.std.proofs.Common.{sym, ap, ◌∙◌}
use Rattle.std.specs.Prelude.{option_map}
use Rattle.nt_types.specs.Opened.{view_of}
use Rattle.nt_nettype.specs.Nettypes.{world}
use Rattle.nt_nettype.proofs.Nettyping.{renamed_told}
use Rattle.nt_nettype.proofs.nettype.nettype_of.Goals as goal

pub returns-in-Some : goal.returns-in-Some
returns-in-Some c =
    renamed_told (world (view_of c.args.types.now.names.scopes.now) c.args.types.now.names.known.now c.args.types.now.table.now c.args.functions.now c.args.before.now) c.args.item.now c.in-Some.seen.now c.other_name.result
    (sym (rw c.get.ensures at c.renamed_by.ensures) ∙ ap (λ o. option_map (λ n. n.now) o) c.in-Some.is) c.other_name.ensures
