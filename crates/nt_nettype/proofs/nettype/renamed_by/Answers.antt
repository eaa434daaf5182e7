use Rattle.nt_types.specs.Opened.{view_of}
use Rattle.nt_nettype.specs.Nettypes.{world}
use Rattle.nt_nettype.proofs.Nettyping.{renamed_is}
use Rattle.nt_nettype.proofs.nettype.renamed_by.Goals as goal

pub returns-in-Named : goal.returns-in-Named
returns-in-Named c =
    renamed_is (world (view_of c.args.types.now.names.scopes.now) c.args.types.now.names.known.now c.args.types.now.table.now c.args.functions.now c.args.before.now) c.args.base.now c.in-Named.at c.in-Named.path c.meaning.result _ c.in-Named.is
    c.meaning.ensures c.named.ensures
