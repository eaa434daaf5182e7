use Rattle.nt_nettype.specs.Nettypes.{faulty}
use Rattle.nt_nettype.proofs.Nettyping.{again_told}
use Rattle.nt_nettype.proofs.nettype.other_name.Goals as goal

pub returns-in-Faulty : goal.returns-in-Faulty
returns-in-Faulty c = rw c.in-Faulty.is (faulty _)

pub returns-in-Some : goal.returns-in-Some
returns-in-Some c =
    again_told c.args.item.now c.args.seen.now c.in-Known.nettype c.in-Some._path c.refused.result c.base_place.result c.get.result.now c.in-Known.is c.in-Some.is c.refused.ensures c.base_place.ensures c.get.ensures
