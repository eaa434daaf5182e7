use Rattle.nt_nettype.proofs.Resolving.{one_resolver, resolver_faultless}
use Rattle.nt_nettype.proofs.Nettyping.{one_nettype, nettype_faultless}
use Rattle.nt_nettype.proofs.laws.one_nettype.Goals as goal

pub returns : goal.returns
returns c =
    record {
      one_resolver = λ s fs path kind a b m n. one_resolver s fs path kind a b m n;
      resolver_faultless = λ s fs path kind n r m f. resolver_faultless s fs path kind n r m f;
      one = λ w item a b m n. one_nettype w item a b m n;
      faultless = λ w item n r m f. nettype_faultless w item n r m f;
    }
