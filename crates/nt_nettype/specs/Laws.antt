-- Laws: a declaration has one nettype, and a fault only where it has none; a path names one resolver, and has a fault only where it names none.
use Rattle.std.specs.Prelude.{◌≡◌, ℕ, List}
use Rattle.nt_diag.specs.declared.refusal.Refusal.{Refusal}
use Rattle.nt_ast.specs.declared.path.Path.{Path}
use Rattle.nt_items.specs.declared.item.NettypeItem.{NettypeItem}
use Rattle.nt_kinds.specs.declared.kind.Kind.{Kind}
use Rattle.nt_types.specs.Units.{UnitScopes}
use Rattle.nt_typing.specs.declared.scope.Callable.{Callable}
use Rattle.nt_nettype.specs.declared.nettype.Nettype.{Nettype}
use Rattle.nt_nettype.specs.Resolvers.{IsResolver, ResolverFault}
use Rattle.nt_nettype.specs.Nettypes.{World, IsNettype, NettypeFault}

pub record OneNettype : Type 0 where
  pub one_resolver : (s : UnitScopes) (fs : List Callable) (path : Path) (kind : Kind) (a b : ℕ) → IsResolver s fs path kind a → IsResolver s fs path kind b → a ≡ b
  pub resolver_faultless : (s : UnitScopes) (fs : List Callable) (path : Path) (kind : Kind) (n : ℕ) (r : Refusal) → IsResolver s fs path kind n → ResolverFault s fs path kind r → ⊥
  pub one : (w : World) (item : NettypeItem) (a b : Nettype) → IsNettype w item a → IsNettype w item b → a ≡ b
  pub faultless : (w : World) (item : NettypeItem) (n : Nettype) (r : Refusal) → IsNettype w item n → NettypeFault w item r → ⊥
