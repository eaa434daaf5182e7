-- Laws of equivalence.
use Rattle.std.specs.Prelude.{◌≡◌}
use Rattle.nt_kinds.specs.declared.kind.Kind.{Kind}
use Rattle.nt_kinds.specs.declared.kind.Kind.TheViews.{out-Kind}
use Rattle.nt_kinds.specs.Kinds.{Equivalent, leaves}

-- it is an equivalence, and equivalent types have equal leaves
pub record Equivalence : Type 0 where
  pub itself : (a : Kind) → Equivalent (out-Kind a) (out-Kind a)
  pub back : (a b : Kind) → Equivalent (out-Kind a) (out-Kind b) → Equivalent (out-Kind b) (out-Kind a)
  pub through : (a b c : Kind) → Equivalent (out-Kind a) (out-Kind b) → Equivalent (out-Kind b) (out-Kind c) → Equivalent (out-Kind a) (out-Kind c)
  pub shape : (a b : Kind) → Equivalent (out-Kind a) (out-Kind b) → leaves a ≡ leaves b
