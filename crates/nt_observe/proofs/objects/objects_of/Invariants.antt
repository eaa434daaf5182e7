use Rattle.std.proofs.Common.{◌≡◌, take}
use Rattle.std.specs.Prelude.{option_to_list}
use Rattle.std.specs.List.{flat_map}
use Rattle.nt_design.specs.declared.design.Scoped.{Scoped}
use Rattle.nt_semantics.specs.Texts.{first_of_each}
use Rattle.nt_observe.proofs.objects.objects_of.Given as goal

abbrev pub invariant-loop-scoped : goal.invariant-loop-scoped
invariant-loop-scoped l = l.all ≡ first_of_each (flat_map (λ (s : Scoped). option_to_list s.object) (take l.scoped-index l.design.scopes))
