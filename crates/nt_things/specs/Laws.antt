-- What an expression stands for.
use Rattle.nt_ast.specs.Places.{Node}
use Rattle.nt_typing.specs.declared.scope.Scope.{Scope}
use Rattle.nt_typing.specs.declared.thing.Thing.{Thing}
use Rattle.nt_typing.specs.Typing.{Stands}
use Rattle.nt_things.specs.Usable.{UsableScope, UsableThing}

-- of what is usable trees are made that are usable
abbrev pub StandsUsable : Type 0
StandsUsable = (s : Scope) (x : Node) (h : Thing) → UsableScope s → Stands s x h → UsableThing h
