-- What a call answers where a table gives a thing or the number of a rule.
use Rattle.std.specs.Prelude.{◌≡◌, ◌<◌, ◌^◌, ⊤, Result, Ok, Err}
use Rattle.nt_diag.specs.declared.rule.Rule.{Rule}
use Rattle.nt_kinds.specs.Kinds.{span}
use Rattle.nt_kinds.specs.declared.kind.Kind.{Kind}
use Rattle.nt_kinds.specs.declared.kind.Kind.TheOpen.{Kind-F}
use Rattle.nt_kinds.specs.declared.kind.Kind.TheViews.{out-Kind}
use Rattle.nt_typing.specs.declared.thing.Thing.{Thing}
use Rattle.nt_typing.specs.declared.thing.Thing.TheVariants.{Value, Many}
use Rattle.nt_drafts.specs.declared.unfit.Unfit.{Unfit}
use Rattle.nt_drafts.specs.declared.unfit.Unfit.TheVariants.{Breaks, OutOfMemory}

-- the table's thing, or its rule; want of memory besides
abbrev pub Gives : Result Thing Rule → Result Thing Unfit → Type 0
Gives table (Ok h) = table ≡ Ok h
Gives table (Err (Breaks r)) = table ≡ Err r
Gives table (Err (OutOfMemory e)) = ⊤

-- an array has fewer than 2^32 elements
abbrev pub FewIn : Kind-F Kind → Type 0
FewIn (Kind-F.One leaf left right) = ⊤
FewIn (Kind-F.Struct declared members) = ⊤
FewIn (Kind-F.Array left right element) = span left right < 2 ^ 32

abbrev pub FewElements : Thing → Type 0
FewElements (Value kind a) = FewIn (out-Kind kind)
FewElements (Many kind) = ⊤
