-- What an expression is bound to: its typed tree, or its least fault.
use Rattle.std.specs.Prelude.{◌≤◌, false, Option, Some, None, Result, Ok, Err}
use Rattle.nt_value.specs.declared.leaf.Leaf.{Leaf}
use Rattle.nt_diag.specs.declared.refusal.Fault.{Fault as Failure}
use Rattle.nt_diag.specs.declared.refusal.Fault.TheVariants as fault
use Rattle.nt_ast.specs.Places.{Node}
use Rattle.nt_const.specs.Tables.{bit}
use Rattle.nt_design.specs.declared.tree.Tree.{Tree}
use Rattle.nt_kinds.specs.declared.kind.Kind.{Kind}
use Rattle.nt_typing.specs.declared.scope.Scope.{Scope}
use Rattle.nt_typing.specs.Typing.{Binds}
use Rattle.nt_typing.specs.Places.{RefusesBinding}
use Rattle.nt_drafts.specs.declared.drafts.Draft.{Draft}
use Rattle.nt_drafts.specs.declared.drafts.Draft.TheOpen.{Draft-F}
use Rattle.nt_forms.specs.declared.operands.Several.{Several}

-- with a type as an assignment to it, else by itself
abbrev pub BindsTo : Scope → Node → Option Kind → Result Tree Failure → Type 0
BindsTo s x to (Ok a) = Binds s x to a
BindsTo s x to (Err (fault.Refused r)) = RefusesBinding s x to r
BindsTo s x to (Err (fault.OutOfMemory e)) = Unit {0}

-- the context in which a draft becomes the tree of its expression by itself: a structure or an array becomes it in any
abbrev pub own_context : Draft-F Draft → Option Leaf
own_context (Draft-F.Closed l kind a) = Some l
own_context (Draft-F.Whole kind a) = Some (bit false)
own_context (Draft-F.Many element) = None
own_context (Draft-F.Literal l v) = Some l
own_context (Draft-F.Unary l op inner x) = Some l
own_context (Draft-F.Binary l op first x second y) = Some l
own_context (Draft-F.Choose l test x y) = Some l

-- of a sum of widths all over 64 are one
abbrev pub IsNarrow : Result Several Failure → Type 0
IsNarrow (Ok all) = all.width ≤ 65
IsNarrow (Err f) = Unit {0}
