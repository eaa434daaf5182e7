-- What a draft says of its expression.
use Rattle.std.specs.Prelude.{◌≡◌, Some, None}
use Rattle.nt_value.specs.declared.leaf.Leaf.{Leaf}
use Rattle.nt_ast.specs.Places.{Node}
use Rattle.nt_typing.specs.declared.scope.Scope.{Scope}
use Rattle.nt_typing.specs.Typing.{Alone, Typed}
use Rattle.nt_drafts.specs.Drafts.{DraftOf, draft_leaf, draft_tree}
use Rattle.nt_drafts.specs.declared.drafts.Draft.{Draft}
use Rattle.nt_drafts.specs.declared.drafts.Draft.TheViews.{out-Draft}

-- the leaf of a draft is that of the expression by itself, and what the draft becomes in a context is the expression's tree there
pub record DraftsBecome : Type 0 where
  pub leaf : (s : Scope) (x : Node) (d : Draft) (l : Leaf) → DraftOf s x (out-Draft d) → draft_leaf (out-Draft d) ≡ Some l → Alone s x l
  pub leafless : (s : Scope) (x : Node) (d : Draft) (l : Leaf) → DraftOf s x (out-Draft d) → draft_leaf (out-Draft d) ≡ None → Alone s x l → ⊥
  pub tree : (s : Scope) (x : Node) (d : Draft) (l c : Leaf) → DraftOf s x (out-Draft d) → draft_leaf (out-Draft d) ≡ Some l → Typed s x c (draft_tree d c)
