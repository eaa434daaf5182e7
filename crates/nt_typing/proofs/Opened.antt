-- The shape of a tree by its first node.
use Rattle.std.proofs.Common.{◌≡◌, ℕ, Bool, List, [], ◌∷◌, map}
use Rattle.std.specs.Prelude.{slice_get}
use Rattle.nt_value.specs.Digits.{LeafValue, are_filled}
use Rattle.nt_value.specs.Values.{shape_of}
use Rattle.nt_value.specs.declared.leaf.Leaf.{Leaf}
use Rattle.nt_value.specs.declared.operator.Unary.{Unary}
use Rattle.nt_value.specs.declared.operator.Binary.{Binary}
use Rattle.nt_design.specs.Parts.{int_leaf, time_leaf}
use Rattle.nt_design.specs.Shapes.{Shaped, Scope as Design, on_shape, on_leaf, where_so, is_same_shape, concat_shape, gather_shape, unary_answer, binary_answer, are_operand_leaves, item_shape, part_shape, leaves_shape, call_shape, is_width, one_leaf, tree_shape, shape_step, object_shape, signature_at}
use Rattle.nt_design.specs.declared.object.Object.{Object}
use Rattle.nt_design.specs.declared.tree.Tree.{Tree}
use Rattle.nt_design.specs.declared.tree.Tree.TheOpen.{Tree-F}
use Rattle.nt_design.specs.declared.tree.Tree.TheVariants as t
use Rattle.nt_design.specs.declared.tree.Tree.TheViews.{roll-Tree}
use Rattle.nt_design.specs.declared.tree.Tree.TheFolds.{fold-roll-Tree}
use denote.Hole.Carrier.{roll}

module _ (d : Design) where
  pub const_shape : (v : List LeafValue) → tree_shape d (t.Const v) ≡ where_so (are_filled v) (shape_of v)
  unfolding roll-Tree roll
  const_shape v = fold-roll-Tree Shaped (shape_step d) (Tree-F.Const v)

  pub read_shape : (o : Object) → tree_shape d (t.Read o) ≡ object_shape d o
  unfolding roll-Tree roll
  read_shape o = fold-roll-Tree Shaped (shape_step d) (Tree-F.Read o)

  pub local_shape : (i : ℕ) → tree_shape d (t.Local i) ≡ slice_get d.locals i
  unfolding roll-Tree roll
  local_shape i = fold-roll-Tree Shaped (shape_step d) (Tree-F.Local i)

  pub member_shape : (a : Tree) (first count : ℕ) → tree_shape d (t.Leaves a first count) ≡ on_shape (tree_shape d a) (leaves_shape first count)
  unfolding roll-Tree roll
  member_shape a first count = fold-roll-Tree Shaped (shape_step d) (Tree-F.Leaves a first count)

  pub item_opened : (a i : Tree) (low size : ℕ) (up : Bool) → tree_shape d (t.Item a i low size up) ≡ on_shape (tree_shape d a) (λ s. on_leaf (tree_shape d i) (λ i. item_shape size s))
  unfolding roll-Tree roll
  item_opened a i low size up = fold-roll-Tree Shaped (shape_step d) (Tree-F.Item a i low size up)

  pub element_opened : (i : Tree) → tree_shape d (t.Element i) ≡ on_leaf (tree_shape d i) (λ i. d.many)
  unfolding roll-Tree roll
  element_opened i = fold-roll-Tree Shaped (shape_step d) (Tree-F.Element i)

  pub part_opened : (a i : Tree) (width : ℕ) → tree_shape d (t.Part a i width) ≡ on_leaf (tree_shape d a) (λ leaf. on_leaf (tree_shape d i) (λ i. part_shape width leaf))
  unfolding roll-Tree roll
  part_opened a i width = fold-roll-Tree Shaped (shape_step d) (Tree-F.Part a i width)

  pub unary_opened : (op : Unary) (a : Tree) → tree_shape d (t.Unary op a) ≡ on_leaf (tree_shape d a) (λ leaf. one_leaf (unary_answer op leaf))
  unfolding roll-Tree roll
  unary_opened op a = fold-roll-Tree Shaped (shape_step d) (Tree-F.Unary op a)

  pub binary_opened : (op : Binary) (a b : Tree) → tree_shape d (t.Binary op a b) ≡ on_leaf (tree_shape d a) (λ l. on_leaf (tree_shape d b) (λ r. where_so (are_operand_leaves op l r) (binary_answer op l r ∷ [])))
  unfolding roll-Tree roll
  binary_opened op a b = fold-roll-Tree Shaped (shape_step d) (Tree-F.Binary op a b)

  pub choose_opened : (z a b : Tree) → tree_shape d (t.Choose z a b) ≡ on_leaf (tree_shape d z) (λ t. on_shape (tree_shape d a) (λ s. on_shape (tree_shape d b) (λ r. where_so (is_same_shape s r) s)))
  unfolding roll-Tree roll
  choose_opened z a b = fold-roll-Tree Shaped (shape_step d) (Tree-F.Choose z a b)

  pub concat_opened : (ts : List Tree) → tree_shape d (t.Concat ts) ≡ concat_shape (map (tree_shape d) ts)
  unfolding roll-Tree roll
  concat_opened ts = fold-roll-Tree Shaped (shape_step d) (Tree-F.Concat ts)

  pub gather_opened : (ts : List Tree) → tree_shape d (t.Gather ts) ≡ gather_shape (map (tree_shape d) ts)
  unfolding roll-Tree roll
  gather_opened ts = fold-roll-Tree Shaped (shape_step d) (Tree-F.Gather ts)

  pub resize_opened : (a : Tree) (to : Leaf) → tree_shape d (t.Resize a to) ≡ on_leaf (tree_shape d a) (λ leaf. where_so (is_width to.width) (to ∷ []))
  unfolding roll-Tree roll
  resize_opened a to = fold-roll-Tree Shaped (shape_step d) (Tree-F.Resize a to)

  pub call_opened : (f : ℕ) (ts : List Tree) → tree_shape d (t.Call f ts) ≡ call_shape (signature_at d f) (map (tree_shape d) ts)
  unfolding roll-Tree roll
  call_opened f ts = fold-roll-Tree Shaped (shape_step d) (Tree-F.Call f ts)

  pub size_opened : tree_shape d t.Size ≡ on_shape d.many (λ s. one_leaf int_leaf)
  unfolding roll-Tree roll
  size_opened = fold-roll-Tree Shaped (shape_step d) Tree-F.Size

  pub time_opened : tree_shape d t.Time ≡ one_leaf time_leaf
  unfolding roll-Tree roll
  time_opened = fold-roll-Tree Shaped (shape_step d) Tree-F.Time
