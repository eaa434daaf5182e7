-- The typed tree of an expression (IEEE 1800-2017, clause 11; 7.2, 7.4, 10.9, 13.4).
use Rattle.std.specs.Prelude.{◌≡◌, ℕ, ◌+◌, ◌*◌, Bool, false, ◌||◌, List, [], ◌∷◌, length, Option, Some, None, Ok}
use Rattle.nt_value.specs.Digits.{LeafValue, IsLeaf}
use Rattle.nt_value.specs.declared.leaf.Leaf.{Leaf}
use Rattle.nt_value.specs.declared.literal.Literal.{Literal}
use Rattle.nt_value.specs.declared.place.Place.{Place}
use Rattle.nt_value.specs.declared.operator.Unary.{Unary}
use Rattle.nt_value.specs.declared.operator.Binary.{Binary}
use Rattle.nt_ast.specs.declared.path.Path.{Path}
use Rattle.nt_ast.specs.declared.expr.Key.{Key}
use Rattle.nt_ast.specs.declared.expr.Expr.{Expr}
use Rattle.nt_ast.specs.declared.expr.Expr.TheOpen.{Expr-F}
use Rattle.nt_ast.specs.declared.expr.Expr.TheViews.{out-Expr}
use Rattle.nt_const.specs.Tables.{with_sign, unary_in, unary_leaf, binary_leaf, choice_leaf, literal_in, Counts, IsKnown, count_of, width_of}
use Rattle.nt_ast.specs.Places.{Node}
use Rattle.nt_design.specs.Shapes.{unary_answer, binary_answer}
use Rattle.nt_design.specs.declared.tree.Tree.{Tree}
use Rattle.nt_design.specs.declared.tree.Tree.TheVariants as t
use Rattle.nt_kinds.specs.declared.kind.Kind.{Kind}
use Rattle.nt_kinds.specs.declared.kind.Kind.TheViews.{out-Kind}
use Rattle.nt_typing.specs.declared.scope.Callable.{Callable}
use Rattle.nt_typing.specs.declared.scope.Scope.{Scope}
use Rattle.nt_kinds.specs.Kinds.{Equivalent}
use Rattle.nt_typing.specs.Kinds.{leaf_of, plain}
use Rattle.nt_typing.specs.Names.{meaning_of}
use Rattle.nt_typing.specs.Constants.{Constant}
use Rattle.nt_typing.specs.Tables.{left_context, right_context, wider, fitted, constant_tree, thing_leaf, thing_of, member_of, item_of, part_of, indexed_of, size_of, time_in, copies, concat_thing, called, answer_of, planned, given}
use Rattle.nt_typing.specs.declared.thing.Thing.{Thing}
use Rattle.nt_typing.specs.declared.thing.Thing.TheVariants.{Value as value}

mutual
  -- what takes nothing from its context: a value of a type with its tree, or a resolver's argument
  pub data Stands : Scope → Node → Thing → Type 0 where
    read : {s : Scope} {h : Thing} (at : Place) (path : Path) → thing_of (meaning_of s path) ≡ Ok h → Stands s (Expr-F.Read at path) h
    member : {s : Scope} {g h : Thing} (at : Place) (x : Expr) (name_at : Place) (name : List ℕ)
        → Stands s (out-Expr x) g → member_of g name ≡ Ok h → Stands s (Expr-F.Member at x name_at name) h
    item : {s : Scope} {g h : Thing} {m : Leaf} {i : Tree} (at : Place) (x y : Expr)
        → Stands s (out-Expr x) g → Itself s (out-Expr y) m i → item_of g m i ≡ Ok h → Stands s (Expr-F.Item at x y) h
    part : {s : Scope} {g h : Thing} {a b : LeafValue} (at : Place) (x y z : Expr)
        → Stands s (out-Expr x) g → Constant s (out-Expr y) a → Counts a → Constant s (out-Expr z) b → Counts b
        → part_of g (count_of a) (count_of b) ≡ Ok h → Stands s (Expr-F.Part at x y z) h
    indexed : {s : Scope} {g h : Thing} {m : Leaf} {i : Tree} {n : LeafValue} (at : Place) (x y z : Expr) (up : Bool)
        → Stands s (out-Expr x) g → Itself s (out-Expr y) m i → Constant s (out-Expr z) n → IsKnown n
        → indexed_of g up m i (width_of n) ≡ Ok h → Stands s (Expr-F.Indexed at x y z up) h
    concat : {s : Scope} {h : Thing} {n : ℕ} {four : Bool} {ts : List Tree} (at : Place) (xs : List Expr)
        → Several s xs n four ts → concat_thing n four ts ≡ Ok h → Stands s (Expr-F.Concat at xs) h
    repeated : {s : Scope} {h : Thing} {v : LeafValue} {n : ℕ} {four : Bool} {ts : List Tree} (at : Place) (x : Expr) (xs : List Expr)
        → Constant s (out-Expr x) v → Counts v → Several s xs n four ts
        → concat_thing (count_of v * n) four (copies (count_of v) ts) ≡ Ok h → Stands s (Expr-F.Repeat at x xs) h
    call : {s : Scope} {h : Thing} {f : Callable} {ts : List Tree} (at : Place) (path : Path) (xs : List Expr)
        → called (meaning_of s path) (length xs) ≡ Ok f → AllGo s (given xs f.args) ts
        → answer_of f.result f.number ts ≡ Ok h → Stands s (Expr-F.Call at path xs) h
    size : {s : Scope} {g h : Thing} (at : Place) (x : Expr) → Stands s (out-Expr x) g → size_of g ≡ Ok h → Stands s (Expr-F.Size at x) h
    time : {s : Scope} {h : Thing} (at : Place) → time_in s.inside ≡ Ok h → Stands s (Expr-F.Time at) h
    sign : {s : Scope} {l : Leaf} {a : Tree} (at : Place) (b : Bool) (x : Expr) → Itself s (out-Expr x) l a
        → Stands s (Expr-F.Sign at b x) (value (plain (with_sign b l)) (fitted l (with_sign b l) a))

  -- the leaf of an integral expression by itself (11.6.1, 11.8.1)
  pub data Alone : Scope → Node → Leaf → Type 0 where
    stands : {s : Scope} {x : Node} {h : Thing} {l : Leaf} → Stands s x h → thing_leaf h ≡ Some l → Alone s x l
    literal : {s : Scope} (at : Place) (v : Literal) → IsLeaf v.bits.leaf → Alone s (Expr-F.Literal at v) v.bits.leaf
    unary : {s : Scope} {l : Leaf} (at : Place) (op : Unary) (x : Expr) → Alone s (out-Expr x) l → Alone s (Expr-F.Unary at op x) (unary_leaf op l)
    binary : {s : Scope} {l m : Leaf} (at : Place) (op : Binary) (x y : Expr)
        → Alone s (out-Expr x) l → Alone s (out-Expr y) m → Alone s (Expr-F.Binary at op x y) (binary_leaf op l m)
    choose : {s : Scope} {p l m : Leaf} (at : Place) (z x y : Expr)
        → Alone s (out-Expr z) p → Alone s (out-Expr x) l → Alone s (out-Expr y) m → Alone s (Expr-F.Choose at z x y) (choice_leaf p l m)

  -- its tree in a context (11.8.2)
  pub data Typed : Scope → Node → Leaf → Tree → Type 0 where
    stands_in : {s : Scope} {x : Node} {k : Kind} {a : Tree} {l c : Leaf}
        → Stands s x (value k a) → leaf_of k ≡ Some l → Typed s x c (fitted l c a)
    literal_within : {s : Scope} {c : Leaf} (at : Place) (v : Literal) → Typed s (Expr-F.Literal at v) c (constant_tree (literal_in v c))
    unary_within : {s : Scope} {c l : Leaf} {a : Tree} (at : Place) (op : Unary) (x : Expr)
        → Alone s (out-Expr x) l → Typed s (out-Expr x) (unary_in op c l) a
        → Typed s (Expr-F.Unary at op x) c (fitted (unary_answer op (unary_in op c l)) c (t.Unary op a))
    binary_within : {s : Scope} {c l m : Leaf} {a b : Tree} (at : Place) (op : Binary) (x y : Expr)
        → Alone s (out-Expr x) l → Alone s (out-Expr y) m
        → Typed s (out-Expr x) (left_context op c l m) a → Typed s (out-Expr y) (right_context op c l m) b
        → Typed s (Expr-F.Binary at op x y) c (fitted (binary_answer op (left_context op c l m) (right_context op c l m)) c (t.Binary op a b))
    choose_within : {s : Scope} {c p : Leaf} {d a b : Tree} (at : Place) (z x y : Expr)
        → Itself s (out-Expr z) p d → Typed s (out-Expr x) c a → Typed s (out-Expr y) c b
        → Typed s (Expr-F.Choose at z x y) c (t.Choose d a b)

  -- by itself: its own leaf is its context
  pub data Itself : Scope → Node → Leaf → Tree → Type 0 where
    itself : {s : Scope} {l : Leaf} {a : Tree} (x : Node) → Alone s x l → Typed s x l a → Itself s x l a

  -- several, each by itself: the sum of the widths, and whether one has four states (11.4.12)
  pub data Several : Scope → List Expr → ℕ → Bool → List Tree → Type 0 where
    none : {s : Scope} → Several s [] 0 false []
    more : {s : Scope} {l : Leaf} {a : Tree} {n : ℕ} {four : Bool} {ts : List Tree} (x : Expr) (xs : List Expr)
        → Itself s (out-Expr x) l a → Several s xs n four ts → Several s (x ∷ xs) (l.width + n) (l.four || four) (a ∷ ts)

  -- as the right side of an assignment to a type (10.7, 10.9, 6.22.2)
  pub data Goes : Scope → Node → Kind → Tree → Type 0 where
    to_leaf : {s : Scope} {k : Kind} {l to : Leaf} {a : Tree} (x : Node)
        → leaf_of k ≡ Some to → Alone s x l → Typed s x (wider to l) a → Goes s x k (fitted (wider to l) to a)
    to_kind : {s : Scope} {j k : Kind} {a : Tree} (x : Node)
        → leaf_of k ≡ None → Stands s x (value j a) → leaf_of j ≡ None → Equivalent (out-Kind j) (out-Kind k) → Goes s x k a
    pattern : {s : Scope} {k : Kind} {plan : List (Expr × Kind)} {ts : List Tree} (at : Place) (items : List (Option Key × Expr))
        → planned k items ≡ Some plan → AllGo s plan ts → Goes s (Expr-F.Pattern at items) k (t.Gather ts)

  pub data AllGo : Scope → List (Expr × Kind) → List Tree → Type 0 where
    none_go : {s : Scope} → AllGo s [] []
    more_go : {s : Scope} {a : Tree} {ts : List Tree} (x : Expr) (k : Kind) (rest : List (Expr × Kind))
        → Goes s (out-Expr x) k a → AllGo s rest ts → AllGo s ((x, k) ∷ rest) (a ∷ ts)

-- what the call answers: with a type as an assignment to it, else by itself
pub data Binds : Scope → Node → Option Kind → Tree → Type 0 where
  binds_to : {s : Scope} {x : Node} {k : Kind} {a : Tree} → Goes s x k a → Binds s x (Some k) a
  binds_leaf : {s : Scope} {x : Node} {l : Leaf} {a : Tree} → Itself s x l a → Binds s x None a
  binds_kind : {s : Scope} {x : Node} {k : Kind} {a : Tree} → Stands s x (value k a) → leaf_of k ≡ None → Binds s x None a
