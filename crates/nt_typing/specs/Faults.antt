-- The faults of an expression, each with what it rests on.
use Rattle.std.specs.Prelude.{◌≡◌, ℕ, ◌*◌, Bool, true, false, List, [], ◌∷◌, map, length, Option, Some, None, Result, Ok, Err}
use Rattle.nt_value.specs.Digits.{LeafValue}
use Rattle.nt_value.specs.declared.leaf.Leaf.{Leaf}
use Rattle.nt_value.specs.declared.literal.Literal.{Literal}
use Rattle.nt_value.specs.declared.place.Place.{Place}
use Rattle.nt_value.specs.declared.operator.Unary.{Unary}
use Rattle.nt_value.specs.declared.operator.Binary.{Binary}
use Rattle.nt_diag.specs.declared.rule.Rule.{Rule}
use Rattle.nt_diag.specs.declared.rule.Rule.TheVariants as rule
use Rattle.nt_ast.specs.declared.path.Path.{Path}
use Rattle.nt_ast.specs.declared.expr.Key.{Key}
use Rattle.nt_ast.specs.declared.expr.Expr.{Expr}
use Rattle.nt_ast.specs.declared.expr.Expr.TheOpen.{Expr-F}
use Rattle.nt_ast.specs.declared.expr.Expr.TheViews.{out-Expr}
use Rattle.nt_const.specs.Tables.{Counts, IsKnown, count_of, width_of}
use Rattle.nt_ast.specs.Places.{Node, place_of}
use Rattle.nt_design.specs.declared.tree.Tree.{Tree}
use Rattle.nt_kinds.specs.declared.kind.Kind.{Kind}
use Rattle.nt_kinds.specs.declared.kind.Kind.TheViews.{out-Kind}
use Rattle.nt_typing.specs.declared.scope.Callable.{Callable}
use Rattle.nt_typing.specs.declared.scope.Scope.{Scope}
use Rattle.nt_kinds.specs.Kinds.{Equivalent}
use Rattle.nt_typing.specs.Kinds.{leaf_of}
use Rattle.nt_typing.specs.Names.{meaning_of}
use Rattle.nt_typing.specs.Constants.{Constant, Inconstant}
use Rattle.nt_typing.specs.Tables.{thing_leaf, thing_of, member_of, member_place, item_of, part_of, indexed_of, size_of, time_in, copies, concat_thing, called, answer_of, planned, given}
use Rattle.nt_typing.specs.declared.thing.Thing.{Thing}
use Rattle.nt_typing.specs.declared.thing.Thing.TheVariants.{Value as value, Many as many}
use Rattle.nt_typing.specs.Typing.{Stands, Alone, Itself, Several, AllGo}

-- what is asked of an operand: an integral value; what can be selected from; a constant width, or a bound or count; to go to a type
pub data Need : Type 0 where
  leaf : Need
  base : Need
  known : Need
  count : Need
  goes : Kind → Need

abbrev pub Meets : Need → LeafValue → Type 0
Meets leaf v = Unit {0}
Meets base v = Unit {0}
Meets known v = IsKnown v
Meets count v = Counts v
Meets (goes k) v = Unit {0}

-- asked of a constant
abbrev pub is_constant : Need → Bool
is_constant leaf = false
is_constant base = false
is_constant known = true
is_constant count = true
is_constant (goes k) = false

abbrev pub Asked : Type 0
Asked = List (Need × Expr)

abbrev pub all_leaf : List Expr → Asked
all_leaf xs = map (λ x. (leaf, x)) xs

abbrev pub all_go : List (Expr × Kind) → Asked
all_go plan = map (λ p. (goes p.1, p.0)) plan

abbrev pub asked_of : Result Callable Rule → List Expr → Asked
asked_of (Err r) xs = []
asked_of (Ok f) xs = all_go (given xs f.args)

-- what a node asks of its operands. Those of a call that may not be called aren't looked at: the call stands before them
abbrev pub asked : Scope → Node → Asked
asked s (Expr-F.Literal at v) = []
asked s (Expr-F.Read at path) = []
asked s (Expr-F.Member at x name_at name) = (base, x) ∷ []
asked s (Expr-F.Item at x y) = (base, x) ∷ (leaf, y) ∷ []
asked s (Expr-F.Part at x y z) = (base, x) ∷ (count, y) ∷ (count, z) ∷ []
asked s (Expr-F.Indexed at x y z up) = (base, x) ∷ (leaf, y) ∷ (known, z) ∷ []
asked s (Expr-F.Unary at op x) = (leaf, x) ∷ []
asked s (Expr-F.Binary at op x y) = (leaf, x) ∷ (leaf, y) ∷ []
asked s (Expr-F.Choose at z x y) = (leaf, z) ∷ (leaf, x) ∷ (leaf, y) ∷ []
asked s (Expr-F.Concat at xs) = all_leaf xs
asked s (Expr-F.Repeat at x xs) = (count, x) ∷ all_leaf xs
asked s (Expr-F.Pattern at items) = []
asked s (Expr-F.Call at path xs) = asked_of (called (meaning_of s path) (length xs)) xs
asked s (Expr-F.Size at x) = (base, x) ∷ []
asked s (Expr-F.Time at) = []
asked s (Expr-F.Sign at b x) = (leaf, x) ∷ []

-- a fault of the node itself, which rests on its operands
pub data Wrong : Scope → Node → Rule → Place → Type 0 where
  read : {s : Scope} {r : Rule} (at : Place) (path : Path) → thing_of (meaning_of s path) ≡ Err r → Wrong s (Expr-F.Read at path) r at
  member : {s : Scope} {g : Thing} {r : Rule} (at : Place) (x : Expr) (name_at : Place) (name : List ℕ)
      → Stands s (out-Expr x) g → member_of g name ≡ Err r → Wrong s (Expr-F.Member at x name_at name) r (member_place r at name_at)
  item : {s : Scope} {g : Thing} {m : Leaf} {i : Tree} {r : Rule} (at : Place) (x y : Expr)
      → Stands s (out-Expr x) g → Itself s (out-Expr y) m i → item_of g m i ≡ Err r → Wrong s (Expr-F.Item at x y) r at
  part : {s : Scope} {g : Thing} {a b : LeafValue} {r : Rule} (at : Place) (x y z : Expr)
      → Stands s (out-Expr x) g → Constant s (out-Expr y) a → Counts a → Constant s (out-Expr z) b → Counts b
      → part_of g (count_of a) (count_of b) ≡ Err r → Wrong s (Expr-F.Part at x y z) r at
  indexed : {s : Scope} {g : Thing} {m : Leaf} {i : Tree} {n : LeafValue} {r : Rule} (at : Place) (x y z : Expr) (up : Bool)
      → Stands s (out-Expr x) g → Itself s (out-Expr y) m i → Constant s (out-Expr z) n → IsKnown n
      → indexed_of g up m i (width_of n) ≡ Err r → Wrong s (Expr-F.Indexed at x y z up) r at
  concat : {s : Scope} {n : ℕ} {four : Bool} {ts : List Tree} {r : Rule} (at : Place) (xs : List Expr)
      → Several s xs n four ts → concat_thing n four ts ≡ Err r → Wrong s (Expr-F.Concat at xs) r at
  repeated : {s : Scope} {v : LeafValue} {n : ℕ} {four : Bool} {ts : List Tree} {r : Rule} (at : Place) (x : Expr) (xs : List Expr)
      → Constant s (out-Expr x) v → Counts v → Several s xs n four ts
      → concat_thing (count_of v * n) four (copies (count_of v) ts) ≡ Err r → Wrong s (Expr-F.Repeat at x xs) r at
  uncalled : {s : Scope} {r : Rule} (at : Place) (path : Path) (xs : List Expr)
      → called (meaning_of s path) (length xs) ≡ Err r → Wrong s (Expr-F.Call at path xs) r at
  worthless : {s : Scope} {f : Callable} {ts : List Tree} {r : Rule} (at : Place) (path : Path) (xs : List Expr)
      → called (meaning_of s path) (length xs) ≡ Ok f → AllGo s (given xs f.args) ts
      → answer_of f.result f.number ts ≡ Err r → Wrong s (Expr-F.Call at path xs) r at
  size : {s : Scope} {g : Thing} {r : Rule} (at : Place) (x : Expr) → Stands s (out-Expr x) g → size_of g ≡ Err r → Wrong s (Expr-F.Size at x) r at
  time : {s : Scope} {r : Rule} (at : Place) → time_in s.inside ≡ Err r → Wrong s (Expr-F.Time at) r at
  -- a pattern stands only where a type is known
  pattern : {s : Scope} (at : Place) (items : List (Option Key × Expr)) → Wrong s (Expr-F.Pattern at items) rule.T8 at

-- what takes its context, so that nothing can be selected from it
pub data Flowing : Node → Type 0 where
  literal_flows : (at : Place) (v : Literal) → Flowing (Expr-F.Literal at v)
  unary_flows : (at : Place) (op : Unary) (x : Expr) → Flowing (Expr-F.Unary at op x)
  binary_flows : (at : Place) (op : Binary) (x y : Expr) → Flowing (Expr-F.Binary at op x y)
  choose_flows : (at : Place) (z x y : Expr) → Flowing (Expr-F.Choose at z x y)

abbrev pub is_pattern : Node → Bool
is_pattern (Expr-F.Pattern at items) = true
is_pattern _ = false

-- a thing goes to a type without a leaf: a value of an equivalent type (6.22.2)
abbrev pub GoesTo : Thing → Kind → Type 0
GoesTo (value j a) k = Equivalent (out-Kind j) (out-Kind k)
GoesTo (many j) k = ⊥

mutual
  -- a fault of an expression by itself
  pub data Fault : Scope → Node → Rule → Place → Type 0 where
    itself_wrong : {s : Scope} {x : Node} {r : Rule} {p : Place} → Wrong s x r p → Fault s x r p
    in_operand : {s : Scope} {r : Rule} {p : Place} (x : Node) → Among s (asked s x) r p → Fault s x r p

  pub data Among : Scope → Asked → Rule → Place → Type 0 where
    here : {s : Scope} {n : Need} {r : Rule} {p : Place} (x : Expr) (rest : Asked) → Misses s n (out-Expr x) r p → Among s ((n, x) ∷ rest) r p
    there : {s : Scope} {n : Need} {r : Rule} {p : Place} (x : Expr) (rest : Asked) → Among s rest r p → Among s ((n, x) ∷ rest) r p

  -- an operand isn't what is asked of it
  pub data Misses : Scope → Need → Node → Rule → Place → Type 0 where
    leaf_faulty : {s : Scope} {x : Node} {r : Rule} {p : Place} → Fault s x r p → Misses s leaf x r p
    leaf_missing : {s : Scope} {x : Node} {h : Thing} → Stands s x h → thing_leaf h ≡ None → Misses s leaf x rule.T8 (place_of x)
    base_faulty : {s : Scope} {x : Node} {r : Rule} {p : Place} → Fault s x r p → Misses s base x r p
    base_missing : {s : Scope} {x : Node} {l : Leaf} → Flowing x → Alone s x l → Misses s base x rule.T8 (place_of x)
    inconstant : {s : Scope} {n : Need} {x : Node} {r : Rule} {p : Place} → is_constant n ≡ true → Inconstant s x r p → Misses s n x r p
    unmet : {s : Scope} {n : Need} {x : Node} {v : LeafValue} → is_constant n ≡ true → Constant s x v → (Meets n v → ⊥) → Misses s n x rule.T3 (place_of x)
    not_going : {s : Scope} {k : Kind} {x : Node} {r : Rule} {p : Place} → FaultTo s x k r p → Misses s (goes k) x r p

  -- a fault of the right side of an assignment to a type
  pub data FaultTo : Scope → Node → Kind → Rule → Place → Type 0 where
    faulty : {s : Scope} {x : Node} {k : Kind} {r : Rule} {p : Place} → is_pattern x ≡ false → Fault s x r p → FaultTo s x k r p
    no_leaf : {s : Scope} {x : Node} {k : Kind} {l : Leaf} → leaf_of k ≡ None → Alone s x l → FaultTo s x k rule.T8 (place_of x)
    unlike : {s : Scope} {x : Node} {k : Kind} {h : Thing}
        → Stands s x h → thing_leaf h ≡ None → leaf_of k ≡ None → (GoesTo h k → ⊥) → FaultTo s x k rule.T8 (place_of x)
    no_value : {s : Scope} {x : Node} {k : Kind} {h : Thing} {to : Leaf}
        → Stands s x h → thing_leaf h ≡ None → leaf_of k ≡ Some to → FaultTo s x k rule.T8 (place_of x)
    unplanned : {s : Scope} {k : Kind} (at : Place) (items : List (Option Key × Expr)) → planned k items ≡ None → FaultTo s (Expr-F.Pattern at items) k rule.T8 at
    in_item : {s : Scope} {k : Kind} {plan : List (Expr × Kind)} {r : Rule} {p : Place} (at : Place) (items : List (Option Key × Expr))
        → planned k items ≡ Some plan → Among s (all_go plan) r p → FaultTo s (Expr-F.Pattern at items) k r p

-- what the call refuses
pub data Unbound : Scope → Node → Option Kind → Rule → Place → Type 0 where
  unbound_to : {s : Scope} {x : Node} {k : Kind} {r : Rule} {p : Place} → FaultTo s x k r p → Unbound s x (Some k) r p
  unbound : {s : Scope} {x : Node} {r : Rule} {p : Place} → Fault s x r p → Unbound s x None r p
  unbound_many : {s : Scope} {x : Node} {k : Kind} → Stands s x (many k) → Unbound s x None rule.T8 (place_of x)
