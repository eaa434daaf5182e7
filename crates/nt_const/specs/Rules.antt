-- Width, sign and value of a constant expression, and its faults (IEEE 1800-2017, clause 11).
use Rattle.std.specs.Prelude.{◌≡◌, ℕ, suc, ◌+◌, ◌-◌, ◌*◌, Bool, true, false, ◌||◌, List, [], ◌∷◌, Option, Some}
use Rattle.nt_value.specs.Digits.{LeafValue}
use Rattle.nt_value.specs.Operators.{unsigned_leaf, resize_of, unary_of, binary_of, merge_of}
use Rattle.nt_value.specs.declared.leaf.Leaf.{Leaf}
use Rattle.nt_value.specs.declared.literal.Literal.{Literal}
use Rattle.nt_value.specs.declared.place.Place.{Place}
use Rattle.nt_value.specs.declared.operator.Unary.{Unary}
use Rattle.nt_value.specs.declared.operator.Binary.{Binary}
use Rattle.nt_diag.specs.declared.rule.Rule.{Rule}
use Rattle.nt_diag.specs.declared.rule.Rule.TheVariants as rule
use Rattle.nt_ast.specs.declared.path.Path.{Path}
use Rattle.nt_ast.specs.declared.expr.Key.{Key}
use Rattle.nt_ast.specs.declared.expr.Expr.{Expr}
use Rattle.nt_ast.specs.declared.expr.Expr.TheOpen.{Expr-F}
use Rattle.nt_ast.specs.declared.expr.Expr.TheViews.{out-Expr}
use Rattle.nt_ast.specs.Places.{Node, place_of}
use Rattle.nt_const.specs.declared.seen.Seen.{Seen}
use Rattle.nt_const.specs.declared.seen.Seen.TheVariants as seen
use Rattle.nt_const.specs.Tables.{with_sign, bit, unary_leaf, unary_in, binary_leaf, left_in, right_in, choice_leaf, literal_in, IsWidth, IsKnown, Counts, count_of, width_of, taken, indexed_of, joint, times}

-- what is seen of each name: its value, something that is no constant, nothing, or what two imports give
abbrev pub Names : Type 0
Names = Path → Seen

mutual
  -- the leaf of an expression by itself (IEEE 1800-2017, 11.6.1, 11.8.1)
  pub data Alone : Names → Node → Leaf → Type 0 where
    literal : {k : Names} (at : Place) (v : Literal) → Alone k (Expr-F.Literal at v) v.bits.leaf
    read : {k : Names} (at : Place) (path : Path) (b : LeafValue) → k path ≡ seen.Value b → Alone k (Expr-F.Read at path) b.leaf
    -- a bit select is unsigned (11.5.1, 11.8.1)
    item : {k : Names} {l m : Leaf} (at : Place) (x y : Expr)
        → Alone k (out-Expr x) l → Alone k (out-Expr y) m → Alone k (Expr-F.Item at x y) (bit l.four)
    part : {k : Names} {l : Leaf} {a b : LeafValue} (at : Place) (x y z : Expr)
        → Alone k (out-Expr x) l → Own k (out-Expr y) a → Counts a → Own k (out-Expr z) b → Counts b
        → IsWidth (suc (count_of a) - count_of b)
        → Alone k (Expr-F.Part at x y z) (unsigned_leaf (suc (count_of a) - count_of b) l.four)
    indexed : {k : Names} {l m : Leaf} {n : LeafValue} (at : Place) (x y z : Expr) (up : Bool)
        → Alone k (out-Expr x) l → Alone k (out-Expr y) m → Own k (out-Expr z) n → IsKnown n → IsWidth (width_of n)
        → Alone k (Expr-F.Indexed at x y z up) (unsigned_leaf (width_of n) l.four)
    unary : {k : Names} {l : Leaf} (at : Place) (op : Unary) (x : Expr)
        → Alone k (out-Expr x) l → Alone k (Expr-F.Unary at op x) (unary_leaf op l)
    binary : {k : Names} {l m : Leaf} (at : Place) (op : Binary) (x y : Expr)
        → Alone k (out-Expr x) l → Alone k (out-Expr y) m → Alone k (Expr-F.Binary at op x y) (binary_leaf op l m)
    choose : {k : Names} {t l m : Leaf} (at : Place) (p x y : Expr)
        → Alone k (out-Expr p) t → Alone k (out-Expr x) l → Alone k (out-Expr y) m
        → Alone k (Expr-F.Choose at p x y) (choice_leaf t l m)
    -- the widths are added (11.4.12)
    concat : {k : Names} {n : ℕ} {four : Bool} (at : Place) (xs : List Expr)
        → Parts k xs n four → IsWidth n → Alone k (Expr-F.Concat at xs) (unsigned_leaf n four)
    -- and taken so many times (11.4.12.1)
    repeated : {k : Names} {n : ℕ} {four : Bool} {v : LeafValue} (at : Place) (x : Expr) (xs : List Expr)
        → Own k (out-Expr x) v → Counts v → Parts k xs n four → IsWidth (count_of v * n)
        → Alone k (Expr-F.Repeat at x xs) (unsigned_leaf (count_of v * n) four)
    -- `$signed` and `$unsigned` (11.7)
    sign : {k : Names} {l : Leaf} (at : Place) (s : Bool) (x : Expr)
        → Alone k (out-Expr x) l → Alone k (Expr-F.Sign at s x) (with_sign s l)

  -- the sum of the widths of several, and whether one has four states
  pub data Parts : Names → List Expr → ℕ → Bool → Type 0 where
    none : {k : Names} → Parts k [] 0 false
    more : {k : Names} {l : Leaf} {n : ℕ} {four : Bool} (x : Expr) (xs : List Expr)
        → Alone k (out-Expr x) l → Parts k xs n four → Parts k (x ∷ xs) (l.width + n) (l.four || four)

  -- the value of an expression that takes a leaf from its context: the leaf goes down to the operands
  -- that take theirs from it, which are first given their sign and then extended (IEEE 1800-2017, 11.8.2)
  pub data Within : Names → Node → Leaf → LeafValue → Type 0 where
    literal_within : {k : Names} {c : Leaf} (at : Place) (v : Literal) → Within k (Expr-F.Literal at v) c (literal_in v c)
    read_within : {k : Names} {c : Leaf} (at : Place) (path : Path) (b : LeafValue)
        → k path ≡ seen.Value b → Within k (Expr-F.Read at path) c (resize_of b c)
    item_within : {k : Names} {c : Leaf} {v i : LeafValue} (at : Place) (x y : Expr)
        → Own k (out-Expr x) v → Own k (out-Expr y) i → Within k (Expr-F.Item at x y) c (resize_of (indexed_of true v i 1) c)
    part_within : {k : Names} {c : Leaf} {v a b : LeafValue} (at : Place) (x y z : Expr)
        → Own k (out-Expr x) v → Own k (out-Expr y) a → Own k (out-Expr z) b
        → Within k (Expr-F.Part at x y z) c (resize_of (taken v (count_of b) (suc (count_of a) - count_of b)) c)
    indexed_within : {k : Names} {c : Leaf} {v i n : LeafValue} (at : Place) (x y z : Expr) (up : Bool)
        → Own k (out-Expr x) v → Own k (out-Expr y) i → Own k (out-Expr z) n
        → Within k (Expr-F.Indexed at x y z up) c (resize_of (indexed_of up v i (width_of n)) c)
    unary_within : {k : Names} {c l : Leaf} {a : LeafValue} (at : Place) (op : Unary) (x : Expr)
        → Alone k (out-Expr x) l → Within k (out-Expr x) (unary_in op c l) a
        → Within k (Expr-F.Unary at op x) c (resize_of (unary_of op a) c)
    binary_within : {k : Names} {c l m : Leaf} {a b : LeafValue} (at : Place) (op : Binary) (x y : Expr)
        → Alone k (out-Expr x) l → Alone k (out-Expr y) m
        → Within k (out-Expr x) (left_in op c l m) a → Within k (out-Expr y) (right_in op c l m) b
        → Within k (Expr-F.Binary at op x y) c (resize_of (binary_of op a b) c)
    choose_within : {k : Names} {c : Leaf} {d a b : LeafValue} (at : Place) (p x y : Expr)
        → Own k (out-Expr p) d → Within k (out-Expr x) c a → Within k (out-Expr y) c b
        → Within k (Expr-F.Choose at p x y) c (merge_of d a b)
    concat_within : {k : Names} {c : Leaf} {vs : List LeafValue} {v : LeafValue} (at : Place) (xs : List Expr)
        → Owns k xs vs → joint vs ≡ Some v → Within k (Expr-F.Concat at xs) c (resize_of v c)
    repeated_within : {k : Names} {c : Leaf} {n v w : LeafValue} {vs : List LeafValue} (at : Place) (x : Expr) (xs : List Expr)
        → Own k (out-Expr x) n → Owns k xs vs → joint vs ≡ Some v → times (count_of n) v ≡ Some w
        → Within k (Expr-F.Repeat at x xs) c (resize_of w c)
    sign_within : {k : Names} {c : Leaf} {a : LeafValue} (at : Place) (s : Bool) (x : Expr)
        → Own k (out-Expr x) a → Within k (Expr-F.Sign at s x) c (resize_of a c)

  -- the value of an expression by itself
  pub data Own : Names → Node → LeafValue → Type 0 where
    itself : {k : Names} {l : Leaf} {v : LeafValue} (x : Node) → Alone k x l → Within k x l v → Own k x v

  -- the values of several, each by itself
  pub data Owns : Names → List Expr → List LeafValue → Type 0 where
    no_values : {k : Names} → Owns k [] []
    more_values : {k : Names} {v : LeafValue} {vs : List LeafValue} (x : Expr) (xs : List Expr)
        → Own k (out-Expr x) v → Owns k xs vs → Owns k (x ∷ xs) (v ∷ vs)

-- the expressions of which it is made, in the order of the source. What is no constant has none here: it is faulty as a
-- whole
abbrev pub operands : Node → List Expr
operands (Expr-F.Literal at v) = []
operands (Expr-F.Read at path) = []
operands (Expr-F.Member at x p name) = []
operands (Expr-F.Item at x y) = x ∷ y ∷ []
operands (Expr-F.Part at x y z) = x ∷ y ∷ z ∷ []
operands (Expr-F.Indexed at x y z up) = x ∷ y ∷ z ∷ []
operands (Expr-F.Unary at op x) = x ∷ []
operands (Expr-F.Binary at op x y) = x ∷ y ∷ []
operands (Expr-F.Choose at p x y) = p ∷ x ∷ y ∷ []
operands (Expr-F.Concat at xs) = xs
operands (Expr-F.Repeat at x xs) = x ∷ xs
operands (Expr-F.Pattern at items) = []
operands (Expr-F.Call at path xs) = []
operands (Expr-F.Size at x) = []
operands (Expr-F.Time at) = []
operands (Expr-F.Sign at s x) = x ∷ []

-- it is no constant: a name of something else, a member, a pattern, a call, `.size`, `$time` (IEEE 1800-2017, 11.2.1)
pub data Never (k : Names) : Node → Type 0 where
  other : (at : Place) (path : Path) → k path ≡ seen.Other → Never k (Expr-F.Read at path)
  member : (at : Place) (x : Expr) (p : Place) (name : List ℕ) → Never k (Expr-F.Member at x p name)
  pattern : (at : Place) (items : List (Option Key × Expr)) → Never k (Expr-F.Pattern at items)
  call : (at : Place) (path : Path) (xs : List Expr) → Never k (Expr-F.Call at path xs)
  size : (at : Place) (x : Expr) → Never k (Expr-F.Size at x)
  time : (at : Place) → Never k (Expr-F.Time at)

-- what the value of an operand must be: anything, known, or a bound or count
pub data Need : Type 0 where
  free : Need
  known : Need
  count : Need

abbrev pub Meets : Need → LeafValue → Type 0
Meets free v = Unit {0}
Meets known v = IsKnown v
Meets count v = Counts v

-- the needs of the operands, in their order. Those past the end are free
abbrev pub needs : Node → List Need
needs (Expr-F.Literal at v) = []
needs (Expr-F.Read at path) = []
needs (Expr-F.Member at x p name) = []
needs (Expr-F.Item at x y) = []
needs (Expr-F.Part at x y z) = free ∷ count ∷ count ∷ []
needs (Expr-F.Indexed at x y z up) = free ∷ free ∷ known ∷ []
needs (Expr-F.Unary at op x) = []
needs (Expr-F.Binary at op x y) = []
needs (Expr-F.Choose at p x y) = []
needs (Expr-F.Concat at xs) = []
needs (Expr-F.Repeat at x xs) = count ∷ []
needs (Expr-F.Pattern at items) = []
needs (Expr-F.Call at path xs) = []
needs (Expr-F.Size at x) = []
needs (Expr-F.Time at) = []
needs (Expr-F.Sign at s x) = []

abbrev pub first : List Need → Need
first [] = free
first (n ∷ ns) = n

abbrev pub rest : List Need → List Need
rest [] = []
rest (n ∷ ns) = ns

-- a fault of the node itself, which rests on all its operands
pub data Wrong : Names → Node → Rule → Place → Type 0 where
  not_constant : {k : Names} (x : Node) → Never k x → Wrong k x rule.T1 (place_of x)
  unknown_name : {k : Names} (at : Place) (path : Path) → k path ≡ seen.Unknown → Wrong k (Expr-F.Read at path) rule.T4 at
  two_imports : {k : Names} (at : Place) (path : Path) → k path ≡ seen.Ambiguous → Wrong k (Expr-F.Read at path) rule.T9 at
  bad_width : {k : Names} {n : ℕ} {four : Bool} (at : Place) (xs : List Expr)
      → Parts k xs n four → (IsWidth n → ⊥) → Wrong k (Expr-F.Concat at xs) rule.T2 at
  bad_product : {k : Names} {v : LeafValue} {n : ℕ} {four : Bool} (at : Place) (x : Expr) (xs : List Expr)
      → Own k (out-Expr x) v → Counts v → Parts k xs n four → (IsWidth (count_of v * n) → ⊥)
      → Wrong k (Expr-F.Repeat at x xs) rule.T2 at
  bad_range : {k : Names} {l : Leaf} {a b : LeafValue} (at : Place) (x y z : Expr)
      → Alone k (out-Expr x) l → Own k (out-Expr y) a → Counts a → Own k (out-Expr z) b → Counts b
      → (IsWidth (suc (count_of a) - count_of b) → ⊥) → Wrong k (Expr-F.Part at x y z) rule.T2 at
  bad_indexed : {k : Names} {l m : Leaf} {n : LeafValue} (at : Place) (x y z : Expr) (up : Bool)
      → Alone k (out-Expr x) l → Alone k (out-Expr y) m → Own k (out-Expr z) n → IsKnown n
      → (IsWidth (width_of n) → ⊥) → Wrong k (Expr-F.Indexed at x y z up) rule.T2 at

mutual
  -- a fault somewhere in the expression
  pub data Fault : Names → Node → Rule → Place → Type 0 where
    itself_wrong : {k : Names} {x : Node} {r : Rule} {p : Place} → Wrong k x r p → Fault k x r p
    in_operand : {k : Names} {r : Rule} {p : Place} (x : Node) → Among k (needs x) (operands x) r p → Fault k x r p

  -- or in one of several, or one whose value isn't what it must be
  pub data Among : Names → List Need → List Expr → Rule → Place → Type 0 where
    here : {k : Names} {ns : List Need} {r : Rule} {p : Place} (x : Expr) (xs : List Expr)
        → Fault k (out-Expr x) r p → Among k ns (x ∷ xs) r p
    unmet : {k : Names} {ns : List Need} {v : LeafValue} (x : Expr) (xs : List Expr)
        → Own k (out-Expr x) v → (Meets (first ns) v → ⊥) → Among k ns (x ∷ xs) rule.T3 (place_of (out-Expr x))
    there : {k : Names} {ns : List Need} {r : Rule} {p : Place} (x : Expr) (xs : List Expr)
        → Among k (rest ns) xs r p → Among k ns (x ∷ xs) r p

mutual
  -- what is no constant stands in it
  pub data Hides (k : Names) : Node → Type 0 where
    never : {x : Node} → Never k x → Hides k x
    hides : (x : Node) → AnyHides k (operands x) → Hides k x

  pub data AnyHides (k : Names) : List Expr → Type 0 where
    hides_here : (x : Expr) (xs : List Expr) → Hides k (out-Expr x) → AnyHides k (x ∷ xs)
    hides_there : (x : Expr) (xs : List Expr) → AnyHides k xs → AnyHides k (x ∷ xs)

-- a fault of an expression that must be constant: what is no constant is told of the whole, and not where it
-- stands inside
pub data Faulty : Names → Node → Rule → Place → Type 0 where
  whole : {k : Names} (x : Node) → Hides k x → Faulty k x rule.T1 (place_of x)
  within : {k : Names} {r : Rule} {p : Place} (x : Node) → (r ≡ rule.T1 → ⊥) → Fault k x r p → Faulty k x r p
