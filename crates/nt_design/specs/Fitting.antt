-- What values, worlds and functions have the shapes of a scope, and what an expression then gives (IEEE 1800-2017,
-- clauses 6, 11 and 13).
use Rattle.std.specs.Prelude.{◌≡◌, ◌≤◌, ◌<◌, ◌+◌, ⊤, ℕ, List, [], ◌∷◌, Option, Some, None, get_or, length, slice_get}
use Rattle.nt_value.specs.Operators.{unsigned_leaf}
use Rattle.nt_value.specs.Values.{AreValuesOf, IsValueOf, default_value}
use Rattle.nt_value.specs.declared.leaf.Leaf.{Leaf}
use Rattle.nt_design.specs.Expressions.{World, Calls, object_in, value_of}
use Rattle.nt_design.specs.Meaning.{calls_to, meaning}
use Rattle.nt_design.specs.Parts.{Value, IntoItem, IntoLeaves, IntoPart, Step, leaves_at, written}
use Rattle.nt_design.specs.Puts.{after_put, put_of}
use Rattle.nt_design.specs.Shapes.{Scope, Signature, item_shape, object_shape, signature_at, tree_shape}
use Rattle.nt_design.specs.Turns.{Timed}
use Rattle.nt_design.specs.WellFormed.{Fits, IsDesign, MayCall, env_scope}
use Rattle.nt_design.specs.declared.design.Design.{Design}
use Rattle.nt_design.specs.declared.env.Env.{Env}
use Rattle.nt_design.specs.declared.function.Function.{Function}
use Rattle.nt_design.specs.declared.object.Object.{Object}
use Rattle.nt_design.specs.declared.tree.Tree.{Tree}

-- what holds of what comes out, if something does
abbrev pub Gives : {A : Type 0} → Timed A → (A → Type 0) → Type 0
Gives None P = ⊤
Gives (Some p) P = P p.0

-- locals have the shapes of a scope
abbrev pub LocalsFit : Scope → List Value → Type 0
LocalsFit scope locals = (i : ℕ) (s : List Leaf) → slice_get scope.locals i ≡ Some s → IsValueOf s (get_or locals i [])

-- what a function of this signature gives for values of its arguments' shapes is a value of its result's
abbrev pub Returns : Signature → (List Value → ℕ → Timed Value) → Type 0
Returns signature call =
    (args : List Value) (left : ℕ) → AreValuesOf signature.args args → Gives (call args left) (IsValueOf signature.result)

-- objects, the elements of a resolver's argument, and what functions give have the shapes of a scope
pub record HasShapes (scope : Scope) (calls : Calls) (world : World) : Type 0 where
  pub objects : (o : Object) (s : List Leaf) → object_shape scope o ≡ Some s → IsValueOf s (object_in world o)
  pub element : (s : List Leaf) → scope.many ≡ Some s → world.element ≡ s
  pub many : (i : ℕ) → IsValueOf world.element (get_or world.many i (default_value world.element))
  pub results : (f : ℕ) (signature : Signature) → signature_at scope f ≡ Some signature → Returns signature (calls f)

-- a position is inside its array
abbrev pub InBounds : Option ℕ → ℕ → Type 0
InBounds None size = ⊤
InBounds (Some position) size = position < size

-- a step leads from one shape to a part of it (7.2, 7.4.6, 11.5.1)
abbrev pub Into : Step → List Leaf → List Leaf → Type 0
Into (IntoLeaves first count) s r = (first + count ≤ length s) × (leaves_at first count s ≡ r)
Into (IntoItem position size) s r = (item_shape size s ≡ Some r) × InBounds position size
Into (IntoPart low width) s r = (leaf : Leaf) × (s ≡ leaf ∷ []) × (r ≡ unsigned_leaf width leaf.four ∷ [])

-- so does a path (10.4)
abbrev pub Leads : List Step → List Leaf → List Leaf → Type 0
Leads [] s r = s ≡ r
Leads (step ∷ path) s r = (mid : List Leaf) × Into step s mid × Leads path mid r

-- the value of an expression is one of its shape
abbrev pub ValuesFit : Type 0
ValuesFit =
    (scope : Scope) (calls : Calls) (world : World) (tree : Tree) (shape : List Leaf) (locals : List Value) (left : ℕ) →
    HasShapes scope calls world → tree_shape scope tree ≡ Some shape → LocalsFit scope locals →
    Gives (value_of calls world tree locals left) (IsValueOf shape)

-- what a function of a well-formed design gives is a value of its result's shape, where it may be called with such values
abbrev pub ResultsFit : Type 0
ResultsFit =
    (d : Design) (depth f : ℕ) (function : Function) (args : List Value) (left : ℕ) →
    IsDesign d → slice_get d.functions f ≡ Some function → MayCall function args →
    Gives (calls_to d.functions depth f args left) (IsValueOf function.result)

-- an expression that fits a well-formed design and an environment has a value of its shape, or takes too many turns
abbrev pub MeaningsFit : Type 0
MeaningsFit =
    (d : Design) (env : Env) (tree : Tree) (shape : List Leaf) (value : Value) →
    IsDesign d → Fits d env tree → tree_shape (env_scope d env) tree ≡ Some shape → meaning d.functions env tree ≡ Some value →
    IsValueOf shape value

-- a write that was put and is performed is the write through its path, where the value, the path and the old value fit
abbrev pub PutsAreWrites : Type 0
PutsAreWrites =
    (v : ℕ) (old value : Value) (path : List Step) (s r : List Leaf) →
    IsValueOf s old → Leads path s r → IsValueOf r value →
    after_put (put_of v old path value) old ≡ written path value old
