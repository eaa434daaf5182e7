-- Which item of a pattern goes to which member or element (IEEE 1800-2017, 10.9).
use Rattle.std.specs.Prelude.{◌≡◌, ℕ, List, [], ◌∷◌, Option, Some, None, slice_get}
use Rattle.nt_ast.specs.declared.expr.Key.{Key}
use Rattle.nt_ast.specs.declared.expr.Expr.{Expr}
use Rattle.nt_kinds.specs.declared.kind.Kind.{Kind}
use Rattle.nt_typing.specs.Tables.{plan_for}
use Rattle.nt_patterns.specs.declared.found.Found.{Found}
use Rattle.nt_patterns.specs.declared.found.Found.TheVariants as found

abbrev pub Items : Type 0
Items = List (Option Key × Expr)

abbrev pub Slots : Type 0
Slots = List (Option (List ℕ) × Kind)

abbrev pub Plan : Type 0
Plan = List (Expr × Kind)

-- a plan by the numbers of its items
pub data Picks (items : Items) : Slots → List ℕ → Plan → Type 0 where
  no_picks : Picks items [] [] []
  more_picks : {is : List ℕ} {plan : Plan} {slots : Slots} (slot : Option (List ℕ) × Kind) (i : ℕ) (item : Option Key × Expr)
      → slice_get items i ≡ Some item → Picks items slots is plan → Picks items (slot ∷ slots) (i ∷ is) ((item.1, slot.1) ∷ plan)

-- the numbers of a plan, or that there is none
pub record Picked (items : Items) (slots : Slots) (is : List ℕ) (o : Option Plan) : Type 0 where
  pub plan : Plan
  pub is_plan : o ≡ Some plan
  pub picks : Picks items slots is plan

abbrev pub PicksTo : {A : Type 0} → (A → List ℕ) → Items → Slots → Option Plan → Option A → Type 0
PicksTo now items slots o None = o ≡ None
PicksTo now items slots o (Some is) = Picked items slots (now is) o

-- of a type
abbrev pub PicksFor : {A : Type 0} → (A → List ℕ) → Items → Option Slots → Option A → Type 0
PicksFor now items None r = r ≡ None
PicksFor now items (Some slots) r = PicksTo now items slots (plan_for (Some slots) items) r

-- how many there are of some items: none, one by its number, or more
pub data IsFound (items : Items) : List Expr → Found → Type 0 where
  no_item : IsFound items [] found.Nothing
  one_item : (i : ℕ) (item : Option Key × Expr) → slice_get items i ≡ Some item → IsFound items (item.1 ∷ []) (found.One i)
  many_items : (x y : Expr) (rest : List Expr) → IsFound items (x ∷ y ∷ rest) found.Many
