-- Which arm of a `case` is taken, item by item and arm by arm.
use Rattle.std.proofs.Common.{◌≡◌, ◌≤◌, ◌<◌, ℕ, suc, ◌+◌, List, [], ◌∷◌, map, length, drop, refl, ap, sym, ◌∙◌, arith}
use Rattle.std.specs.Prelude.{Bool, true, false, if◌then◌else◌, Option, Some, None, Err, get_or}
use Rattle.std.proofs.Math.ListN.{drop_of_length-le}
use Rattle.nt_design.proofs.Loops.{among_more, among_none}
use Rattle.nt_design.specs.Expressions.{Calls, World, value_of}
use Rattle.nt_design.specs.Parts.{Value, is_same_value, only}
use Rattle.nt_value.specs.Values.{shape_of}
use Rattle.nt_design.specs.Shapes.{Scope, Signature, tree_shape}
use Rattle.nt_design.specs.Statements.{is_among}
use Rattle.nt_design.specs.Turns.{Timed, Timing, and_then}
use Rattle.nt_design.specs.declared.act.Act.{Act}
use Rattle.nt_design.specs.declared.env.Stop.{Stop}
use Rattle.nt_design.specs.declared.tree.Tree.{Tree}
use Rattle.nt_values.proofs.Told.{drop_item, stops}
use Rattle.nt_values.proofs.Nodes.{has}
use Rattle.nt_values.specs.Tells.{Tells}
use Rattle.nt_values.specs.Typed.{Stands}
use Rattle.nt_acts.specs.Arms.{arm_at}

pub arm_none : (calls : Calls) (world : World) (test : Value) (at : ℕ) (locals : List Value) (left : ℕ) → arm_at calls world test [] at locals left ≡ Some (None, left)
unfolding arm_at
arm_none calls world test at locals left = refl

pub arm_more : (calls : Calls) (world : World) (test : Value) (arm : List Tree × Act) (arms : List (List Tree × Act)) (at : ℕ) (locals : List Value) (left : ℕ) → arm_at calls world test (arm ∷ arms) at locals left ≡ and_then (is_among test (map (value_of calls world) arm.0) locals left) (λ is l. if is then Some (Some at, l) else arm_at calls world test arms (suc at) locals l)
unfolding arm_at
arm_more calls world test arm arms at locals left = refl

module _ (f : Tree → Timing Value) (test : Value) (items : List Tree) (locals : List Value) (left : ℕ) where
  abbrev pub Among : ℕ → ℕ → Type 0
  Among i turns = is_among test (map f items) locals left ≡ is_among test (map f (drop i items)) locals turns

  item_next : (i turns : ℕ) (item : Tree) → i < length items → item ≡ get_or items i item → Among i turns → is_among test (map f items) locals left ≡ and_then (f item locals turns) (λ v l. if is_same_value test v then Some (true, l) else is_among test (map f (drop (i + 1) items)) locals l)
  item_next i turns item h g so_far =
      so_far ∙ (ap (λ l. is_among test (map f l) locals turns) (drop_item items i item h g) ∙ among_more test (f item) (map f (drop (i + 1) items)) locals turns)

  pub among_stops : (most i turns : ℕ) (item : Tree) (e : Stop) → i < length items → item ≡ get_or items i item → Among i turns → Tells turns (f item locals turns) (Err e) → Tells most (is_among test (map f items) locals left) (Err e)
  among_stops most i turns item e h g so_far bad =
      stops turns most (is_among test (map f items) locals left) (f item locals turns) (λ v l. if is_same_value test v then Some (true, l) else is_among test (map f (drop (i + 1) items)) locals l) e (item_next i turns item h g so_far) bad

  pub among_found : (i turns : ℕ) (item : Tree) (v : Value) (l : ℕ) → i < length items → item ≡ get_or items i item → Among i turns → f item locals turns ≡ Some (v, l) → is_same_value test v ≡ true → is_among test (map f items) locals left ≡ Some (true, l)
  among_found i turns item v l h g so_far is same =
      item_next i turns item h g so_far ∙ (ap (λ m. and_then m (λ v l. if is_same_value test v then Some (true, l) else is_among test (map f (drop (i + 1) items)) locals l)) is
      ∙ ap {B = Timed Bool} (λ b. if b then Some (true, l) else is_among test (map f (drop (i + 1) items)) locals l) same)

  pub among_on : (i turns : ℕ) (item : Tree) (v : Value) (l : ℕ) → i < length items → item ≡ get_or items i item → Among i turns → f item locals turns ≡ Some (v, l) → is_same_value test v ≡ false → Among (i + 1) l
  among_on i turns item v l h g so_far is same =
      item_next i turns item h g so_far ∙ (ap (λ m. and_then m (λ v l. if is_same_value test v then Some (true, l) else is_among test (map f (drop (i + 1) items)) locals l)) is
      ∙ ap {B = Timed Bool} (λ b. if b then Some (true, l) else is_among test (map f (drop (i + 1) items)) locals l) same)

  pub among_end : (i turns : ℕ) → length items ≤ i → Among i turns → is_among test (map f items) locals left ≡ Some (false, turns)
  among_end i turns h so_far =
      so_far ∙ (ap (λ l. is_among test (map f l) locals turns) (drop_of_length-le items h) ∙ among_none test locals turns)

module _ (calls : Calls) (world : World) (test : Value) (arms : List (List Tree × Act)) (locals : List Value) (left : ℕ) where
  abbrev pub Arms : ℕ → ℕ → Type 0
  Arms i turns = arm_at calls world test arms 0 locals left ≡ arm_at calls world test (drop i arms) i locals turns

  abbrev rest : ℕ → Bool → ℕ → Timed (Option ℕ)
  rest i is l = if is then Some (Some i, l) else arm_at calls world test (drop (i + 1) arms) (i + 1) locals l

  arm_next : (i turns : ℕ) (arm : List Tree × Act) → i < length arms → arm ≡ get_or arms i arm → Arms i turns → arm_at calls world test arms 0 locals left ≡ and_then (is_among test (map (value_of calls world) arm.0) locals turns) (rest i)
  arm_next i turns arm h g so_far =
      so_far ∙ (ap (λ l. arm_at calls world test l i locals turns) (drop_item arms i arm h g)
      ∙ (arm_more calls world test arm (drop (i + 1) arms) i locals turns
      ∙ ap (λ n. and_then (is_among test (map (value_of calls world) arm.0) locals turns) (λ is l. if is then Some (Some i, l) else arm_at calls world test (drop (i + 1) arms) n locals l)) (one_more i)))
    where
      one_more : (i : ℕ) → suc i ≡ i + 1
      one_more i = omega arith

  pub arm_stops : (most i turns : ℕ) (arm : List Tree × Act) (e : Stop) → i < length arms → arm ≡ get_or arms i arm → Arms i turns → Tells turns (is_among test (map (value_of calls world) arm.0) locals turns) (Err e) → Tells most (arm_at calls world test arms 0 locals left) (Err e)
  arm_stops most i turns arm e h g so_far bad =
      stops turns most (arm_at calls world test arms 0 locals left) (is_among test (map (value_of calls world) arm.0) locals turns) (rest i) e (arm_next i turns arm h g so_far) bad

  pub arm_found : (i turns : ℕ) (arm : List Tree × Act) (b : Bool) (l : ℕ) → i < length arms → arm ≡ get_or arms i arm → Arms i turns → is_among test (map (value_of calls world) arm.0) locals turns ≡ Some (b, l) → b ≡ true → arm_at calls world test arms 0 locals left ≡ Some (Some i, l)
  arm_found i turns arm b l h g so_far is same =
      arm_next i turns arm h g so_far ∙ (ap (λ m. and_then m (rest i)) is ∙ ap (λ b. rest i b l) same)

  pub arm_on : (i turns : ℕ) (arm : List Tree × Act) (b : Bool) (l : ℕ) → i < length arms → arm ≡ get_or arms i arm → Arms i turns → is_among test (map (value_of calls world) arm.0) locals turns ≡ Some (b, l) → b ≡ false → Arms (i + 1) l
  arm_on i turns arm b l h g so_far is same =
      arm_next i turns arm h g so_far ∙ (ap (λ m. and_then m (rest i)) is ∙ ap (λ b. rest i b l) same)

  pub arm_end : (i turns : ℕ) → length arms ≤ i → Arms i turns → arm_at calls world test arms 0 locals left ≡ Some (None, turns)
  arm_end i turns h so_far =
      so_far ∙ (ap (λ l. arm_at calls world test l i locals turns) (drop_of_length-le arms h) ∙ arm_none calls world test i locals turns)

same_only : (v w : Value) → shape_of v ≡ shape_of w → (only v).leaf ≡ (only w).leaf
same_only [] [] h = refl
same_only [] (b ∷ w) h = absurd (omega (arith, ap length h))
same_only (a ∷ v) [] h = absurd (omega (arith, ap length h))
same_only (a ∷ v) (b ∷ w) h = ap (λ leaves. get_or leaves 0 a.leaf) h

-- an item has the leaf of the test
pub item_like : {signatures : List (Option Signature)} {calls : Calls} {world : World} {locals : List Value} (scope : Scope) → Stands signatures calls world locals scope → (test v : Value) (item : Tree) (left l : ℕ) → tree_shape scope item ≡ Some (shape_of test) → value_of calls world item locals left ≡ Some (v, l) → (only test).leaf ≡ (only v).leaf
item_like {signatures} {calls} {world} {locals} scope stands test v item left l is gives =
    sym (same_only v test (has item (record { scope = scope; stands = stands; shape = shape_of test; is = is }) left v l gives).leaves)
