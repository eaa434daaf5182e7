-- A write through a path keeps the leaves of a value.
use Rattle.std.proofs.Common.{◌≡◌, ◌<◌, ◌≤◌, ℕ, zero, suc, ◌+◌, ◌*◌, List, [], ◌∷◌, ◌++◌, length, take, drop, ap, sym, subst, ◌∙◌, arith}
use Rattle.std.specs.Prelude.{Some, None, nat_lt, ◌&&◌}
use Rattle.std.proofs.lemmas.Bool.{and_parts}
use Rattle.std.proofs.lemmas.List.{drop-drop, length-take-le, length-append, take-append-drop}
use Rattle.std.proofs.Math.Nat.{div-le_self}
use Rattle.std.specs.List.{take-map, drop-map}
use Rattle.nt_value.specs.Digits.{LeafValue}
use Rattle.nt_value.specs.Operators.{unsigned_leaf}
use Rattle.nt_value.specs.Values.{IsValueOf, shape_of}
use Rattle.nt_value.specs.declared.leaf.Leaf.{Leaf}
use Rattle.nt_design.proofs.Filled.{written_filled}
use Rattle.nt_design.proofs.Frame.{two}
use Rattle.nt_design.proofs.Shaped.{append_has, each_has, item_has, leaves_has, one_of_repeated, only_leaf, repeated, shape_back, where_so_back}
use Rattle.nt_design.specs.Fitting.{Into, Leads}
use Rattle.nt_design.specs.Parts.{Value, leaves_at, leaves_each, with_leaves, Step, IntoLeaves, IntoItem, IntoPart, part_by, with_part_by, written}
use Rattle.nt_design.specs.Shapes.{element_shape, is_same_shape, item_shape}

-- some leaves replaced
pub with_leaves_has : (first count : ℕ) (part value : Value) (s r : List Leaf) → first + count ≤ length s → leaves_at first count s ≡ r → shape_of value ≡ s → shape_of part ≡ r → shape_of (with_leaves first count part value) ≡ s
with_leaves_has first count part value s r low at h k =
    append_has (take first value) (part ++ drop (first + count) value)
    ∙ (two (λ x y. x ++ y) before (append_has part (drop (first + count) value) ∙ two (λ x y. x ++ y) (k ∙ sym at) after)
    ∙ (ap (λ l. take first s ++ l) (take-append-drop count (drop first s)) ∙ take-append-drop first s))
  where
    before : shape_of (take first value) ≡ take first s
    before = sym (take-map (λ (x : LeafValue). x.leaf) first value) ∙ ap (take first) h

    after : shape_of (drop (first + count) value) ≡ drop count (drop first s)
    after =
        sym (drop-map (λ (x : LeafValue). x.leaf) (first + count) value)
        ∙ (ap (drop (first + count)) h ∙ sym (drop-drop count first s))

-- an element of so many equal ones ends inside them
one_inside : (size position n : ℕ) (e : List Leaf) → length e ≡ n → position < size → position * n + n ≤ length (repeated size e)
one_inside zero position n e same h = absurd (omega (arith, h))
one_inside (suc size) zero n e same h = omega (arith, same, length-append e (repeated size e))
one_inside (suc size) (suc position) n e same h =
    let rest = one_inside size position n e same (omega (arith, h)) in
    omega (arith, same, length-append e (repeated size e), rest, one_more)
  where
    one_more : suc position * n ≡ n + position * n
    one_more = omega arith

-- where an element stands in a shape
pub item_where : (size position : ℕ) (s r : List Leaf) → item_shape size s ≡ Some r → position < size → (position * leaves_each size s + leaves_each size s ≤ length s) × (leaves_at (position * leaves_each size s) (leaves_each size s) s ≡ r)
item_where size position s r is inside =
    let parts = where_so_back (nat_lt 0 size && is_same_shape s (repeated size (element_shape size s))) (element_shape size s) r is in
    let repeats = shape_back s (repeated size (element_shape size s)) (and_parts (nat_lt 0 size) (is_same_shape s (repeated size (element_shape size s))) parts.0).1 in
    let each = length-take-le (leaves_each size s) s (div-le_self (length s) size) in (
      subst (λ n. position * leaves_each size s + leaves_each size s ≤ n) (sym (ap length repeats)) (one_inside size position (leaves_each size s) (element_shape size s) each inside),
      ap (leaves_at (position * leaves_each size s) (leaves_each size s)) repeats
          ∙ (one_of_repeated size position (leaves_each size s) (element_shape size s) each inside ∙ parts.1),
    )

-- the part to which a step leads has its shape
pub part_has : (step : Step) (s r : List Leaf) → Into step s r → (value : Value) → shape_of value ≡ s → shape_of (part_by step value) ≡ r
part_has (IntoLeaves first count) s r into value h =
    leaves_has first count value ∙ (ap (leaves_at first count) h ∙ into.1)
part_has (IntoItem position size) s r into value h = item_has size position value s r h into.0 into.1
part_has (IntoPart low width) s r into value h =
    ap (λ (a : Leaf). unsigned_leaf width a.four ∷ []) (only_leaf value into.0 (h ∙ into.1)) ∙ sym into.2

-- a write of that part keeps the whole's shape
pub with_part_has : (step : Step) (s r : List Leaf) → Into step s r → (part value : Value) → shape_of value ≡ s → shape_of part ≡ r → shape_of (with_part_by step part value) ≡ s
with_part_has (IntoLeaves first count) s r into part value h k = with_leaves_has first count part value s r into.0 into.1 h k
with_part_has (IntoItem None size) s r into part value h k = h
with_part_has (IntoItem (Some position) size) s r into part value h k =
    let at = item_where size position s r into.0 into.1 in
    ap (λ n. shape_of (with_leaves (position * n) n part value)) (each_has size value s h)
    ∙ with_leaves_has (position * leaves_each size s) (leaves_each size s) part value s r at.0 at.1 h k
with_part_has (IntoPart low width) s r into part value h k =
    ap (λ (a : Leaf). a ∷ []) (only_leaf value into.0 (h ∙ into.1)) ∙ sym into.1

-- so does a write through a path
pub written_has : (path : List Step) (s r : List Leaf) → Leads path s r → (new value : Value) → shape_of value ≡ s → shape_of new ≡ r → shape_of (written path new value) ≡ s
written_has [] s r leads new value h k = k ∙ sym leads
written_has (step ∷ path) s r leads new value h k =
    with_part_has step s leads.0 leads.1 (written path new (part_by step value)) value h
    (written_has path leads.0 r leads.2 new (part_by step value) (part_has step s leads.0 leads.1 value h) k)

-- a value of a shape stays one after a write through a path
pub written_is : (path : List Step) (s r : List Leaf) → Leads path s r → (new value : Value) → IsValueOf s value → IsValueOf r new → IsValueOf s (written path new value)
written_is path s r leads new value h k = record {
  leaves = written_has path s r leads new value h.leaves k.leaves;
  filled = written_filled path new value k.filled h.filled;
}
