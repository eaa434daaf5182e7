-- The parts of a type that stands in the order of the source do so too.
use Rattle.std.proofs.Common.{◌≡◌, ℕ, zero, suc, ◌-◌, inl, inr, Bool, List, ◌++◌, map, length, sym, ◌∙◌, subst}
use Rattle.std.specs.Prelude.{Option, Some, slice_get}
use Rattle.std.proofs.lemmas.Bool.{cases_lt}
use Rattle.nt_value.specs.declared.place.Place.{Place}
use Rattle.nt_ast.specs.declared.expr.Expr.{Expr}
use Rattle.nt_ast.specs.declared.path.Declared.{Declared}
use Rattle.nt_ast.specs.declared.types.IntWord.{IntWord}
use Rattle.nt_ast.specs.declared.types.TypeTree.{TypeTree}
use Rattle.nt_ast.specs.declared.types.TypeTree.TheOpen.{TypeTree-F}
use Rattle.nt_ast.specs.declared.types.TypeTree.TheViews.{out-TypeTree}
use Rattle.nt_ast.specs.Places.{MaybePlaced, some_in, none_in, range_in, DimsPlaced, no_dims, more_dims, DeclaredPlaced, no_names, more_names, TypePlaced, integral_in, struct_in, MembersPlaced, no_members, more_members}
use Rattle.nt_kinds.proofs.Counting.{get_left, get_right}
use Rattle.nt_type_trees.specs.Types.{Dim}
use Rattle.nt_type_trees.specs.Tells.{InOrder, DimsInOrder}
use Rattle.nt_type_trees.specs.Answers.{ExprInOrder, DimInOrder, MemberInOrder, MembersInOrder}

range_placed : {f i j : ℕ} {at : Place} {word : IntWord} {signed : Option Bool} {x y : Expr} → TypePlaced f i j (TypeTree-F.Integral at word signed (Some (x, y))) → ExprInOrder x × ExprInOrder y
range_placed (integral_in w (range_in p q)) = (record { file = _; first = _; end = _; placed = p }, record { file = _; first = _; end = _; placed = q })

pub range_in_order : {at : Place} {word : IntWord} {signed : Option Bool} {x y : Expr} → InOrder (TypeTree-F.Integral at word signed (Some (x, y))) → ExprInOrder x × ExprInOrder y
range_in_order o = range_placed o.placed

maybe_in_order : {f i j : ℕ} {r : Option Expr} → MaybePlaced f i j r → (y : Expr) → r ≡ Some y → ExprInOrder y
maybe_in_order (none_in le) y e = cc
maybe_in_order (some_in {x = x} p) y e = let g : x ≡ y = cc in subst (λ z. ExprInOrder z) g (record { file = _; first = _; end = _; placed = p })

dim_placed : {f i j : ℕ} {ds : List Dim} → DimsPlaced f i j ds → (n : ℕ) (d : Dim) → slice_get ds n ≡ Some d → DimInOrder d
dim_placed (no_dims le) n d e = cc
dim_placed (more_dims {x = x} {y = y} p q r) zero d e = let g : (x, y) ≡ d = cc in subst (λ d. DimInOrder d) g (record { left = record { file = _; first = _; end = _; placed = p }; right = maybe_in_order q })
dim_placed (more_dims p q r) (suc n) d e = dim_placed r n d e

pub dim_in_order : {ds : List Dim} → DimsInOrder ds → (n : ℕ) (d : Dim) → slice_get ds n ≡ Some d → DimInOrder d
dim_in_order o = dim_placed o.placed

append_in_order : (xs ys : List (TypeTree × Declared)) → MembersInOrder xs → MembersInOrder ys → MembersInOrder (xs ++ ys)
append_in_order xs ys p q n m e = elim (cases_lt n (length xs)) [
  | inl lt ↦ p n m (sym (get_left xs ys n lt) ∙ e)
  | inr ge ↦ q (n - length xs) m (sym (get_right xs ys n ge) ∙ e)
]

names_in_order : {f i j g h : ℕ} (of : TypeTree) {ds : List Declared} → TypePlaced f g h (out-TypeTree of) → DeclaredPlaced f i j ds → MembersInOrder (map (λ d. (of, d)) ds)
names_in_order of t (no_names le) n m e = cc
names_in_order of t (more_names {d = d} w p q r) zero m e =
    let g : (of, d) ≡ m = cc in subst (λ m. MemberInOrder m) g (record { of = record { file = _; first = _; end = _; placed = t }; dims = record { file = _; first = _; end = _; placed = p } })
names_in_order of t (more_names w p q r) (suc n) m e = names_in_order of t r n m e

members_placed : {f i j : ℕ} {ms : List (TypeTree × Declared)} → MembersPlaced f i j ms → MembersInOrder ms
members_placed (no_members le) = λ n m e. cc
members_placed (more_members of ds {ms = ms} t p r) = append_in_order (map (λ d. (of, d)) ds) ms (names_in_order of t p) (members_placed r)

struct_placed : {f i j : ℕ} {at : Place} {ms : List (TypeTree × Declared)} → TypePlaced f i j (TypeTree-F.Struct at ms) → MembersInOrder ms
struct_placed (struct_in w p) = members_placed p

pub struct_in_order : {at : Place} {ms : List (TypeTree × Declared)} → InOrder (TypeTree-F.Struct at ms) → MembersInOrder ms
struct_in_order o = struct_placed o.placed
