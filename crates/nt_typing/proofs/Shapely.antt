-- Every typed tree has the shape of its type.
use Rattle.std.proofs.Common.{◌≡◌, ℕ, List, [], ◌∷◌, map, refl, ap, sym, ◌∙◌}
use Rattle.std.specs.Prelude.{Bool, true, false, if◌then◌else◌, Some}
use Rattle.nt_value.specs.Digits.{IsFilled, IsLeaf}
use Rattle.nt_value.specs.declared.leaf.Leaf.{Leaf}
use Rattle.nt_value.specs.declared.literal.Literal.{Literal}
use Rattle.nt_value.specs.Operators.{resize_of}
use Rattle.nt_ast.specs.declared.expr.Expr.{Expr}
use Rattle.nt_ast.specs.Names.{path_name}
use Rattle.nt_const.specs.Tables.{with_sign, spreads, by_highest, literal_in, count_of}
use Rattle.nt_ast.specs.Places.{Node}
use Rattle.nt_design.specs.Shapes.{Scope as Design, tree_shape}
use Rattle.nt_design.specs.declared.tree.Tree.{Tree}
use Rattle.nt_kinds.specs.declared.kind.Kind.{Kind}
use Rattle.nt_typing.specs.declared.scope.Scope.{Scope}
use Rattle.nt_kinds.specs.Kinds.{leaves}
use Rattle.nt_typing.specs.Tables.{wider, fitted, thing_leaf}
use Rattle.nt_typing.specs.declared.thing.Thing.{Thing}
use Rattle.nt_typing.specs.declared.thing.Thing.TheVariants.{Value as value, Many as many}
use Rattle.nt_typing.specs.Typing.{Stands, read, member, item, part, indexed, concat, repeated, call, size, time, sign, Alone, stands, literal, unary, binary, choose, Typed, stands_in, literal_within, unary_within, binary_within, choose_within, Itself, itself, Several, none, more, Goes, to_leaf, to_kind, pattern, AllGo, none_go, more_go}
use Rattle.nt_typing.specs.Covers.{IsKind, Covers}
use Rattle.nt_kinds.proofs.Alike.{one_shape as same_leaves}
use Rattle.nt_value.proofs.Filled.{resize_filled}
use Rattle.nt_typing.proofs.Leaves.{one_leaves}
use Rattle.nt_typing.proofs.Pieces.{ThingHas, leaf_is, plain_has, fitted_has, constant_has, member_has, item_has, part_has, indexed_has, size_has, time_has, name_has}
use Rattle.nt_typing.proofs.Shaping.{unary_is, binary_is, choice_is, operand_is, left_is, right_is, wider_is, unary_shape, binary_shape, choose_shape, concat_has, Leafed, no_leafed, more_leafed, leafed_leaf, copies_leaf}
use Rattle.nt_typing.proofs.Plans.{Kinds, no_kinds, more_kinds, given_kinds, plan_shapes, called_as, call_has, planned_has, gather_has}

pub record Selfed (d : Design) (l : Leaf) (a : Tree) : Type 0 where
  pub valid : IsLeaf l
  pub shape : tree_shape d a ≡ Some (l ∷ [])

thing_valid : (d : Design) (h : Thing) (l : Leaf) → ThingHas d h → thing_leaf h ≡ Some l → IsLeaf l
thing_valid d (value k a) l g e = leaf_is k l g.1 e
thing_valid d (many k) l g e = cc

literal_by : (b : Bool) (v : Literal) (c : Leaf) → (if b then by_highest v.bits c else resize_of v.bits c).leaf ≡ c
literal_by true v c = refl
literal_by false v c = refl

filled_by : (b : Bool) (v : Literal) (c : Leaf) → IsFilled (if b then by_highest v.bits c else resize_of v.bits c)
filled_by true v c = resize_filled (resize_of v.bits (with_sign true c)) c
filled_by false v c = resize_filled v.bits c

module _ {s : Scope} {d : Design} (covers : Covers s d) where
  mutual
    pub stands_has : {x : Node} {h : Thing} → Stands s x h → ThingHas d h
    stands_has (read at path e) = name_has d _ _ (λ x f. covers.has (path_name path) x f) e
    stands_has (member at x name_at name a e) = member_has d _ _ name (stands_has a) e
    stands_has (item at x y a i e) = item_has d _ _ _ _ (stands_has a) (itself_has i).shape e
    stands_has (part at x y z a u g v h e) = part_has d _ _ _ _ (stands_has a) e
    stands_has (indexed at x y z up a i u g e) = indexed_has d _ _ up _ _ _ (stands_has a) (itself_has i).shape e
    stands_has (concat at xs p e) = concat_has d _ _ _ _ (λ w. leafed_leaf d (several_has p)) e
    stands_has (repeated {v = v} at x xs u g p e) = concat_has d _ _ _ _ (λ w. copies_leaf d (count_of v) (several_has p) w) e
    stands_has (call at path xs e p g) =
        let c = called_as _ _ _ e in let f = covers.has (path_name path) _ c.is in
        call_has d _ xs _ _ f c.many c.automatic c.own c.count (all_has p (given_kinds xs _ f.kinds)) g
    stands_has (size at x a e) = size_has d _ _ (stands_has a) e
    stands_has (time at e) = time_has d _ _ e
    stands_has (sign {l = l} {a = a} at b x i) = let h = itself_has i in plain_has d (with_sign b l) (fitted l (with_sign b l) a) h.valid (fitted_has d l (with_sign b l) a h.shape h.valid)

    pub alone_has : {x : Node} {l : Leaf} → Alone s x l → IsLeaf l
    alone_has (stands a e) = thing_valid d _ _ (stands_has a) e
    alone_has (literal at v w) = w
    alone_has (unary at op x a) = unary_is op _ (alone_has a)
    alone_has (binary at op x y a b) = binary_is op _ _ (alone_has a) (alone_has b)
    alone_has (choose {p = p} {l = l} {m = m} at z x y q a b) = choice_is p l m (alone_has a) (alone_has b)

    pub typed_has : {x : Node} {c : Leaf} {a : Tree} → Typed s x c a → IsLeaf c → tree_shape d a ≡ Some (c ∷ [])
    typed_has (stands_in {k = k} {l = l} {c = c} a e) w =
        let h = stands_has a in fitted_has d l c _ (h.0 ∙ ap (λ ls. Some ls) (one_leaves k l e)) w
    typed_has (literal_within {c = c} at v) w = constant_has d (literal_in v c) (filled_by (spreads v) v c) ∙ ap (λ l. Some (l ∷ [])) (literal_by (spreads v) v c)
    typed_has (unary_within at op x a t) w = unary_shape d op _ _ _ w (typed_has t (operand_is op _ _ w (alone_has a)))
    typed_has (binary_within at op x y a b t u) w =
        let g = alone_has a in let h = alone_has b in
        binary_shape d op _ _ _ _ _ w (typed_has t (left_is op _ _ _ w g h)) (typed_has u (right_is op _ _ _ w g h))
    typed_has (choose_within at z x y i t u) w = choose_shape d _ _ _ _ _ (itself_has i).shape (typed_has t w) (typed_has u w)

    pub itself_has : {x : Node} {l : Leaf} {a : Tree} → Itself s x l a → Selfed d l a
    itself_has (itself x a t) = let w = alone_has a in record { valid = w; shape = typed_has t w }

    pub several_has : {xs : List Expr} {n : ℕ} {four : Bool} {ts : List Tree} → Several s xs n four ts → Leafed d ts n four
    several_has none = no_leafed
    several_has (more x xs i p) = more_leafed _ _ (itself_has i).shape (several_has p)

    pub goes_has : {x : Node} {k : Kind} {a : Tree} → Goes s x k a → IsKind k → tree_shape d a ≡ Some (leaves k)
    goes_has (to_leaf {k = k} {l = l} {to = to} x e a t) w =
        let v = leaf_is k to w e in let h = wider_is to l v (alone_has a) in
        fitted_has d (wider to l) to _ (typed_has t h) v ∙ ap (λ ls. Some ls) (sym (one_leaves k to e))
    goes_has (to_kind {j = j} {k = k} x e a n q) w =
        (stands_has a).0 ∙ ap (λ ls. Some ls) (same_leaves j k refl refl q)
    goes_has (pattern {k = k} at items e p) w = let h = planned_has k items _ e in gather_has d k _ _ w h (all_has p (h.kinds w))

    pub all_has : {plan : List _} {ts : List Tree} → AllGo s plan ts → Kinds plan → map (tree_shape d) ts ≡ plan_shapes plan
    all_has none_go no_kinds = refl
    all_has (more_go {ts = ts} x k rest g p) (more_kinds _ _ _ w z) = ap (λ o. o ∷ map (tree_shape d) ts) (goes_has g w) ∙ ap (λ os. Some (leaves k) ∷ os) (all_has p z)
