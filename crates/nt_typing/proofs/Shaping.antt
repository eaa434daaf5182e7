-- A typed tree has the shape of its type.
use Rattle.std.proofs.Common.{◌≡◌, ℕ, zero, suc, ◌+◌, ◌*◌, List, [], ◌∷◌, ◌++◌, map, refl, sym, subst, ◌∙◌, arith}
use Rattle.std.specs.Prelude.{Bool, true, false, ◌||◌, Some, Ok, Err, if◌then◌else◌}
use Rattle.std.specs.Bool.{beq}
use Rattle.nt_value.specs.Digits.{IsLeaf}
use Rattle.nt_value.specs.Operators.{unsigned_leaf}
use Rattle.nt_value.specs.declared.leaf.Leaf.{Leaf}
use Rattle.nt_value.specs.declared.operator.Unary.{Unary}
use Rattle.nt_value.specs.declared.operator.Unary.TheVariants as u
use Rattle.nt_value.specs.declared.operator.Binary.{Binary}
use Rattle.nt_value.specs.declared.operator.Binary.TheVariants as o
use Rattle.nt_diag.specs.declared.rule.Rule.TheVariants as rule
use Rattle.nt_const.specs.Tables.{joined, bit, unary_in, unary_leaf, binary_leaf, choice_leaf}
use Rattle.nt_design.specs.Shapes.{Scope as Design, is_width, tree_shape, concat_leaf, are_operand_leaves, unary_answer, binary_answer}
use Rattle.nt_design.specs.declared.tree.Tree.{Tree}
use Rattle.nt_design.specs.declared.tree.Tree.TheVariants as t
use Rattle.nt_typing.specs.Kinds.{plain}
use Rattle.nt_typing.specs.Tables.{left_context, right_context, wider, fitted, concat_thing, copies}
use Rattle.nt_typing.specs.declared.thing.Thing.{Thing}
use Rattle.nt_typing.specs.declared.thing.Thing.TheVariants.{Value as value}
use Rattle.nt_typing.proofs.Opened as opened
use Rattle.nt_typing.proofs.Leaves.{leaf_same, shape_same}
use Rattle.nt_typing.proofs.Pieces.{ok_back, clash, on_leaf_to, on_shape_to, so_to, width_back, plain_has, fitted_has, ThingHas}

-- ---- operators
or_self : (a : Bool) → (a || a) ≡ a
or_self true = refl
or_self false = refl

beq_self : (a : Bool) → beq a a ≡ true
beq_self true = refl
beq_self false = refl

pub operands_agree : (op : Binary) (c l m : Leaf) → are_operand_leaves op (left_context op c l m) (right_context op c l m) ≡ true
operands_agree o.Add c l m = leaf_same c
operands_agree o.Sub c l m = leaf_same c
operands_agree o.Mul c l m = leaf_same c
operands_agree o.Div c l m = leaf_same c
operands_agree o.Rem c l m = leaf_same c
operands_agree o.And c l m = leaf_same c
operands_agree o.Or c l m = leaf_same c
operands_agree o.Xor c l m = leaf_same c
operands_agree o.Xnor c l m = leaf_same c
operands_agree o.Shl c l m = refl
operands_agree o.Shr c l m = refl
operands_agree o.Sshr c l m = refl
operands_agree o.Lt c l m = leaf_same (joined l m)
operands_agree o.Le c l m = leaf_same (joined l m)
operands_agree o.Gt c l m = leaf_same (joined l m)
operands_agree o.Ge c l m = leaf_same (joined l m)
operands_agree o.Eq c l m = leaf_same (joined l m)
operands_agree o.Ne c l m = leaf_same (joined l m)
operands_agree o.CaseEq c l m = leaf_same (joined l m)
operands_agree o.CaseNe c l m = leaf_same (joined l m)
operands_agree o.LogicalAnd c l m = beq_self (l.four || m.four)
operands_agree o.LogicalOr c l m = beq_self (l.four || m.four)

bit_is : (four : Bool) → IsLeaf (bit four)
bit_is four = (omega arith, omega arith)

joined_is : (l m : Leaf) → IsLeaf l → IsLeaf m → IsLeaf (joined l m)
joined_is l m g h = let a = g.0 in let b = g.1 in let c = h.1 in (grind arith, grind arith)

pub left_is : (op : Binary) (c l m : Leaf) → IsLeaf c → IsLeaf l → IsLeaf m → IsLeaf (left_context op c l m)
left_is o.Add c l m f g h = f
left_is o.Sub c l m f g h = f
left_is o.Mul c l m f g h = f
left_is o.Div c l m f g h = f
left_is o.Rem c l m f g h = f
left_is o.And c l m f g h = f
left_is o.Or c l m f g h = f
left_is o.Xor c l m f g h = f
left_is o.Xnor c l m f g h = f
left_is o.Shl c l m f g h = f
left_is o.Shr c l m f g h = f
left_is o.Sshr c l m f g h = f
left_is o.Lt c l m f g h = joined_is l m g h
left_is o.Le c l m f g h = joined_is l m g h
left_is o.Gt c l m f g h = joined_is l m g h
left_is o.Ge c l m f g h = joined_is l m g h
left_is o.Eq c l m f g h = joined_is l m g h
left_is o.Ne c l m f g h = joined_is l m g h
left_is o.CaseEq c l m f g h = joined_is l m g h
left_is o.CaseNe c l m f g h = joined_is l m g h
left_is o.LogicalAnd c l m f g h = g
left_is o.LogicalOr c l m f g h = g

pub right_is : (op : Binary) (c l m : Leaf) → IsLeaf c → IsLeaf l → IsLeaf m → IsLeaf (right_context op c l m)
right_is o.Add c l m f g h = f
right_is o.Sub c l m f g h = f
right_is o.Mul c l m f g h = f
right_is o.Div c l m f g h = f
right_is o.Rem c l m f g h = f
right_is o.And c l m f g h = f
right_is o.Or c l m f g h = f
right_is o.Xor c l m f g h = f
right_is o.Xnor c l m f g h = f
right_is o.Shl c l m f g h = h
right_is o.Shr c l m f g h = h
right_is o.Sshr c l m f g h = h
right_is o.Lt c l m f g h = joined_is l m g h
right_is o.Le c l m f g h = joined_is l m g h
right_is o.Gt c l m f g h = joined_is l m g h
right_is o.Ge c l m f g h = joined_is l m g h
right_is o.Eq c l m f g h = joined_is l m g h
right_is o.Ne c l m f g h = joined_is l m g h
right_is o.CaseEq c l m f g h = joined_is l m g h
right_is o.CaseNe c l m f g h = joined_is l m g h
right_is o.LogicalAnd c l m f g h = h
right_is o.LogicalOr c l m f g h = h

pub operand_is : (op : Unary) (c l : Leaf) → IsLeaf c → IsLeaf l → IsLeaf (unary_in op c l)
operand_is u.Plus c l g h = g
operand_is u.Minus c l g h = g
operand_is u.Not c l g h = g
operand_is u.LogicalNot c l g h = h
operand_is u.RedAnd c l g h = h
operand_is u.RedNand c l g h = h
operand_is u.RedOr c l g h = h
operand_is u.RedNor c l g h = h
operand_is u.RedXor c l g h = h
operand_is u.RedXnor c l g h = h

pub unary_is : (op : Unary) (l : Leaf) → IsLeaf l → IsLeaf (unary_leaf op l)
unary_is u.Plus l h = h
unary_is u.Minus l h = h
unary_is u.Not l h = h
unary_is u.LogicalNot l h = bit_is l.four
unary_is u.RedAnd l h = bit_is l.four
unary_is u.RedNand l h = bit_is l.four
unary_is u.RedOr l h = bit_is l.four
unary_is u.RedNor l h = bit_is l.four
unary_is u.RedXor l h = bit_is l.four
unary_is u.RedXnor l h = bit_is l.four

pub binary_is : (op : Binary) (l m : Leaf) → IsLeaf l → IsLeaf m → IsLeaf (binary_leaf op l m)
binary_is o.Add l m g h = joined_is l m g h
binary_is o.Sub l m g h = joined_is l m g h
binary_is o.Mul l m g h = joined_is l m g h
binary_is o.Div l m g h = joined_is l m g h
binary_is o.Rem l m g h = joined_is l m g h
binary_is o.And l m g h = joined_is l m g h
binary_is o.Or l m g h = joined_is l m g h
binary_is o.Xor l m g h = joined_is l m g h
binary_is o.Xnor l m g h = joined_is l m g h
binary_is o.Shl l m g h = g
binary_is o.Shr l m g h = g
binary_is o.Sshr l m g h = g
binary_is o.Lt l m g h = bit_is (l.four || m.four)
binary_is o.Le l m g h = bit_is (l.four || m.four)
binary_is o.Gt l m g h = bit_is (l.four || m.four)
binary_is o.Ge l m g h = bit_is (l.four || m.four)
binary_is o.Eq l m g h = bit_is (l.four || m.four)
binary_is o.Ne l m g h = bit_is (l.four || m.four)
binary_is o.CaseEq l m g h = bit_is (l.four || m.four)
binary_is o.CaseNe l m g h = bit_is (l.four || m.four)
binary_is o.LogicalAnd l m g h = bit_is (l.four || m.four)
binary_is o.LogicalOr l m g h = bit_is (l.four || m.four)

pub wider_is : (to l : Leaf) → IsLeaf to → IsLeaf l → IsLeaf (wider to l)
wider_is to l g h = joined_is to l g h

pub choice_is : (p l m : Leaf) → IsLeaf l → IsLeaf m → IsLeaf (choice_leaf p l m)
choice_is p l m g h = joined_is l m g h

module _ (d : Design) where
  pub unary_shape : (op : Unary) (c l : Leaf) (a : Tree) → IsLeaf c → tree_shape d a ≡ Some (unary_in op c l ∷ [])
      → tree_shape d (fitted (unary_answer op (unary_in op c l)) c (t.Unary op a)) ≡ Some (c ∷ [])
  unary_shape op c l a h e =
      fitted_has d (unary_answer op (unary_in op c l)) c (t.Unary op a) (opened.unary_opened d op a ∙ on_leaf_to _ e) h

  pub binary_shape : (op : Binary) (c l m : Leaf) (a b : Tree) → IsLeaf c
      → tree_shape d a ≡ Some (left_context op c l m ∷ []) → tree_shape d b ≡ Some (right_context op c l m ∷ [])
      → tree_shape d (fitted (binary_answer op (left_context op c l m) (right_context op c l m)) c (t.Binary op a b)) ≡ Some (c ∷ [])
  binary_shape op c l m a b h e f =
      fitted_has d (binary_answer op (left_context op c l m) (right_context op c l m)) c (t.Binary op a b)
      (opened.binary_opened d op a b ∙ (on_leaf_to _ e ∙ (on_leaf_to _ f ∙ so_to (operands_agree op c l m)))) h

  pub choose_shape : (p c : Leaf) (z a b : Tree) → tree_shape d z ≡ Some (p ∷ []) → tree_shape d a ≡ Some (c ∷ []) → tree_shape d b ≡ Some (c ∷ []) → tree_shape d (t.Choose z a b) ≡ Some (c ∷ [])
  choose_shape p c z a b e f g = opened.choose_opened d z a b ∙ (on_leaf_to _ e ∙ (on_shape_to _ f ∙ (on_shape_to _ g ∙ so_to (shape_same (c ∷ [])))))

  -- ---- concatenations
  concat_by : (b : Bool) (n : ℕ) (four : Bool) (ts : List Tree) (h : Thing) → b ≡ is_width n → (is_width n ≡ true → concat_leaf (map (tree_shape d) ts) ≡ Some (unsigned_leaf n four))
      → (if b then Ok (value (plain (unsigned_leaf n four)) (t.Concat ts)) else Err rule.T2) ≡ Ok h → ThingHas d h
  concat_by true n four ts h w e f =
      let l : IsLeaf (unsigned_leaf n four) = width_back n (sym w) in
      subst (ThingHas d) (ok_back refl f)
      (plain_has d (unsigned_leaf n four) (t.Concat ts) l (opened.concat_opened d ts ∙ (on_shape_to _ (e (sym w)) ∙ so_to (sym w))))
  concat_by false n four ts h w e f = absurd (clash refl f)

  pub concat_has : (n : ℕ) (four : Bool) (ts : List Tree) (h : Thing) → (is_width n ≡ true → concat_leaf (map (tree_shape d) ts) ≡ Some (unsigned_leaf n four)) → concat_thing n four ts ≡ Ok h → ThingHas d h
  concat_has n four ts h e f = concat_by (is_width n) n four ts h refl e f

  more_leaf : (a : Tree) (ts : List Tree) (l : Leaf) (n : ℕ) (four : Bool) → tree_shape d a ≡ Some (l ∷ []) → concat_leaf (map (tree_shape d) ts) ≡ Some (unsigned_leaf n four)
      → concat_leaf (map (tree_shape d) (a ∷ ts)) ≡ Some (unsigned_leaf (l.width + n) (l.four || four))
  more_leaf a ts l n four e f = on_leaf_to _ e ∙ on_shape_to _ f

  pub data Leafed : List Tree → ℕ → Bool → Type 0 where
    no_leafed : Leafed [] 0 false
    more_leafed : {l : Leaf} {n : ℕ} {four : Bool} (a : Tree) (ts : List Tree) → tree_shape d a ≡ Some (l ∷ []) → Leafed ts n four → Leafed (a ∷ ts) (l.width + n) (l.four || four)

  pub leafed_leaf : {ts : List Tree} {n : ℕ} {four : Bool} → Leafed ts n four → concat_leaf (map (tree_shape d) ts) ≡ Some (unsigned_leaf n four)
  leafed_leaf no_leafed = refl
  leafed_leaf (more_leafed a ts e p) = more_leaf a ts _ _ _ e (leafed_leaf p)

  as_leafed : {ts : List Tree} {n m : ℕ} {f g : Bool} → n ≡ m → f ≡ g → Leafed ts n f → Leafed ts m g
  as_leafed {ts = ts} {n = n} {m = m} {f = f} {g = g} e h p = subst (λ g. Leafed ts m g) h (subst (λ m. Leafed ts m f) e p)

  or_assoc : (a b c : Bool) → (a || (b || c)) ≡ ((a || b) || c)
  or_assoc true b c = refl
  or_assoc false b c = refl

  sum_assoc : (a b c : ℕ) → a + (b + c) ≡ (a + b) + c
  sum_assoc a b c = omega arith

  append_leafed : {ts us : List Tree} {n m : ℕ} {f g : Bool} → Leafed ts n f → Leafed us m g → Leafed (ts ++ us) (n + m) (f || g)
  append_leafed {m = m} no_leafed q = as_leafed (omega arith) refl q
  append_leafed {m = m} {g = g} (more_leafed {l = l} {n = n} {four = four} a ts e p) q =
      as_leafed (sum_assoc l.width n m) (or_assoc l.four four g) (more_leafed a (ts ++ _) e (append_leafed p q))

  abbrev four_of : ℕ → Bool → Bool
  four_of zero four = false
  four_of (suc n) four = four

  or_four : (c : ℕ) (four : Bool) → (four || four_of c four) ≡ four
  or_four zero true = refl
  or_four zero false = refl
  or_four (suc c) four = or_self four

  more_width : (c n : ℕ) → n + c * n ≡ suc c * n
  more_width c n = grind arith

  copies_leafed : (c : ℕ) {ts : List Tree} {n : ℕ} {four : Bool} → Leafed ts n four → Leafed (copies c ts) (c * n) (four_of c four)
  copies_leafed zero {n = n} p = as_leafed (omega arith) refl no_leafed
  copies_leafed (suc c) {n = n} {four = four} p = as_leafed (more_width c n) (or_four c four) (append_leafed p (copies_leafed c p))

  pub copies_leaf : (c : ℕ) {ts : List Tree} {n : ℕ} {four : Bool} → Leafed ts n four → is_width (c * n) ≡ true → concat_leaf (map (tree_shape d) (copies c ts)) ≡ Some (unsigned_leaf (c * n) four)
  copies_leaf zero {n = n} p w = let h = (width_back (0 * n) w).0 in absurd (omega (arith, h))
  copies_leaf (suc c) p w = leafed_leaf (copies_leafed (suc c) p)
