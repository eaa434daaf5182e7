-- One leaf, one value.
use Rattle.std.proofs.Common.{◌≡◌, ℕ, suc, ◌+◌, ◌-◌, ◌*◌, Bool, true, ◌||◌, List, ◌∷◌, Option, Some, refl, ap, ◌∙◌}
use Rattle.nt_value.specs.Digits.{LeafValue}
use Rattle.nt_value.specs.Operators.{unsigned_leaf, resize_of, unary_of, binary_of, merge_of}
use Rattle.nt_value.specs.declared.leaf.Leaf.{Leaf}
use Rattle.nt_ast.specs.declared.expr.Expr.{Expr}
use Rattle.nt_const.specs.declared.seen.Seen.{Seen}
use Rattle.nt_const.specs.declared.seen.Seen.TheVariants as seen
use Rattle.nt_const.specs.Tables.{with_sign, bit, unary_leaf, unary_in, binary_leaf, left_in, right_in, choice_leaf, literal_in, count_of, width_of, taken, indexed_of, joint, times}
use Rattle.nt_ast.specs.Places.{Node}
use Rattle.nt_const.specs.Rules.{Names, Alone, literal, read, item, part, indexed, unary, binary, choose, concat, repeated, sign, Parts, none, more, Within, literal_within, read_within, item_within, part_within, indexed_within, unary_within, binary_within, choose_within, concat_within, repeated_within, sign_within, Own, itself, Owns, no_values, more_values}

pub ap2 : {A B C : Type 0} (f : A → B → C) {a c : A} {b d : B} → a ≡ c → b ≡ d → f a b ≡ f c d
ap2 f {a = a} {c = c} {b = b} {d = d} e g = ap (λ a. f a b) e ∙ ap (f c) g

pub ap3 : {A B C D : Type 0} (f : A → B → C → D) {a d : A} {b e : B} {c g : C} → a ≡ d → b ≡ e → c ≡ g → f a b c ≡ f d e g
ap3 f {a = a} {d = d} {b = b} {e = e} {c = c} {g = g} h i j = ap (λ a. f a b c) h ∙ ap2 (f d) i j

pub value_one : {s : Seen} {a b : LeafValue} → s ≡ seen.Value a → s ≡ seen.Value b → a ≡ b
value_one e f = cc

pub joint_one : {o q : Option LeafValue} {a b : LeafValue} → o ≡ q → o ≡ Some a → q ≡ Some b → a ≡ b
joint_one e f g = cc

pub record Same (n m : ℕ) (f g : Bool) : Type 0 where
  pub width : n ≡ m
  pub four : f ≡ g

mutual
  pub alone_one : {k : Names} {x : Node} {l m : Leaf} → Alone k x l → Alone k x m → l ≡ m
  alone_one (literal at v) (literal _ _) = refl
  alone_one (read at path b e) (read _ _ c f) = ap (λ (b : LeafValue). b.leaf) (value_one e f)
  alone_one (item at x y a b) (item _ _ _ c d) = ap (λ (l : Leaf). bit l.four) (alone_one a c)
  alone_one (part at x y z a u g v h w) (part _ _ _ _ b s i t j z') =
      ap3 (λ (l : Leaf) (a b : LeafValue). unsigned_leaf (suc (count_of a) - count_of b) l.four) (alone_one a b) (own_one u s) (own_one v t)
  alone_one (indexed at x y z up a b u g w) (indexed _ _ _ _ _ c d v h z') =
      ap2 (λ (l : Leaf) (n : LeafValue). unsigned_leaf (width_of n) l.four) (alone_one a c) (own_one u v)
  alone_one (unary at op x a) (unary _ _ _ b) = ap (unary_leaf op) (alone_one a b)
  alone_one (binary at op x y a b) (binary _ _ _ _ c d) = ap2 (binary_leaf op) (alone_one a c) (alone_one b d)
  alone_one (choose at p x y t a b) (choose _ _ _ _ s c d) = ap3 choice_leaf (alone_one t s) (alone_one a c) (alone_one b d)
  alone_one (concat at xs p w) (concat _ _ q v) = let s = parts_one p q in ap2 unsigned_leaf s.width s.four
  alone_one (repeated at x xs u g p w) (repeated _ _ _ v h q z) =
      let s = parts_one p q in ap3 (λ (v : LeafValue) (n : ℕ) (f : Bool). unsigned_leaf (count_of v * n) f) (own_one u v) s.width s.four
  alone_one (sign at s x a) (sign _ _ _ b) = ap (with_sign s) (alone_one a b)

  pub parts_one : {k : Names} {xs : List Expr} {n m : ℕ} {f g : Bool} → Parts k xs n f → Parts k xs m g → Same n m f g
  parts_one none none = record { width = refl; four = refl }
  parts_one (more x xs a p) (more _ _ b q) =
      let s = parts_one p q in let e = alone_one a b in
      record { width = ap2 (λ (l : Leaf) (n : ℕ). l.width + n) e s.width; four = ap2 (λ (l : Leaf) (f : Bool). l.four || f) e s.four }

  pub within_one : {k : Names} {x : Node} {c d : Leaf} {v w : LeafValue} → Within k x c v → Within k x d w → c ≡ d → v ≡ w
  within_one (literal_within at v) (literal_within _ _) h = ap (literal_in v) h
  within_one (read_within at path b e) (read_within _ _ c f) h = ap2 resize_of (value_one e f) h
  within_one (item_within at x y v i) (item_within _ _ _ w j) h =
      ap2 resize_of (ap2 (λ v i. indexed_of true v i 1) (own_one v w) (own_one i j)) h
  within_one (part_within at x y z v a b) (part_within _ _ _ _ w c d) h =
      ap2 resize_of (ap3 (λ v a b. taken v (count_of b) (suc (count_of a) - count_of b)) (own_one v w) (own_one a c) (own_one b d)) h
  within_one (indexed_within at x y z up v i n) (indexed_within _ _ _ _ _ w j m) h =
      ap2 resize_of (ap3 (λ v i n. indexed_of up v i (width_of n)) (own_one v w) (own_one i j) (own_one n m)) h
  within_one (unary_within at op x a v) (unary_within _ _ _ b w) h =
      ap2 resize_of (ap (unary_of op) (within_one v w (ap2 (unary_in op) h (alone_one a b)))) h
  within_one (binary_within at op x y a b v w) (binary_within _ _ _ _ c d t u) h =
      let e = alone_one a c in let f = alone_one b d in
      let i = within_one v t (ap3 (left_in op) h e f) in let j = within_one w u (ap3 (right_in op) h e f) in
      ap2 resize_of (ap2 (binary_of op) i j) h
  within_one (choose_within at p x y t a b) (choose_within _ _ _ _ s c d) h =
      ap3 merge_of (own_one t s) (within_one a c h) (within_one b d h)
  within_one (concat_within at xs vs e) (concat_within _ _ ws f) h = ap2 resize_of (joint_one (ap joint (owns_one vs ws)) e f) h
  within_one (repeated_within at x xs n vs e f) (repeated_within _ _ _ m ws g i) h =
      let j = joint_one (ap joint (owns_one vs ws)) e g in
      ap2 resize_of (joint_one (ap2 (λ n v. times (count_of n) v) (own_one n m) j) f i) h
  within_one (sign_within at s x v) (sign_within _ _ _ w) h = ap2 resize_of (own_one v w) h

  pub own_one : {k : Names} {x : Node} {v w : LeafValue} → Own k x v → Own k x w → v ≡ w
  own_one (itself x a v) (itself _ b w) = within_one v w (alone_one a b)

  pub owns_one : {k : Names} {xs : List Expr} {vs ws : List LeafValue} → Owns k xs vs → Owns k xs ws → vs ≡ ws
  owns_one no_values no_values = refl
  owns_one (more_values x xs v vs) (more_values _ _ w ws) = ap2 (λ v vs. v ∷ vs) (own_one v w) (owns_one vs ws)
