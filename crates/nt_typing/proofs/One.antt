-- One thing, one leaf, one tree.
use Rattle.std.proofs.Common.{◌≡◌, ℕ, ◌+◌, ◌*◌, Bool, ◌||◌, List, ◌∷◌, Option, Some, None, Result, Ok, refl, ap, ◌∙◌, sym, subst}
use Rattle.nt_value.specs.Digits.{LeafValue}
use Rattle.nt_value.specs.declared.leaf.Leaf.{Leaf}
use Rattle.nt_diag.specs.declared.rule.Rule.{Rule}
use Rattle.nt_ast.specs.declared.expr.Key.{Key}
use Rattle.nt_ast.specs.declared.expr.Expr.{Expr}
use Rattle.nt_ast.specs.declared.expr.Expr.TheOpen.{Expr-F}
use Rattle.nt_const.specs.Tables.{with_sign, unary_in, unary_leaf, binary_leaf, choice_leaf, literal_in, count_of, width_of}
use Rattle.nt_ast.specs.Places.{Node}
use Rattle.nt_const.proofs.Answered.{ap2, ap3, own_one}
use Rattle.nt_design.specs.Shapes.{unary_answer, binary_answer}
use Rattle.nt_design.specs.declared.tree.Tree.{Tree}
use Rattle.nt_design.specs.declared.tree.Tree.TheVariants as t
use Rattle.nt_kinds.specs.declared.kind.Kind.{Kind}
use Rattle.nt_typing.specs.Kinds.{plain}
use Rattle.nt_value.specs.declared.place.Place.{Place}
use Rattle.nt_typing.specs.declared.scope.Callable.{Callable}
use Rattle.nt_typing.specs.declared.scope.Scope.{Scope}
use Rattle.nt_typing.specs.Tables.{left_context, right_context, wider, fitted, constant_tree, thing_leaf, member_of, item_of, part_of, indexed_of, size_of, copies, concat_thing, answer_of, given}
use Rattle.nt_typing.specs.declared.thing.Thing.{Thing}
use Rattle.nt_typing.specs.declared.thing.Thing.TheVariants.{Value as value, Many as many}
use Rattle.nt_typing.specs.Typing.{Stands, read, member, item, part, indexed, concat, repeated, call, size, time, sign, Alone, stands, literal, unary, binary, choose, Typed, stands_in, literal_within, unary_within, binary_within, choose_within, Itself, itself, Several, none, more, Goes, to_leaf, to_kind, pattern, AllGo, none_go, more_go}

pub ap4 : {A B C D E : Type 0} (f : A → B → C → D → E) {a a' : A} {b b' : B} {c c' : C} {d d' : D} → a ≡ a' → b ≡ b' → c ≡ c' → d ≡ d' → f a b c d ≡ f a' b' c' d'
ap4 f {a = a} {a' = a'} {b = b} {b' = b'} {c = c} {c' = c'} {d = d} {d' = d'} h i j k = ap (λ a. f a b c d) h ∙ ap3 (f a') i j k

pub ok_one : {A : Type 0} {o q : Result A Rule} {a b : A} → o ≡ q → o ≡ Ok a → q ≡ Ok b → a ≡ b
ok_one e f g = cc

pub there_one : {A : Type 0} {o q : Option A} {a b : A} → o ≡ q → o ≡ Some a → q ≡ Some b → a ≡ b
there_one e f g = cc

pub some_none : {A : Type 0} {o q : Option A} {a : A} → o ≡ q → o ≡ Some a → q ≡ None → ⊥
some_none e f g = cc

-- the tree of a value
abbrev pub tree_of : Thing → Tree
tree_of (value k a) = a
tree_of (many k) = t.Time

pub record SameTyped (l m : Leaf) (a b : Tree) : Type 0 where
  pub leaf : l ≡ m
  pub tree : a ≡ b

pub record SameSeveral (n m : ℕ) (f g : Bool) (ts us : List Tree) : Type 0 where
  pub width : n ≡ m
  pub four : f ≡ g
  pub trees : ts ≡ us

pub no_pattern : {s : Scope} {at : Place} {items : List (Option Key × Expr)} {l : Leaf} → Alone s (Expr-F.Pattern at items) l → ⊥
no_pattern (stands a e) = elim a [ ]

pub replanned : {s : Scope} {p q : List (Expr × Kind)} {ts : List Tree} → p ≡ q → AllGo s p ts → AllGo s q ts
replanned {s = s} {ts = ts} e g = subst (λ plan. AllGo s plan ts) e g

mutual
  pub stands_one : {s : Scope} {x : Node} {g h : Thing} → Stands s x g → Stands s x h → g ≡ h
  stands_one (read at path e) (read _ _ f) = ok_one refl e f
  stands_one (member at x name_at name a e) (member _ _ _ _ b f) = ok_one (ap (λ g. member_of g name) (stands_one a b)) e f
  stands_one (item at x y a i e) (item _ _ _ b j f) = let u = itself_one i j in ok_one (ap3 item_of (stands_one a b) u.leaf u.tree) e f
  stands_one (part at x y z a u g v h e) (part _ _ _ _ b w i r j f) =
      ok_one (ap3 (λ g (a b : LeafValue). part_of g (count_of a) (count_of b)) (stands_one a b) (own_one u w) (own_one v r)) e f
  stands_one (indexed at x y z up a i u g e) (indexed _ _ _ _ _ b j v h f) =
      let w = itself_one i j in
      ok_one (ap4 (λ g m i (n : LeafValue). indexed_of g up m i (width_of n)) (stands_one a b) w.leaf w.tree (own_one u v)) e f
  stands_one (concat at xs p e) (concat _ _ q f) = let s = several_one p q in ok_one (ap3 concat_thing s.width s.four s.trees) e f
  stands_one (repeated at x xs u g p e) (repeated _ _ _ v h q f) =
      let s = several_one p q in
      ok_one (ap4 (λ (v : LeafValue) n four ts. concat_thing (count_of v * n) four (copies (count_of v) ts)) (own_one u v) s.width s.four s.trees) e f
  stands_one (call at path xs e p f) (call _ _ _ g q h) =
      let i = ok_one refl e g in
      ok_one (ap2 (λ (c : Callable) ts. answer_of c.result c.number ts) i (all_one p (replanned (ap (λ (c : Callable). given xs c.args) (sym i)) q))) f h
  stands_one (size at x a e) (size _ _ b f) = ok_one (ap size_of (stands_one a b)) e f
  stands_one (time at e) (time _ f) = ok_one refl e f
  stands_one (sign at b x i) (sign _ _ _ j) =
      let u = itself_one i j in ap2 (λ l a. value (plain (with_sign b l)) (fitted l (with_sign b l) a)) u.leaf u.tree

  pub alone_one : {s : Scope} {x : Node} {l m : Leaf} → Alone s x l → Alone s x m → l ≡ m
  alone_one (stands a e) (stands b f) = there_one (ap thing_leaf (stands_one a b)) e f
  alone_one (stands a e) (literal _ _ _) = elim a [ ]
  alone_one (stands a e) (unary _ _ _ _) = elim a [ ]
  alone_one (stands a e) (binary _ _ _ _ _ _) = elim a [ ]
  alone_one (stands a e) (choose _ _ _ _ _ _ _) = elim a [ ]
  alone_one (literal at v w) (literal _ _ _) = refl
  alone_one (literal at v w) (stands b f) = elim b [ ]
  alone_one (unary at op x a) (unary _ _ _ b) = ap (unary_leaf op) (alone_one a b)
  alone_one (unary at op x a) (stands b f) = elim b [ ]
  alone_one (binary at op x y a b) (binary _ _ _ _ c d) = ap2 (binary_leaf op) (alone_one a c) (alone_one b d)
  alone_one (binary at op x y a b) (stands c f) = elim c [ ]
  alone_one (choose at z x y p a b) (choose _ _ _ _ q c d) = ap3 choice_leaf (alone_one p q) (alone_one a c) (alone_one b d)
  alone_one (choose at z x y p a b) (stands c f) = elim c [ ]

  pub typed_one : {s : Scope} {x : Node} {c d : Leaf} {a b : Tree} → Typed s x c a → Typed s x d b → c ≡ d → a ≡ b
  typed_one (stands_in a e) (stands_in b f) h =
      let i = stands_one a b in ap3 fitted (there_one (ap thing_leaf i) e f) h (ap tree_of i)
  typed_one (stands_in a e) (literal_within _ _) h = elim a [ ]
  typed_one (stands_in a e) (unary_within _ _ _ _ _) h = elim a [ ]
  typed_one (stands_in a e) (binary_within _ _ _ _ _ _ _ _) h = elim a [ ]
  typed_one (stands_in a e) (choose_within _ _ _ _ _ _ _) h = elim a [ ]
  typed_one (literal_within at v) (literal_within _ _) h = ap (λ c. constant_tree (literal_in v c)) h
  typed_one (literal_within at v) (stands_in b f) h = elim b [ ]
  typed_one (unary_within at op x a u) (unary_within _ _ _ b v) h =
      let e = alone_one a b in
      let f = ap2 (unary_in op) h e in
      ap3 fitted (ap (unary_answer op) f) h (ap (t.Unary op) (typed_one u v f))
  typed_one (unary_within at op x a u) (stands_in b f) h = elim b [ ]
  typed_one (binary_within at op x y a b u v) (binary_within _ _ _ _ c d w r) h =
      let e = alone_one a c in let f = alone_one b d in
      let g = ap3 (left_context op) h e f in let k = ap3 (right_context op) h e f in
      ap3 fitted (ap2 (binary_answer op) g k) h (ap2 (t.Binary op) (typed_one u w g) (typed_one v r k))
  typed_one (binary_within at op x y a b u v) (stands_in c f) h = elim c [ ]
  typed_one (choose_within at z x y i u v) (choose_within _ _ _ _ j w r) h =
      ap3 t.Choose (itself_one i j).tree (typed_one u w h) (typed_one v r h)
  typed_one (choose_within at z x y i u v) (stands_in c f) h = elim c [ ]

  pub itself_one : {s : Scope} {x : Node} {l m : Leaf} {a b : Tree} → Itself s x l a → Itself s x m b → SameTyped l m a b
  itself_one (itself x a u) (itself _ b v) = let e = alone_one a b in record { leaf = e; tree = typed_one u v e }

  pub several_one : {s : Scope} {xs : List Expr} {n m : ℕ} {f g : Bool} {ts us : List Tree} → Several s xs n f ts → Several s xs m g us → SameSeveral n m f g ts us
  several_one none none = record { width = refl; four = refl; trees = refl }
  several_one (more x xs i p) (more _ _ j q) =
      let u = itself_one i j in let s = several_one p q in
      record {
        width = ap2 (λ (l : Leaf) (n : ℕ). l.width + n) u.leaf s.width;
        four = ap2 (λ (l : Leaf) (f : Bool). l.four || f) u.leaf s.four;
        trees = ap2 (λ (a : Tree) (ts : List Tree). a ∷ ts) u.tree s.trees;
      }

  pub goes_one : {s : Scope} {x : Node} {k : Kind} {a b : Tree} → Goes s x k a → Goes s x k b → a ≡ b
  goes_one (to_leaf x e a u) (to_leaf _ f b v) =
      let i = there_one refl e f in let j = ap2 wider i (alone_one a b) in ap3 fitted j i (typed_one u v j)
  goes_one (to_leaf x e a u) (to_kind _ f b m r) = absurd (some_none refl e f)
  goes_one (to_leaf x e a u) (pattern _ _ f p) = absurd (no_pattern a)
  goes_one (to_kind x e a n q) (to_leaf _ f b v) = absurd (some_none refl f e)
  goes_one (to_kind x e a n q) (to_kind _ f b m r) = ap tree_of (stands_one a b)
  goes_one (to_kind x e a n q) (pattern _ _ f p) = elim a [ ]
  goes_one (pattern at items e p) (to_leaf _ f b v) = absurd (no_pattern b)
  goes_one (pattern at items e p) (to_kind _ f b m r) = elim b [ ]
  goes_one (pattern at items e p) (pattern _ _ f q) =
      ap t.Gather (all_one p (replanned (there_one refl f e) q))

  pub all_one : {s : Scope} {p : List (Expr × Kind)} {ts us : List Tree} → AllGo s p ts → AllGo s p us → ts ≡ us
  all_one none_go none_go = refl
  all_one (more_go x k rest a p) (more_go _ _ _ b q) = ap2 (λ (a : Tree) (ts : List Tree). a ∷ ts) (goes_one a b) (all_one p q)
