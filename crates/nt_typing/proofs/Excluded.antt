-- What has a tree has no fault.
use Rattle.std.proofs.Common.{◌≡◌, ℕ, ◌*◌, Bool, true, List, [], ◌∷◌, None, Result, Ok, Err, refl, ap, sym, subst}
use Rattle.nt_value.specs.Digits.{LeafValue}
use Rattle.nt_value.specs.declared.leaf.Leaf.{Leaf}
use Rattle.nt_value.specs.declared.place.Place.{Place}
use Rattle.nt_diag.specs.declared.rule.Rule.{Rule}
use Rattle.nt_ast.specs.declared.expr.Expr.{Expr}
use Rattle.nt_ast.specs.declared.expr.Expr.TheViews.{out-Expr}
use Rattle.nt_const.specs.Tables.{count_of, width_of}
use Rattle.nt_ast.specs.Places.{Node}
use Rattle.nt_const.specs.Rules.{Own}
use Rattle.nt_const.specs.Rules as rules
use Rattle.nt_const.proofs.Answered.{ap2, ap3, own_one}
use Rattle.nt_const.proofs.Faults as const
use Rattle.nt_design.specs.declared.tree.Tree.{Tree}
use Rattle.nt_kinds.specs.declared.kind.Kind.{Kind}
use Rattle.nt_typing.specs.declared.scope.Callable.{Callable}
use Rattle.nt_typing.specs.declared.scope.Scope.{Scope}
use Rattle.nt_typing.specs.Constants.{Constant}
use Rattle.nt_typing.specs.Tables.{thing_leaf, member_of, item_of, part_of, indexed_of, size_of, copies, concat_thing, answer_of, given}
use Rattle.nt_typing.specs.declared.thing.Thing.{Thing}
use Rattle.nt_typing.specs.Typing as ty
use Rattle.nt_typing.specs.Typing.{Stands, Alone, Typed, Itself, itself, Several, none, more, Goes, to_leaf, to_kind, AllGo, none_go, more_go}
use Rattle.nt_typing.specs.Faults as fa
use Rattle.nt_typing.specs.Faults.{Need, leaf, base, known, count, goes, Meets, is_constant, Asked, all_leaf, all_go, asked_of, asked, Wrong, Flowing, literal_flows, unary_flows, binary_flows, choose_flows, is_pattern, GoesTo, Fault, itself_wrong, in_operand, Among, here, there, Misses, leaf_faulty, leaf_missing, base_faulty, base_missing, inconstant, unmet, not_going, FaultTo, faulty, no_leaf, unlike, no_value, unplanned, in_item}
use Rattle.nt_typing.proofs.One.{ap4, replanned, some_none, no_pattern, there_one, stands_one, itself_one, several_one, all_one, ok_one}

pub ok_err : {A : Type 0} {o q : Result A Rule} {a : A} {r : Rule} → o ≡ q → o ≡ Ok a → q ≡ Err r → ⊥
ok_err e f g = cc

-- an operand that is what is asked of it
pub data Fit : Scope → Need → Node → Type 0 where
  fit_leaf : {s : Scope} {x : Node} {l : Leaf} → Alone s x l → Fit s leaf x
  fit_base : {s : Scope} {x : Node} {h : Thing} → Stands s x h → Fit s base x
  fit_constant : {s : Scope} {n : Need} {x : Node} {v : LeafValue} → is_constant n ≡ true → Constant s x v → Meets n v → Fit s n x
  fit_goes : {s : Scope} {x : Node} {k : Kind} {a : Tree} → Goes s x k a → Fit s (goes k) x

pub data Sound : Scope → Asked → Type 0 where
  no_more : {s : Scope} → Sound s []
  sound : {s : Scope} {n : Need} {rest : Asked} (x : Expr) → Fit s n (out-Expr x) → Sound s rest → Sound s ((n, x) ∷ rest)

fit_self : {s : Scope} {x : Node} {l : Leaf} {a : Tree} → Itself s x l a → Fit s leaf x
fit_self (itself x a u) = fit_leaf a

pub several_sound : {s : Scope} {xs : List Expr} {n : ℕ} {four : Bool} {ts : List Tree} → Several s xs n four ts → Sound s (all_leaf xs)
several_sound none = no_more
several_sound (more x xs i p) = sound x (fit_self i) (several_sound p)

pub all_sound : {s : Scope} {plan : List (Expr × Kind)} {ts : List Tree} → AllGo s plan ts → Sound s (all_go plan)
all_sound none_go = no_more
all_sound (more_go x k rest a p) = sound x (fit_goes a) (all_sound p)

call_sound : {s : Scope} {c : Callable} {o : Result Callable Rule} {ts : List Tree} (xs : List Expr) → o ≡ Ok c → AllGo s (given xs c.args) ts → Sound s (asked_of o xs)
call_sound {s = s} xs e p = subst (λ o. Sound s (asked_of o xs)) (sym e) (all_sound p)

uncalled_sound : {s : Scope} {r : Rule} {o : Result Callable Rule} (xs : List Expr) → o ≡ Err r → Sound s (asked_of o xs)
uncalled_sound {s = s} xs e = subst (λ o. Sound s (asked_of o xs)) (sym e) no_more

pub stands_sound : {s : Scope} {x : Node} {h : Thing} → Stands s x h → Sound s (asked s x)
stands_sound (ty.read at path e) = no_more
stands_sound (ty.member at x name_at name a e) = sound x (fit_base a) no_more
stands_sound (ty.item at x y a i e) = sound x (fit_base a) (sound y (fit_self i) no_more)
stands_sound (ty.part at x y z a u g v h e) = sound x (fit_base a) (sound y (fit_constant refl u g) (sound z (fit_constant refl v h) no_more))
stands_sound (ty.indexed at x y z up a i u g e) = sound x (fit_base a) (sound y (fit_self i) (sound z (fit_constant refl u g) no_more))
stands_sound (ty.concat at xs p e) = several_sound p
stands_sound (ty.repeated at x xs u g p e) = sound x (fit_constant refl u g) (several_sound p)
stands_sound (ty.call at path xs e p g) = call_sound xs e p
stands_sound (ty.size at x a e) = sound x (fit_base a) no_more
stands_sound (ty.time at e) = no_more
stands_sound (ty.sign at b x i) = sound x (fit_self i) no_more

pub alone_sound : {s : Scope} {x : Node} {l : Leaf} → Alone s x l → Sound s (asked s x)
alone_sound (ty.stands a e) = stands_sound a
alone_sound (ty.literal at v w) = no_more
alone_sound (ty.unary at op x a) = sound x (fit_leaf a) no_more
alone_sound (ty.binary at op x y a b) = sound x (fit_leaf a) (sound y (fit_leaf b) no_more)
alone_sound (ty.choose at z x y p a b) = sound z (fit_leaf p) (sound x (fit_leaf a) (sound y (fit_leaf b) no_more))

-- a fault of the node itself rests on its operands
pub wrong_rests : {s : Scope} {x : Node} {r : Rule} {p : Place} → Wrong s x r p → Sound s (asked s x)
wrong_rests (fa.read at path e) = no_more
wrong_rests (fa.member at x name_at name a e) = sound x (fit_base a) no_more
wrong_rests (fa.item at x y a i e) = sound x (fit_base a) (sound y (fit_self i) no_more)
wrong_rests (fa.part at x y z a u g v h e) = sound x (fit_base a) (sound y (fit_constant refl u g) (sound z (fit_constant refl v h) no_more))
wrong_rests (fa.indexed at x y z up a i u g e) = sound x (fit_base a) (sound y (fit_self i) (sound z (fit_constant refl u g) no_more))
wrong_rests (fa.concat at xs p e) = several_sound p
wrong_rests (fa.repeated at x xs u g p e) = sound x (fit_constant refl u g) (several_sound p)
wrong_rests (fa.uncalled at path xs e) = uncalled_sound xs e
wrong_rests (fa.worthless at path xs e p g) = call_sound xs e p
wrong_rests (fa.size at x a e) = sound x (fit_base a) no_more
wrong_rests (fa.time at e) = no_more
wrong_rests (fa.pattern at items) = no_more

pub no_wrong : {s : Scope} {x : Node} {h : Thing} {r : Rule} {p : Place} → Wrong s x r p → Stands s x h → ⊥
no_wrong (fa.read at path e) (ty.read _ _ g) = ok_err refl g e
no_wrong (fa.member at x name_at name a e) (ty.member _ _ _ _ b g) = ok_err (ap (λ h. member_of h name) (stands_one b a)) g e
no_wrong (fa.item at x y a i e) (ty.item _ _ _ b j g) = let u = itself_one j i in ok_err (ap3 item_of (stands_one b a) u.leaf u.tree) g e
no_wrong (fa.part at x y z a u m v n e) (ty.part _ _ _ _ b w k c l g) =
    ok_err (ap3 (λ h (a b : LeafValue). part_of h (count_of a) (count_of b)) (stands_one b a) (own_one w u) (own_one c v)) g e
no_wrong (fa.indexed at x y z up a i u m e) (ty.indexed _ _ _ _ _ b j v n g) =
    let w = itself_one j i in
    ok_err (ap4 (λ h m i (n : LeafValue). indexed_of h up m i (width_of n)) (stands_one b a) w.leaf w.tree (own_one v u)) g e
no_wrong (fa.concat at xs p e) (ty.concat _ _ q g) = let s = several_one q p in ok_err (ap3 concat_thing s.width s.four s.trees) g e
no_wrong (fa.repeated at x xs u m p e) (ty.repeated _ _ _ v n q g) =
    let s = several_one q p in
    ok_err (ap4 (λ (v : LeafValue) n four ts. concat_thing (count_of v * n) four (copies (count_of v) ts)) (own_one v u) s.width s.four s.trees) g e
no_wrong (fa.uncalled at path xs e) (ty.call _ _ _ g q h) = ok_err refl g e
no_wrong (fa.worthless at path xs e p k) (ty.call _ _ _ g q h) =
    let i = ok_one refl g e in
    ok_err (ap2 (λ (c : Callable) ts. answer_of c.result c.number ts) i (all_one q (replanned (ap (λ (c : Callable). given xs c.args) (sym i)) p))) h k
no_wrong (fa.size at x a e) (ty.size _ _ b g) = ok_err (ap size_of (stands_one b a)) g e
no_wrong (fa.time at e) (ty.time _ g) = ok_err refl g e
no_wrong (fa.pattern at items) a = elim a [ ]

pub no_wrong_alone : {s : Scope} {x : Node} {l : Leaf} {r : Rule} {p : Place} → Wrong s x r p → Alone s x l → ⊥
no_wrong_alone w (ty.stands a e) = no_wrong w a
no_wrong_alone w (ty.literal at v h) = elim w [ ]
no_wrong_alone w (ty.unary at op x a) = elim w [ ]
no_wrong_alone w (ty.binary at op x y a b) = elim w [ ]
no_wrong_alone w (ty.choose at z x y p a b) = elim w [ ]

flows_not : {s : Scope} {x : Node} {h : Thing} → Flowing x → Stands s x h → ⊥
flows_not (literal_flows at v) a = elim a [ ]
flows_not (unary_flows at op x) a = elim a [ ]
flows_not (binary_flows at op x y) a = elim a [ ]
flows_not (choose_flows at z x y) a = elim a [ ]

pub leaf_not_none : {s : Scope} {x : Node} {h : Thing} {l : Leaf} → Alone s x l → Stands s x h → thing_leaf h ≡ None → ⊥
leaf_not_none (ty.stands a e) b g = some_none (ap thing_leaf (stands_one a b)) e g
leaf_not_none (ty.literal at v h) b g = elim b [ ]
leaf_not_none (ty.unary at op x a) b g = elim b [ ]
leaf_not_none (ty.binary at op x y a c) b g = elim b [ ]
leaf_not_none (ty.choose at z x y p a c) b g = elim b [ ]

-- ---- places that must be constant
pub no_inconstant : {k : rules.Names} {x : Node} {v : LeafValue} {r : Rule} {p : Place} → rules.Faulty k x r p → Own k x v → ⊥
no_inconstant f (rules.itself x a v) = const.no_faulty a f

-- ---- a fault of an operand
mutual
  pub no_fault_stands : {s : Scope} {x : Node} {h : Thing} {r : Rule} {p : Place} → Fault s x r p → Stands s x h → ⊥
  no_fault_stands (itself_wrong w) a = no_wrong w a
  no_fault_stands (in_operand x g) a = no_among g (stands_sound a)

  pub no_fault : {s : Scope} {x : Node} {l : Leaf} {r : Rule} {p : Place} → Fault s x r p → Alone s x l → ⊥
  no_fault (itself_wrong w) a = no_wrong_alone w a
  no_fault (in_operand x g) a = no_among g (alone_sound a)

  pub no_among : {s : Scope} {ns : Asked} {r : Rule} {p : Place} → Among s ns r p → Sound s ns → ⊥
  no_among (here x rest m) (sound _ a z) = no_misses m a
  no_among (there x rest g) (sound _ a z) = no_among g z

  pub no_misses : {s : Scope} {n : Need} {x : Node} {r : Rule} {p : Place} → Misses s n x r p → Fit s n x → ⊥
  no_misses (leaf_faulty g) (fit_leaf a) = no_fault g a
  no_misses (leaf_faulty g) (fit_constant e u m) = cc
  no_misses (leaf_missing a e) (fit_leaf b) = leaf_not_none b a e
  no_misses (leaf_missing a g) (fit_constant e u m) = cc
  no_misses (base_faulty g) (fit_base a) = no_fault_stands g a
  no_misses (base_faulty g) (fit_constant e u m) = cc
  no_misses (base_missing w b) (fit_base a) = flows_not w a
  no_misses (base_missing w b) (fit_constant e u m) = cc
  no_misses (inconstant e i) (fit_leaf a) = cc
  no_misses (inconstant e i) (fit_base a) = cc
  no_misses (inconstant e i) (fit_goes a) = cc
  no_misses (inconstant e i) (fit_constant _ u m) = no_inconstant i u
  no_misses (unmet e u n) (fit_leaf a) = cc
  no_misses (unmet e u n) (fit_base a) = cc
  no_misses (unmet e u n) (fit_goes a) = cc
  no_misses {n = n} (unmet e u m) (fit_constant _ v h) = m (subst (λ v. Meets n v) (own_one v u) h)
  no_misses (not_going g) (fit_goes a) = no_fault_to g a
  no_misses (not_going g) (fit_constant e u m) = cc

  pub no_fault_to : {s : Scope} {x : Node} {k : Kind} {a : Tree} {r : Rule} {p : Place} → FaultTo s x k r p → Goes s x k a → ⊥
  no_fault_to (faulty e g) (to_leaf x h a u) = no_fault g a
  no_fault_to (faulty e g) (to_kind x h a n q) = no_fault_stands g a
  no_fault_to (faulty e g) (ty.pattern at items h p) = cc
  no_fault_to (no_leaf e a) (to_leaf x h b u) = some_none refl h e
  no_fault_to (no_leaf e a) (to_kind x h b n q) = leaf_not_none a b n
  no_fault_to (no_leaf e a) (ty.pattern at items h p) = no_pattern a
  no_fault_to (unlike a e g h) (to_leaf x i b u) = some_none refl i g
  no_fault_to {k = k} (unlike a e g h) (to_kind x i b n q) = h (subst (λ t. GoesTo t k) (stands_one b a) q)
  no_fault_to (unlike a e g h) (ty.pattern at items i p) = elim a [ ]
  no_fault_to (no_value a e g) (to_leaf x h b u) = leaf_not_none b a e
  no_fault_to (no_value a e g) (to_kind x h b n q) = some_none refl g h
  no_fault_to (no_value a e g) (ty.pattern at items h p) = elim a [ ]
  no_fault_to (unplanned at items e) (to_leaf _ h a u) = no_pattern a
  no_fault_to (unplanned at items e) (to_kind _ h a n q) = elim a [ ]
  no_fault_to (unplanned at items e) (ty.pattern _ _ g p) = some_none refl g e
  no_fault_to (in_item at items e g) (to_leaf _ h a u) = no_pattern a
  no_fault_to (in_item at items e g) (to_kind _ h a n q) = elim a [ ]
  no_fault_to {s = s} (in_item at items e g) (ty.pattern _ _ h p) = no_among g (subst (λ plan. Sound s (all_go plan)) (there_one refl h e) (all_sound p))
