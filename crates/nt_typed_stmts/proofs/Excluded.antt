-- A statement that is bound has no fault.
use Rattle.std.proofs.Common.{◌≡◌, ℕ, ◌++◌, Bool, true, false, List, [], ◌∷◌, map, Option, Some, None, Result, Ok, Err, refl, ap, sym, subst, arith}
use Rattle.nt_value.specs.Digits.{LeafValue}
use Rattle.nt_value.specs.declared.kind.Edge.{Edge}
use Rattle.nt_value.specs.declared.leaf.Leaf.{Leaf}
use Rattle.nt_value.specs.declared.place.Place.{Place}
use Rattle.nt_diag.specs.declared.rule.Rule.{Rule}
use Rattle.nt_diag.specs.declared.rule.Rule.TheVariants as rule
use Rattle.nt_ast.specs.Places.{Node}
use Rattle.nt_ast.specs.declared.expr.Expr.{Expr}
use Rattle.nt_ast.specs.declared.expr.Expr.TheViews.{out-Expr}
use Rattle.nt_ast.specs.declared.stmt.Stmt.{Stmt}
use Rattle.nt_ast.specs.declared.stmt.Stmt.TheOpen.{Stmt-F}
use Rattle.nt_ast.specs.declared.stmt.Stmt.TheViews.{out-Stmt}
use Rattle.nt_const.proofs.Answered.{own_one}
use Rattle.nt_design.specs.Reads.{calls_of}
use Rattle.nt_design.specs.declared.act.Act.{Act}
use Rattle.nt_design.specs.declared.target.Target.{Target}
use Rattle.nt_design.specs.declared.tree.Tree.{Tree}
use Rattle.nt_design.specs.declared.tree.Tree.TheOpen.{Tree-F}
use Rattle.nt_design.specs.declared.tree.Tree.TheViews.{out-Tree}
use Rattle.nt_kinds.specs.declared.kind.Kind.{Kind}
use Rattle.nt_typing.specs.Constants.{Constant}
use Rattle.nt_typing.specs.Faults.{Asked, all_leaf}
use Rattle.nt_typing.specs.Tables.{given}
use Rattle.nt_typing.specs.Typing.{Alone, Itself, itself, Goes, AllGo}
use Rattle.nt_typing.specs.declared.scope.Callable.{Callable}
use Rattle.nt_typing.specs.declared.scope.Inside.{Inside}
use Rattle.nt_typing.specs.declared.scope.Inside.TheVariants as inside
use Rattle.nt_typing.specs.declared.scope.Scope.{Scope}
use Rattle.nt_typing.specs.declared.thing.Thing.TheVariants.{Value as value, Many as many}
use Rattle.nt_typing.proofs.One.{tree_of, stands_one, itself_one}
use Rattle.nt_typing.proofs.Excluded.{fit_leaf, fit_base, fit_goes, Sound, no_more, sound, all_sound, no_among, no_misses, no_fault, no_fault_to, no_inconstant, leaf_not_none}
use Rattle.nt_typed_stmts.specs.Lefts.{Reaches, variable, own, leaves_in, item_in, part_in, Misled, leaves_of, item_of, part_of, Left, left, LeftFault, faulty, array, misled}
use Rattle.nt_typed_stmts.specs.Around.{Around, is_function}
use Rattle.nt_typed_stmts.specs.Tables.{IsDelay, is_taken}
use Rattle.nt_typed_stmts.specs.Binds as b
use Rattle.nt_typed_stmts.specs.Binds.{is_own_from, Together, together_none, together_more, AllTyped, none_typed, more_typed, AllItself, none_itself, more_itself, Events, no_events, more_events, Begins, begins_own, begins_other, Returned, nothing_returned, value_returned, BindsStatement, BindsAll, BindsArms, BindsOther, items_of}
use Rattle.nt_typed_stmts.specs.Faults.{Ask, operands, assigned, deferred, delay, event, inner, breaks, refused_by, one_leaf, goes_to, all_inner, all_arms, maybe_inner, first_asks, call_asks, return_asks, not_so, asks, Unmet, here, there, Lacks, is_broken, operand_misses, left_faulty, right_faulty, deferred_left, deferred_own, deferred_right, worthless_faulty, worthless_value, delay_varies, delay_outside, event_faulty, event_many, event_calls, inside_faulty}
use Rattle.nt_typed_stmts.proofs.One.{left_one}

-- ---- left sides
pub not_misled : {t : Tree-F Tree} {to : Target} {r : Rule} → Reaches t to → Misled t r → ⊥
not_misled (variable v) m = elim m [ ]
not_misled (own i) m = elim m [ ]
not_misled (leaves_in a first count g) (leaves_of _ _ _ m) = not_misled g m
not_misled (item_in a i low size up g) (item_of _ _ _ _ _ m) = not_misled g m
not_misled (part_in a low width g) (part_of _ _ _ m) = not_misled g m

value_many : {k j : Kind} {a : Tree} → value k a ≡ many j → ⊥
value_many e = cc

pub no_left_fault : {s : Scope} {x : Node} {k : Kind} {to : Target} {r : Rule} {p : Place} → LeftFault s x r p → Left s x k to → ⊥
no_left_fault (faulty m) (left a g) = no_misses m (fit_base a)
no_left_fault (array b) (left a g) = value_many (stands_one a b)
no_left_fault {r = r} (misled b m) (left a g) = not_misled g (subst (λ t. Misled (out-Tree t) r) (ap tree_of (stands_one b a)) m)

true_false : {b : Bool} → b ≡ true → b ≡ false → ⊥
true_false e f = cc

-- ---- what is asked and met
pub data Met : Ask → Type 0 where
  operands_met : {s : Scope} {xs : Asked} → Sound s xs → Met (operands s xs)
  assigned_met : {s : Scope} {x : Node} {k : Kind} {to : Target} {a : Tree} (y : Expr) → Left s x k to → Goes s (out-Expr y) k a → Met (assigned s x y)
  deferred_met : {s : Scope} {x : Node} {n : ℕ} {k : Kind} {to : Target} {a : Tree} (y : Expr)
      → Left s x k to → is_own_from n to ≡ false → Goes s (out-Expr y) k a → Met (deferred s n x y)
  delay_met : {s : Scope} {x : Expr} {v : LeafValue} → Constant s (out-Expr x) v → IsDelay v → Met (delay s x)
  event_met : {s : Scope} {x : Expr} {l : Leaf} {a : Tree} → Itself s (out-Expr x) l a → calls_of a ≡ [] → Met (event s x)
  inner_met : {w : Around} {a : Act} (x : Stmt) → BindsStatement w (out-Stmt x) a → Met (inner w x)

pub data AllMet : List Ask → Type 0 where
  none_met : AllMet []
  more_met : (a : Ask) (rest : List Ask) → Met a → AllMet rest → AllMet (a ∷ rest)

pub both_met : (xs ys : List Ask) → AllMet xs → AllMet ys → AllMet (xs ++ ys)
both_met [] ys none_met h = h
both_met (a ∷ xs) ys (more_met _ _ m g) h = more_met a (xs ++ ys) m (both_met xs ys g h)

pub one_met : (a : Ask) → Met a → AllMet (a ∷ [])
one_met a m = more_met a [] m none_met

alone_of : {s : Scope} {x : Node} {l : Leaf} {a : Tree} → Itself s x l a → Alone s x l
alone_of (itself x a u) = a

pub leaf_met : {s : Scope} {l : Leaf} (x : Expr) → Alone s (out-Expr x) l → Met (one_leaf s x)
leaf_met x a = operands_met (sound x (fit_leaf a) no_more)

pub self_met : {s : Scope} {l : Leaf} {a : Tree} (x : Expr) → Itself s (out-Expr x) l a → Met (one_leaf s x)
self_met x i = leaf_met x (alone_of i)

pub goes_met : {s : Scope} {k : Kind} {a : Tree} (x : Expr) → Goes s (out-Expr x) k a → Met (goes_to s k x)
goes_met x g = operands_met (sound x (fit_goes g) no_more)

pub selves_sound : {s : Scope} {xs : List Expr} {ts : List Tree} → AllItself s xs ts → Sound s (all_leaf xs)
selves_sound none_itself = no_more
selves_sound (more_itself x xs i g) = sound x (fit_leaf (alone_of i)) (selves_sound g)

-- ---- items of a `case`: all have a leaf
pub data HaveLeaf : Scope → List Expr → Type 0 where
  none_have : {s : Scope} → HaveLeaf s []
  more_have : {s : Scope} {l : Leaf} (x : Expr) (xs : List Expr) → Alone s (out-Expr x) l → HaveLeaf s xs → HaveLeaf s (x ∷ xs)

pub together_have : {s : Scope} {xs : List Expr} {l c : Leaf} → Together s xs l c → HaveLeaf s xs
together_have together_none = none_have
together_have (together_more x xs a g) = more_have x xs a (together_have g)

pub have_sound : {s : Scope} {xs : List Expr} → HaveLeaf s xs → Sound s (all_leaf xs)
have_sound none_have = no_more
have_sound (more_have x xs a g) = sound x (fit_leaf a) (have_sound g)

pub have_first : {s : Scope} (xs ys : List Expr) → HaveLeaf s (xs ++ ys) → HaveLeaf s xs
have_first [] ys h = none_have
have_first (x ∷ xs) ys (more_have _ _ a g) = more_have x xs a (have_first xs ys g)

pub have_rest : {s : Scope} (xs ys : List Expr) → HaveLeaf s (xs ++ ys) → HaveLeaf s ys
have_rest [] ys h = h
have_rest (x ∷ xs) ys (more_have _ _ a g) = have_rest xs ys g

-- ---- parts
pub breaks_met : (b : Bool) (r : Rule) (p : Place) → b ≡ false → AllMet (breaks b r p)
breaks_met true r p e = absurd (true_false refl e)
breaks_met false r p e = none_met

pub refused_met : {A : Type 0} {x : A} (o : Result A Rule) (p : Place) → o ≡ Ok x → AllMet (refused_by o p)
refused_met (Ok y) p e = none_met
refused_met (Err r) p e = cc

begins_met : {w : Around} {fresh : Bool} {p : Place} {name : List ℕ} {x : Expr} {to : Target} {a : Tree} → Begins w fresh p name x to a → Met (first_asks w fresh p name x)
begins_met (begins_own p name x g) = goes_met x g
begins_met (begins_other p name x g h) = assigned_met x g h

pub call_met : {s : Scope} {f : Callable} {ts : List Tree} (p : Place) (o : Result Callable Rule) (xs : List Expr) → o ≡ Ok f → AllGo s (given xs f.args) ts → AllMet (call_asks s p o xs)
call_met {s = s} p o xs e g = subst (λ o. AllMet (call_asks s p o xs)) (sym e) (one_met _ (operands_met (all_sound g)))

return_met : {s : Scope} {a : Option Tree} (i : Inside) (p : Place) (x : Option Expr) → s.inside ≡ i → Returned s x a → AllMet (return_asks s i p x)
return_met inside.Procedure p x e (nothing_returned f) = absurd (true_false f (ap is_function e))
return_met inside.Procedure p x e (value_returned y f g) = cc
return_met inside.Other p x e (nothing_returned f) = absurd (true_false f (ap is_function e))
return_met inside.Other p x e (value_returned y f g) = cc
return_met (inside.Function result) p None e g = none_met
return_met (inside.Function None) p (Some x) e (value_returned _ f g) = cc
return_met {s = s} {a = a} (inside.Function (Some k)) p (Some x) e (value_returned {k = j} {a = t} _ f g) =
    let same : j ≡ k = cc in one_met _ (goes_met x (subst (λ k. Goes s (out-Expr x) k t) same g))

pub not_so_false : (b : Bool) → b ≡ true → not_so b ≡ false
not_so_false true e = refl
not_so_false false e = cc

taken : (o : Option ℕ) (n : ℕ) → o ≡ Some n → not_so (is_taken o n) ≡ false
taken None n e = cc
taken (Some m) n e = let f : m ≡ n = cc in let g : is_taken (Some m) n ≡ true = grind arith in not_so_false _ g

events_met : {s : Scope} {xs : List (Edge × Expr)} {es : List (Edge × Tree)} → Events s xs es → AllMet (map (λ e. event s e.1) xs)
events_met no_events = none_met
events_met (more_events edge x xs i n g) = more_met _ _ (event_met i n) (events_met g)

all_met : {w : Around} {xs : List Stmt} {as' : List Act} → BindsAll w xs as' → AllMet (all_inner w xs)
all_met b.no_statements = none_met
all_met (b.more_statements x xs g h) = more_met _ _ (inner_met x g) (all_met h)

arms_met : {w : Around} {c : Leaf} {arms : List (List Expr × Stmt)} {bs : List (List Tree × Act)} → HaveLeaf w.scope (items_of arms) → BindsArms w c arms bs → AllMet (all_arms w arms)
arms_met h b.no_arms = none_met
arms_met h (b.more_arms xs y arms t g u) =
    more_met _ _ (operands_met (have_sound (have_first xs (items_of arms) h))) (more_met _ _ (inner_met y g) (arms_met (have_rest xs (items_of arms) h) u))

other_met : {w : Around} {x : Option Stmt} {a : Option Act} → BindsOther w x a → AllMet (maybe_inner w x)
other_met b.no_other = none_met
other_met (b.other x g) = one_met _ (inner_met x g)

two_met : (a c : Ask) → Met a → Met c → AllMet (a ∷ (c ∷ []))
two_met a c m n = more_met a (c ∷ []) m (one_met c n)

pub statement_met : {w : Around} {x : Stmt-F Stmt} {a : Act} → BindsStatement w x a → AllMet (asks w x)
statement_met (b.null at) = none_met
statement_met (b.block at xs g) = all_met g
statement_met (b.assign at x y g h) = one_met _ (assigned_met y g h)
statement_met (b.nonblocking at x y n g m h) = both_met _ _ (breaks_met _ rule.T15 at n) (one_met _ (deferred_met y g m h))
statement_met (b.branch at x y z i g h) = more_met _ _ (self_met x i) (more_met _ _ (inner_met y g) (other_met h))
statement_met (b.choice at x arms z a t u g h) = more_met _ _ (leaf_met x a) (both_met _ _ (arms_met (together_have t) g) (other_met h))
statement_met (b.while at x y i g) = two_met _ _ (self_met x i) (inner_met y g)
statement_met (b.repeated at x y i g) = two_met _ _ (self_met x i) (inner_met y g)
statement_met (b.for at fresh p name x y z v f i g h) = more_met _ _ (begins_met f) (more_met _ _ (self_met y i) (two_met _ _ (inner_met z g) (inner_met v h)))
statement_met (b.forever at y g) = one_met _ (inner_met y g)
statement_met (b.foreach at p name q index y e g) = both_met _ _ (refused_met _ p e) (one_met _ (inner_met y g))
statement_met (b.delay at x y n u k m g) = both_met _ _ (breaks_met _ rule.T15 at n) (two_met _ _ (delay_met u m) (inner_met y g))
statement_met (b.event at any xs y n u g) = both_met _ _ (breaks_met _ rule.T15 at n) (both_met _ _ (events_met u) (one_met _ (inner_met y g)))
statement_met (b.wait at x y n i g) = both_met _ _ (breaks_met _ rule.T15 at n) (two_met _ _ (self_met x i) (inner_met y g))
statement_met (b.return at x g) = return_met _ at x refl g
statement_met (b.break at e) = breaks_met _ rule.T15 at (not_so_false _ e)
statement_met (b.continue at e) = breaks_met _ rule.T15 at (not_so_false _ e)
statement_met (b.call at path xs e g) = call_met at _ xs e g
statement_met (b.display at text xs e g) = both_met _ _ (breaks_met _ rule.T8 at (taken _ _ e)) (one_met _ (operands_met (selves_sound g)))
statement_met (b.finish at) = none_met

mutual
  pub no_unmet : {as' : List Ask} {r : Rule} {p : Place} → Unmet as' r p → AllMet as' → ⊥
  no_unmet (here a rest l) (more_met _ _ m g) = no_lack l m
  no_unmet (there a rest u) (more_met _ _ m g) = no_unmet u g

  pub no_lack : {a : Ask} {r : Rule} {p : Place} → Lacks a r p → Met a → ⊥
  no_lack (is_broken r p) m = elim m [ ]
  no_lack (operand_misses g) (operands_met m) = no_among g m
  no_lack (left_faulty y g) (assigned_met _ h u) = no_left_fault g h
  no_lack {r = r} {p = p} (right_faulty {s = s} y g v) (assigned_met {a = a} _ h u) = no_fault_to v (subst (λ k. Goes s (out-Expr y) k a) (left_one h g).kind u)
  no_lack (deferred_left y g) (deferred_met _ h m u) = no_left_fault g h
  no_lack (deferred_own {n = n} y g e) (deferred_met _ h m u) = true_false e (subst (λ to. is_own_from n to ≡ false) (left_one h g).target m)
  no_lack (deferred_right {s = s} y g v) (deferred_met {a = a} _ h m u) = no_fault_to v (subst (λ k. Goes s (out-Expr y) k a) (left_one h g).kind u)
  no_lack (worthless_faulty g) m = elim m [ ]
  no_lack (worthless_value g) m = elim m [ ]
  no_lack (delay_varies g) (delay_met u m) = no_inconstant g u
  no_lack (delay_outside u n) (delay_met v m) = n (subst IsDelay (own_one v u) m)
  no_lack (event_faulty g) (event_met i n) = no_fault g (alone_of i)
  no_lack (event_many h e) (event_met i n) = leaf_not_none (alone_of i) h e
  no_lack (event_calls j m) (event_met i n) = m (subst (λ a. calls_of a ≡ []) (itself_one i j).tree n)
  no_lack (inside_faulty x g) (inner_met _ h) = no_unmet g (statement_met h)
