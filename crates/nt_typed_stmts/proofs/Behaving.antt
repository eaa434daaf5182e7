-- Which targets, timing controls and jumps typed statements have.
use Rattle.std.proofs.Common.{◌≡◌, ℕ, ◌++◌, Bool, true, false, List, [], ◌∷◌, map, Option, refl, ap, sym, subst, ◌∙◌}
use Rattle.std.specs.Prelude.{All, filter}
use Rattle.std.proofs.lemmas.List.Elements.{All-nil, All-cons, All-append, All-filter, filter_passes}
use Rattle.std.specs.List.{flat_map}
use Rattle.nt_value.specs.declared.leaf.Leaf.{Leaf}
use Rattle.nt_value.specs.declared.place.Place.{Place}
use Rattle.nt_ast.specs.Places.{Node}
use Rattle.nt_ast.specs.declared.expr.Expr.{Expr}
use Rattle.nt_ast.specs.declared.stmt.Stmt.{Stmt}
use Rattle.nt_ast.specs.declared.stmt.Stmt.TheOpen.{Stmt-F}
use Rattle.nt_design.specs.Reads.{joined, targets_step, targets_of}
use Rattle.nt_design.specs.Rules.{is_slot, Jump, OfLoop, OfFunction, is_return, Special, NonblockingAssignment, SystemCall, is_nonblocking, controls_step, controls_of, jumps_step, jumps_of, specials_step, specials_of}
use Rattle.nt_design.specs.declared.act.Act.{Act}
use Rattle.nt_design.specs.declared.target.Pick.{Pick}
use Rattle.nt_design.specs.declared.target.Target.{Target}
use Rattle.nt_design.specs.declared.target.Target.TheVariants as target
use Rattle.nt_design.specs.declared.tree.Tree.{Tree}
use Rattle.nt_design.specs.declared.tree.Tree.TheOpen.{Tree-F}
use Rattle.nt_kinds.specs.declared.kind.Kind.{Kind}
use Rattle.nt_typing.specs.Tables.{constant_tree}
use Rattle.nt_typing.specs.declared.scope.Scope.{Scope}
use Rattle.nt_typed_stmts.specs.Lefts.{into, Reaches, variable, own, leaves_in, item_in, part_in, Left, left}
use Rattle.nt_typed_stmts.specs.Around.{Around, is_function}
use Rattle.nt_typed_stmts.specs.Binds as b
use Rattle.nt_typed_stmts.specs.Binds.{Begins, begins_own, begins_other, Returned, nothing_returned, value_returned, BindsStatement, BindsAll, BindsArms, BindsOther}
use Rattle.nt_typed_stmts.proofs.Folded as of

-- targets, timing controls, special statements and jumps, in a function or not, in a loop or not
pub record Fine (function looped : Bool) (ts : List Target) (cs : List Bool) (ss : List Special) (js : List Jump) : Type 0 where
  pub no_net : All (λ t. is_slot t ≡ false) ts
  pub no_timing : function ≡ true → cs ≡ []
  pub no_nonblocking : function ≡ true → All (λ s. is_nonblocking s ≡ false) ss
  pub no_loop_left : looped ≡ false → All (λ j. is_return j ≡ true) js
  pub no_return : function ≡ false → All (λ j. is_return j ≡ false) js

true_false : {b : Bool} → b ≡ true → b ≡ false → ⊥
true_false e f = cc

no_two : {A : Type 0} (xs ys : List A) → xs ≡ [] → ys ≡ [] → xs ++ ys ≡ []
no_two [] ys e g = g
no_two (x ∷ xs) ys e g = cc

none_left : (cs : List Bool) → cs ≡ [] → map (λ c. false) cs ≡ []
none_left [] e = refl
none_left (c ∷ cs) e = cc

module _ {f l : Bool} where
  cast : {ts us : List Target} {cs ds : List Bool} {ss rs : List Special} {js ks : List Jump}
      → ts ≡ us → cs ≡ ds → ss ≡ rs → js ≡ ks → Fine f l us ds rs ks → Fine f l ts cs ss js
  cast e g h i n = record {
    no_net = subst (All (λ t. is_slot t ≡ false)) (sym e) n.no_net;
    no_timing = λ w. g ∙ n.no_timing w;
    no_nonblocking = λ w. subst (All (λ s. is_nonblocking s ≡ false)) (sym h) (n.no_nonblocking w);
    no_loop_left = λ w. subst (All (λ j. is_return j ≡ true)) (sym i) (n.no_loop_left w);
    no_return = λ w. subst (All (λ j. is_return j ≡ false)) (sym i) (n.no_return w);
  }

  empty : Fine f l [] [] [] []
  empty = record {
    no_net = All-nil (λ t. is_slot t ≡ false);
    no_timing = λ w. refl;
    no_nonblocking = λ w. All-nil (λ s. is_nonblocking s ≡ false);
    no_loop_left = λ w. All-nil (λ j. is_return j ≡ true);
    no_return = λ w. All-nil (λ j. is_return j ≡ false);
  }

  joins : {ts us : List Target} {cs ds : List Bool} {ss rs : List Special} {js ks : List Jump}
      → Fine f l ts cs ss js → Fine f l us ds rs ks → Fine f l (ts ++ us) (cs ++ ds) (ss ++ rs) (js ++ ks)
  joins m n = record {
    no_net = All-append (λ t. is_slot t ≡ false) _ _ m.no_net n.no_net;
    no_timing = λ w. no_two _ _ (m.no_timing w) (n.no_timing w);
    no_nonblocking = λ w. All-append (λ s. is_nonblocking s ≡ false) _ _ (m.no_nonblocking w) (n.no_nonblocking w);
    no_loop_left = λ w. All-append (λ j. is_return j ≡ true) _ _ (m.no_loop_left w) (n.no_loop_left w);
    no_return = λ w. All-append (λ j. is_return j ≡ false) _ _ (m.no_return w) (n.no_return w);
  }

  -- timing controls that no longer stand at the head
  inward : {ts : List Target} {cs : List Bool} {ss : List Special} {js : List Jump} → Fine f l ts cs ss js → Fine f l ts (map (λ c. false) cs) ss js
  inward n = record {
    no_net = n.no_net;
    no_timing = λ w. none_left _ (n.no_timing w);
    no_nonblocking = n.no_nonblocking;
    no_loop_left = n.no_loop_left;
    no_return = n.no_return;
  }

  -- a loop: no jump out of its body leaves it, but for those that return
  around : {k : Bool} {ts : List Target} {cs : List Bool} {ss : List Special} {js : List Jump} → Fine f k ts cs ss js → Fine f l ts (map (λ c. false) cs) ss (filter is_return js)
  around {js = js} n = record {
    no_net = n.no_net;
    no_timing = λ w. none_left _ (n.no_timing w);
    no_nonblocking = n.no_nonblocking;
    no_loop_left = λ w. filter_passes is_return js;
    no_return = λ w. All-filter is_return (λ j. is_return j ≡ false) js (n.no_return w);
  }

  -- a timing control, which no function has
  timed : {ts : List Target} {cs : List Bool} {ss : List Special} {js : List Jump} (c : Bool) → f ≡ false → Fine f l ts cs ss js → Fine f l ts (c ∷ map (λ c. false) cs) ss js
  timed c e n = record {
    no_net = n.no_net;
    no_timing = λ w. absurd (true_false w e);
    no_nonblocking = n.no_nonblocking;
    no_loop_left = n.no_loop_left;
    no_return = n.no_return;
  }

  -- one more target
  writes : {ts : List Target} {cs : List Bool} {ss : List Special} {js : List Jump} (t : Target) → is_slot t ≡ false → Fine f l ts cs ss js → Fine f l (t ∷ ts) cs ss js
  writes t e n = record {
    no_net = All-cons (λ t. is_slot t ≡ false) t _ e n.no_net;
    no_timing = n.no_timing;
    no_nonblocking = n.no_nonblocking;
    no_loop_left = n.no_loop_left;
    no_return = n.no_return;
  }

  late : {ts : List Target} {cs : List Bool} {ss : List Special} {js : List Jump} → f ≡ false → Fine f l ts cs ss js → Fine f l ts cs (NonblockingAssignment ∷ ss) js
  late e n = record {
    no_net = n.no_net;
    no_timing = n.no_timing;
    no_nonblocking = λ w. absurd (true_false w e);
    no_loop_left = n.no_loop_left;
    no_return = n.no_return;
  }

  calls_system : {ts : List Target} {cs : List Bool} {ss : List Special} {js : List Jump} → Fine f l ts cs ss js → Fine f l ts cs (SystemCall ∷ ss) js
  calls_system n = record {
    no_net = n.no_net;
    no_timing = n.no_timing;
    no_nonblocking = λ w. All-cons (λ s. is_nonblocking s ≡ false) SystemCall _ refl (n.no_nonblocking w);
    no_loop_left = n.no_loop_left;
    no_return = n.no_return;
  }

  leaves_loop : l ≡ true → Fine f l [] [] [] (OfLoop ∷ [])
  leaves_loop e = record {
    no_net = empty.no_net;
    no_timing = empty.no_timing;
    no_nonblocking = empty.no_nonblocking;
    no_loop_left = λ w. absurd (true_false e w);
    no_return = λ w. All-cons (λ j. is_return j ≡ false) OfLoop [] refl (empty.no_return w);
  }

  returns_from : f ≡ true → Fine f l [] [] [] (OfFunction ∷ [])
  returns_from e = record {
    no_net = empty.no_net;
    no_timing = empty.no_timing;
    no_nonblocking = empty.no_nonblocking;
    no_loop_left = λ w. All-cons (λ j. is_return j ≡ true) OfFunction [] refl (empty.no_loop_left w);
    no_return = λ w. absurd (true_false e w);
  }

-- ---- left sides
no_slot_in : (to : Target) (p : Pick) → is_slot to ≡ false → is_slot (into to p) ≡ false
no_slot_in (target.Var v path) p e = refl
no_slot_in (target.Slot net slot low width) p e = e
no_slot_in (target.Local i path) p e = refl

pub reaches_no_slot : {t : Tree-F Tree} {to : Target} → Reaches t to → is_slot to ≡ false
reaches_no_slot (variable v) = refl
reaches_no_slot (own i) = refl
reaches_no_slot (leaves_in {to = to} a first count g) = no_slot_in to _ (reaches_no_slot g)
reaches_no_slot (item_in {to = to} a i low size up g) = no_slot_in to _ (reaches_no_slot g)
reaches_no_slot (part_in {to = to} a low width g) = no_slot_in to _ (reaches_no_slot g)

left_no_slot : {s : Scope} {x : Node} {k : Kind} {to : Target} → Left s x k to → is_slot to ≡ false
left_no_slot (left a g) = reaches_no_slot g

begins_no_slot : {w : Around} {fresh : Bool} {p : Place} {name : List ℕ} {x : Expr} {to : Target} {a : Tree} → Begins w fresh p name x to a → is_slot to ≡ false
begins_no_slot (begins_own p name x g) = refl
begins_no_slot (begins_other p name x g h) = left_no_slot g

abbrev Behaves : Around → Act → Type 0
Behaves w a = Fine (is_function w.scope.inside) w.looped (targets_of a) (controls_of a) (specials_of a) (jumps_of a)

return_where : {s : Scope} {x : Option Expr} {a : Option Tree} → Returned s x a → is_function s.inside ≡ true
return_where (nothing_returned e) = e
return_where (value_returned x e g) = ap is_function e

-- what the statements of arms have, in order
abbrev of_arms : {A : Type 0} → (Act → List A) → List (List Tree × Act) → List A
of_arms {A = A} step bs = flat_map {X = List Tree × List A} (λ arm. arm.1) (map (λ (arm : List Tree × Act). (arm.0, step arm.1)) bs)

mutual
  pub behaves : {w : Around} {x : Stmt-F Stmt} {a : Act} → BindsStatement w x a → Behaves w a
  behaves (b.null at) = cast (of.of_null targets_step at) (of.of_null controls_step at) (of.of_null specials_step at) (of.of_null jumps_step at) (empty)
  behaves (b.block {as' = as'} at xs g) = cast (of.of_block targets_step as' at) (of.of_block controls_step as' at) (of.of_block specials_step as' at) (of.of_block jumps_step as' at) (inward (all_behave g))
  behaves (b.assign {to = to} {b = c} at x y g h) = cast (of.of_assign targets_step to c at) (of.of_assign controls_step to c at) (of.of_assign specials_step to c at) (of.of_assign jumps_step to c at) (writes to (left_no_slot g) empty)
  behaves (b.nonblocking {to = to} {b = c} at x y n g m h) = cast (of.of_nonblocking targets_step to c at) (of.of_nonblocking controls_step to c at) (of.of_nonblocking specials_step to c at) (of.of_nonblocking jumps_step to c at) (writes to (left_no_slot g) (late n empty))
  behaves (b.branch {t = t} {b = c} at x y z i g b.no_other) = cast (of.of_branch targets_step t c at) (of.of_branch controls_step t c at) (of.of_branch specials_step t c at) (of.of_branch jumps_step t c at) (inward (joins (behaves g) empty))
  behaves (b.branch {t = t} {b = c} at x y z i g (b.other {a = d} v h)) = cast (of.of_branches targets_step t c d at) (of.of_branches controls_step t c d at) (of.of_branches specials_step t c d at) (of.of_branches jumps_step t c d at) (inward (joins (behaves g) (behaves h)))
  behaves (b.choice {t = t} {bs = bs} at x arms z a u v g b.no_other) = cast (of.of_choice targets_step t bs at) (of.of_choice controls_step t bs at) (of.of_choice specials_step t bs at) (of.of_choice jumps_step t bs at) (inward (joins (arms_behave g) empty))
  behaves (b.choice {t = t} {bs = bs} at x arms z a u v g (b.other {a = d} y h)) = cast (of.of_choices targets_step t bs d at) (of.of_choices controls_step t bs d at) (of.of_choices specials_step t bs d at) (of.of_choices jumps_step t bs d at) (inward (joins (arms_behave g) (behaves h)))
  behaves (b.while {t = t} {b = c} at x y i g) = cast (of.of_while targets_step t c at) (of.of_while controls_step t c at) (of.of_while specials_step t c at) (of.of_while jumps_step t c at) (around (behaves g))
  behaves (b.repeated {t = t} {b = c} at x y i g) = cast (of.of_repeated targets_step t c at) (of.of_repeated controls_step t c at) (of.of_repeated specials_step t c at) (of.of_repeated jumps_step t c at) (around (behaves g))
  behaves (b.for {to = to} {f = m} {t = t} {b = c} {c = d} at true p name x y z v r i g h) = cast (of.of_for targets_step true to m t c d at) (of.of_for controls_step true to m t c d at) (of.of_for specials_step true to m t c d at) (of.of_for jumps_step true to m t c d at) (writes to (begins_no_slot r) (around (joins (behaves g) (behaves h))))
  behaves (b.for {to = to} {f = m} {t = t} {b = c} {c = d} at false p name x y z v r i g h) = cast (of.of_for targets_step false to m t c d at) (of.of_for controls_step false to m t c d at) (of.of_for specials_step false to m t c d at) (of.of_for jumps_step false to m t c d at) (writes to (begins_no_slot r) (around (joins (behaves g) (behaves h))))
  behaves (b.forever {b = c} at y g) = cast (of.of_forever targets_step c at) (of.of_forever controls_step c at) (of.of_forever specials_step c at) (of.of_forever jumps_step c at) (around (behaves g))
  behaves (b.foreach {w = w} {bounds = bounds} {b = c} at p name q index y e g) = cast (of.of_foreach targets_step bounds w.next c at) (of.of_foreach controls_step bounds w.next c at) (of.of_foreach specials_step bounds w.next c at) (of.of_foreach jumps_step bounds w.next c at) (around (behaves g))
  behaves (b.delay {v = v} {b = c} at x y n u k m g) = cast (of.of_delay targets_step (constant_tree v) c at) (of.of_delay controls_step (constant_tree v) c at) (of.of_delay specials_step (constant_tree v) c at) (of.of_delay jumps_step (constant_tree v) c at) (timed false n (behaves g))
  behaves (b.event {es = es} {b = c} at any xs y n u g) = cast (of.of_event targets_step any es c at) (of.of_event controls_step any es c at) (of.of_event specials_step any es c at) (of.of_event jumps_step any es c at) (timed true n (behaves g))
  behaves (b.wait {t = t} {b = c} at x y n i g) = cast (of.of_wait targets_step t c at) (of.of_wait controls_step t c at) (of.of_wait specials_step t c at) (of.of_wait jumps_step t c at) (timed false n (behaves g))
  behaves (b.return {a = a} at x g) = cast (of.of_return targets_step a at) (of.of_return controls_step a at) (of.of_return specials_step a at) (of.of_return jumps_step a at) (returns_from (return_where g))
  behaves (b.break at e) = cast (of.of_break targets_step at) (of.of_break controls_step at) (of.of_break specials_step at) (of.of_break jumps_step at) (leaves_loop e)
  behaves (b.continue at e) = cast (of.of_continue targets_step at) (of.of_continue controls_step at) (of.of_continue specials_step at) (of.of_continue jumps_step at) (leaves_loop e)
  behaves (b.call {f = f} {ts = ts} at path xs e g) = cast (of.of_call targets_step f.number ts at) (of.of_call controls_step f.number ts at) (of.of_call specials_step f.number ts at) (of.of_call jumps_step f.number ts at) (empty)
  behaves (b.display {ts = ts} at text xs e g) = cast (of.of_display targets_step text ts at) (of.of_display controls_step text ts at) (of.of_display specials_step text ts at) (of.of_display jumps_step text ts at) (calls_system empty)
  behaves (b.finish at) = cast (of.of_finish targets_step at) (of.of_finish controls_step at) (of.of_finish specials_step at) (of.of_finish jumps_step at) (calls_system empty)

  all_behave : {w : Around} {xs : List Stmt} {as' : List Act} → BindsAll w xs as'
      → Fine (is_function w.scope.inside) w.looped (joined (map targets_of as')) (joined (map controls_of as')) (joined (map specials_of as')) (joined (map jumps_of as'))
  all_behave b.no_statements = empty
  all_behave (b.more_statements x xs g h) = joins (behaves g) (all_behave h)

  arms_behave : {w : Around} {c : Leaf} {arms : List (List Expr × Stmt)} {bs : List (List Tree × Act)} → BindsArms w c arms bs
      → Fine (is_function w.scope.inside) w.looped (of_arms targets_of bs) (of_arms controls_of bs) (of_arms specials_of bs) (of_arms jumps_of bs)
  arms_behave b.no_arms = empty
  arms_behave (b.more_arms xs y arms t g h) = joins (behaves g) (arms_behave h)
