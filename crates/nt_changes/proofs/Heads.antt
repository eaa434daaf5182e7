-- In a state of its design, what a procedure waits with has the shapes that its places ask for.
use Rattle.std.proofs.Common.{◌≡◌, ℕ, suc, zero, List, [], ◌∷◌, map, length, refl, ap, subst, ◌∙◌, arith}
use Rattle.std.specs.Prelude.{All, true, false, ◌==◌, Some, None, get_or, slice_get}
use Rattle.std.specs.List.{list_all}
use Rattle.std.proofs.lemmas.Bool.{and_parts, false≢true}
use Rattle.std.proofs.lemmas.List.Elements.{All-head}
use Rattle.nt_value.specs.Digits.{IsFilled}
use Rattle.nt_value.specs.Values.{shape_of}
use Rattle.nt_value.specs.declared.leaf.Leaf.{Leaf}
use Rattle.nt_design.proofs.Filled.{all_at}
use Rattle.nt_design.proofs.Results.{outside_fits}
use Rattle.nt_design.specs.Meaning.{most_turns}
use Rattle.nt_design.specs.Parts.{Value}
use Rattle.nt_design.specs.Reads.{calls_of, event_trees}
use Rattle.nt_design.specs.Rules.{is_event}
use Rattle.nt_design.specs.Shapes.{Scope, Shaped, is_leaf, tree_shape}
use Rattle.nt_design.specs.WellFormed.{IsDesign, scope_with, signature_of}
use Rattle.nt_design.specs.declared.act.Act.{Act, out-Act}
use Rattle.nt_design.specs.declared.act.Act.TheOpen.{Act-F}
use Rattle.nt_design.specs.declared.design.Design.{Design}
use Rattle.nt_design.specs.declared.process.Proc.{Proc}
use Rattle.nt_design.specs.declared.tree.Tree.{Tree}
use Rattle.nt_semantics.proofs.EventKeeps.{outside}
use Rattle.nt_semantics.proofs.Parts.{ActSound, body_of_proc, part_of_body, part_sound}
use Rattle.nt_semantics.specs.State.{MachineState, locals_at, work_at, world_of_state}
use Rattle.nt_semantics.specs.StateFits.{IsStateOf, IsWorkOf}
use Rattle.nt_semantics.specs.Wake.{functions_of}
use Rattle.nt_semantics.specs.declared.work.Work.{Work}
use Rattle.nt_semantics.specs.declared.work.Work.TheVariants.{Do}
use Rattle.nt_values.specs.Typed.{Stands}
use Rattle.nt_wake.specs.Typed.{EventsTyped, HeadTyped}

leaf_there : (o : Shaped) → is_leaf o ≡ true → (shape : List Leaf) × (o ≡ Some shape)
leaf_there None h = absurd (false≢true h)
leaf_there (Some shape) h = (shape, refl)

nothing_at : {A : Type 0} (x : A) (i : ℕ) → slice_get [] i ≡ Some x → ⊥
nothing_at x zero g = cc
nothing_at x (suc i) g = cc

each_event : (scope : Scope) (trees : List Tree) → list_all (is_event scope) trees ≡ true → (i : ℕ) (tree : Tree) → slice_get trees i ≡ Some tree → (shape : List Leaf) × (tree_shape scope tree ≡ Some shape)
each_event scope [] h i tree at = absurd (nothing_at tree i at)
each_event scope (t ∷ trees) h zero tree at =
    let first = (and_parts (is_event scope t) (list_all (is_event scope) trees) h).0 in
    leaf_there (tree_shape scope tree) (subst (λ (x : Tree). is_leaf (tree_shape scope x) ≡ true) (same t tree at) (and_parts (is_leaf (tree_shape scope t)) (length (calls_of t) == 0) first).0)
  where
    same : (x y : Tree) → Some x ≡ Some y → x ≡ y
    same x y g = cc
each_event scope (t ∷ trees) h (suc i) tree at =
    each_event scope trees (and_parts (is_event scope t) (list_all (is_event scope) trees) h).1 i tree at

no_locals : All (All IsFilled) []
no_locals k x h = absurd (omega (arith, h))

module _ (d : Design) (design : IsDesign d) (s : MachineState) (of : IsStateOf d s) (p : ℕ) (proc : Proc) (at : slice_get d.procs p ≡ Some proc) where
  shapes_own : (locals : List (List Value)) (procs : List Proc) (i : ℕ) → map (map shape_of) locals ≡ map (λ (x : Proc). x.locals) procs → slice_get procs i ≡ Some proc → map shape_of (get_or locals i []) ≡ proc.locals
  shapes_own locals procs i is there =
      mapped locals i ∙ (ap (λ (l : List (List (List Leaf))). get_or l i []) is ∙ found procs i there)
    where
      mapped : (ls : List (List Value)) (i : ℕ) → map shape_of (get_or ls i []) ≡ get_or (map (map shape_of) ls) i []
      mapped [] i = refl
      mapped (l ∷ ls) zero = refl
      mapped (l ∷ ls) (suc i) = mapped ls i

      found : (ps : List Proc) (i : ℕ) → slice_get ps i ≡ Some proc → get_or (map (λ (x : Proc). x.locals) ps) i [] ≡ proc.locals
      found [] zero h = cc
      found [] (suc i) h = cc
      found (x ∷ ps) zero h = ap (λ (y : Proc). y.locals) (same x proc h)
        where
          same : (x y : Proc) → Some x ≡ Some y → x ≡ y
          same x y g = cc
      found (x ∷ ps) (suc i) h = found ps i h

  stands : Stands (map signature_of d.functions) (functions_of d) (world_of_state s) (locals_at s p) (scope_with d proc.locals None)
  stands = record {
    shapes = outside_fits d design most_turns proc.locals (world_of_state s) (outside d design s of);
    kept = record { leaves = shapes_own s.locals d.procs p of.locals at; filled = all_at (All (All IsFilled)) s.locals p [] no_locals of.locals_filled };
    functions = refl;
    few = omega arith;
  }

  act_typed : (act : Act) → ActSound d proc act → EventsTyped (map signature_of d.functions) (functions_of d) (world_of_state s) (locals_at s p) (out-Act act)
  act_typed act sound = of_form (out-Act act) refl
    where
      of_form : (x : Act-F Act) → out-Act act ≡ x → EventsTyped (map signature_of d.functions) (functions_of d) (world_of_state s) (locals_at s p) x
      of_form (Act-F.Event false on body at) is =
          let fits = (part_sound sound (Act-F.Event false on body at) is).fits in
          record {
            scope = scope_with d proc.locals None;
            stands = stands;
            each = each_event (scope_with d proc.locals None) (event_trees on) (and_parts (list_all (is_event (scope_with d proc.locals None)) (event_trees on)) _ fits).0;
          }
      of_form x is = tt

  items_typed : (items : List Work) → All (IsWorkOf proc) items → HeadTyped (map signature_of d.functions) (functions_of d) (world_of_state s) (locals_at s p) items
  items_typed (Do act ∷ rest) h =
      act_typed act (part_of_body (body_of_proc d proc (design.procs p proc at)) act (All-head (IsWorkOf proc) (Do act) rest h))
  items_typed items h = tt

  pub head_typed : HeadTyped (map signature_of d.functions) (functions_of d) (world_of_state s) (locals_at s p) (work_at s p)
  head_typed = items_typed (work_at s p) (of.procs p proc at).work
