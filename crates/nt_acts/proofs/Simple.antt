-- What assignments, returns and calls rest on.
use Rattle.std.proofs.Common.{◌≡◌, ℕ, zero, suc, List, [], ◌∷◌, map, refl, ap, sym, subst, ◌∙◌}
use Rattle.std.specs.Prelude.{All, true, is_some, Option, Some, None, get_or, slice_get}
use Rattle.nt_value.specs.Values.{AreValuesOf, IsValueOf}
use Rattle.nt_value.specs.declared.leaf.Leaf.{Leaf}
use Rattle.nt_design.proofs.Does.{is_both_back, locals_fit, path_fits}
use Rattle.nt_design.proofs.Shaped.{call_back, false_is, nothing_there, on_shape_back, shaped, some_back, where_so_back}
use Rattle.nt_design.specs.Expressions.{Calls, World, value_of, values_of}
use Rattle.nt_design.specs.Fitting.{Gives, Leads}
use Rattle.nt_design.specs.Parts.{Value, Step as Into}
use Rattle.nt_design.specs.Shapes.{Scope, Signature, are_shapes, call_shape, path_shape, pick_shape, signature_at, target_shape, tree_shape}
use Rattle.nt_design.specs.Statements.{path_of}
use Rattle.nt_design.specs.Turns.{Timed}
use Rattle.nt_design.specs.declared.target.Pick.{Pick}
use Rattle.nt_design.specs.declared.target.Target.{Target}
use Rattle.nt_design.specs.declared.target.Target.TheVariants as target
use Rattle.nt_design.specs.declared.tree.Tree.{Tree}
use Rattle.nt_parts.specs.Steps.{IsStep, IsWrite, steps_at}
use Rattle.nt_parts.specs.declared.step.Step.{Step}
use Rattle.nt_values.proofs.Nodes.{args_each, args_have}
use Rattle.nt_values.specs.Typed.{AllPicked, AllTyped, IsCall, Typed}
use Rattle.nt_acts.specs.Doable.{Assigned, Called}

-- each step of a path leads from a shape to one
pub picks_each : (scope : Scope) (path : List Pick) (s r : List Leaf) → path_shape scope path s ≡ Some r → (i : ℕ) (pick : Pick) → slice_get path i ≡ Some pick → (whole part : List Leaf) × (pick_shape scope pick whole ≡ Some part)
picks_each scope [] s r h i pick at = nothing_there pick at
picks_each scope (p ∷ path) s r h zero pick at =
    let first = on_shape_back (pick_shape scope p s) (path_shape scope path) r h in
    (s, first.0, ap (λ p. pick_shape scope p s) (sym (some_back p pick at)) ∙ first.1)
picks_each scope (p ∷ path) s r h (suc i) pick at =
    let first = on_shape_back (pick_shape scope p s) (path_shape scope path) r h in
    picks_each scope path first.0 r first.2 i pick at

there_is : {A : Type 0} (o : Option A) → is_some o ≡ true → (x : A) × (o ≡ Some x)
there_is None h = false_is h
there_is (Some x) h = (x, refl)

module _ {signatures : List (Option Signature)} {calls : Calls} {world : World} {locals : List Value} where
  pub right_typed : (to : Target) (right : Tree) → Assigned signatures calls world locals to right → Typed signatures calls world locals right
  right_typed to right h =
      let both = is_both_back (target_shape h.scope to) (tree_shape h.scope right) h.same in
      record { scope = h.scope; stands = h.stands; shape = both.0; is = both.2 }

  pub path_typed : (i : ℕ) (path : List Pick) (right : Tree) → Assigned signatures calls world locals (target.Local i path) right → AllPicked signatures calls world locals path
  path_typed i path right h =
      let both = is_both_back (target_shape h.scope (target.Local i path)) (tree_shape h.scope right) h.same in
      let at = on_shape_back (slice_get h.scope.locals i) (path_shape h.scope path) both.0 both.1 in
      record { scope = h.scope; stands = h.stands; each = picks_each h.scope path at.0 both.0 at.2 }

  -- the value may be written at the end of the path
  pub may_write : (i : ℕ) (path : List Pick) (right : Tree) → Assigned signatures calls world locals (target.Local i path) right → (left l k : ℕ) (v : Value) (steps : List Step) → value_of calls world right locals left ≡ Some (v, l) → path_of calls world path locals l ≡ Some (steps_at steps, k) → All IsStep steps → IsWrite steps v (get_or locals i [])
  may_write i path right h left l k v steps value path_is may =
      let both = is_both_back (target_shape h.scope (target.Local i path)) (tree_shape h.scope right) h.same in
      let at = on_shape_back (slice_get h.scope.locals i) (path_shape h.scope path) both.0 both.1 in
      let fit = locals_fit h.scope.locals locals h.stands.kept in
      record {
        whole = at.0;
        part = both.0;
        leads = subst (λ (m : Timed (List Into)). Gives m (λ steps. Leads steps at.0 both.0)) path_is (path_fits h.scope calls world h.stands.shapes path at.0 both.0 at.2 locals fit l);
        before = fit i at.0 at.1;
        after = subst (λ (m : Timed Value). Gives m (IsValueOf both.0)) value (shaped h.scope calls world h.stands.shapes right both.0 both.2 locals fit left);
        may = may;
      }

  pub called_args : (f : ℕ) (args : List Tree) → Called signatures calls world locals f args → AllTyped signatures calls world locals args
  called_args f args h =
      let shapes = map (tree_shape h.scope) args in
      let s = there_is (call_shape (signature_at h.scope f) shapes) h.fits in
      let p = call_back (signature_at h.scope f) shapes s.0 s.1 in
      let w = where_so_back (are_shapes shapes p.0.args) p.0.result s.0 p.2 in
      record { scope = h.scope; stands = h.stands; each = args_each h.scope args p.0.args w.0 }

  pub called_is : (f : ℕ) (args : List Tree) → Called signatures calls world locals f args → (left : ℕ) (vs : List Value) (l : ℕ) → values_of calls world args locals left ≡ Some (vs, l) → IsCall signatures f vs
  called_is f args h left vs l is =
      let shapes = map (tree_shape h.scope) args in
      let s = there_is (call_shape (signature_at h.scope f) shapes) h.fits in
      let p = call_back (signature_at h.scope f) shapes s.0 s.1 in
      let w = where_so_back (are_shapes shapes p.0.args) p.0.result s.0 p.2 in
      (p.0, ap (λ sigs. get_or sigs f None) (sym h.stands.functions) ∙ p.1, subst (λ (m : Timed (List Value)). Gives m (AreValuesOf p.0.args)) is (args_have h.scope h.stands args p.0.args w.0 left))
