-- What a function gives is a value of its result's shape, and so are values outside functions those of their shapes.
use Rattle.std.proofs.Common.{◌≡◌, ℕ, zero, suc, List, [], ◌∷◌, ◌++◌, map, length, refl, ap, sym, subst, ◌∙◌, arith}
use Rattle.std.specs.Prelude.{All, Contains, Bool, true, false, not, ◌&&◌, if◌then◌else◌, Some, None, get_or, option_map, slice_get}
use Rattle.std.proofs.lemmas.Bool.{and_parts}
use Rattle.std.proofs.lemmas.List.{map-append}
use Rattle.std.proofs.lemmas.List.Elements.{All-append, All-cons, Contains-append_right}
use Rattle.std.proofs.lemmas.Option.{get_or_from_slice_get}
use Rattle.nt_value.proofs.Filled.{default_filled}
use Rattle.nt_value.specs.Values.{AreValuesOf, IsValueOf, default_value, shape_of}
use Rattle.nt_value.specs.declared.leaf.Leaf.{Leaf}
use Rattle.nt_design.proofs.Does.{Kept, Named, all_done, gives_spend, locals_fit, path_fits}
use Rattle.nt_design.proofs.Filled.{Filled, all_at, all_none, defaults_filled, none_filled}
use Rattle.nt_design.proofs.Frame.{two}
use Rattle.nt_design.proofs.Shaped.{default_has, false_is, gives_then, not_back, nothing_there, shaped, some_back, where_so_back}
use Rattle.nt_design.specs.Expressions.{World, Calls, object_in, value_of}
use Rattle.nt_design.specs.Fitting.{Gives, HasShapes, Leads, LocalsFit, Returns}
use Rattle.nt_design.specs.Meaning.{calls_to, entry_of, meaning, most_turns, name_local, name_of, own_args, own_world, result_of, run, world_of}
use Rattle.nt_design.specs.Parts.{Value}
use Rattle.nt_design.specs.Shapes.{Scope, Signature, object_shape, path_shape, tree_shape}
use Rattle.nt_design.specs.Statements.{do_all, path_of}
use Rattle.nt_design.specs.Turns.{Timed}
use Rattle.nt_design.specs.WellFormed.{Fits, IsDesign, IsFunction, IsOwn, MayCall, design_scope, env_scope, first_shape, function_locals, function_scope, is_own, name_shape, net_shapes, scope_with, signature_of, signatures, usable_in, var_shapes}
use Rattle.nt_design.specs.declared.design.Design.{Design}
use Rattle.nt_design.specs.declared.env.Env.{Env}
use Rattle.nt_design.specs.declared.function.Function.{Function}
use Rattle.nt_design.specs.declared.object.Object.{Object}
use Rattle.nt_design.specs.declared.object.Object.TheVariants as object
use Rattle.nt_design.specs.declared.target.Pick.{Pick}
use Rattle.nt_design.specs.declared.tree.Tree.{Tree}

-- ---- lists
pub in_list : {X : Type 0} (xs : List X) (i : ℕ) (x : X) → slice_get xs i ≡ Some x → Contains xs x
in_list [] i x h = nothing_there x h
in_list (y ∷ xs) zero x h = (0, omega arith, some_back y x h)
in_list (y ∷ xs) (suc i) x h = Contains-append_right (y ∷ []) xs x (in_list xs i x h)

after : {X : Type 0} (xs ys : List X) → slice_get (xs ++ ys) (length xs) ≡ slice_get ys 0
after [] ys = refl
after (x ∷ xs) ys = after xs ys

defaults_have : (shapes : List (List Leaf)) → map shape_of (map default_value shapes) ≡ shapes
defaults_have [] = refl
defaults_have (s ∷ shapes) = two (λ x xs. x ∷ xs) (default_has s) (defaults_have shapes)

-- ---- functions that may be called
-- the function that has this signature
signature_there : (functions : List Function) (f : ℕ) (signature : Signature) → get_or (map signature_of functions) f None ≡ Some signature → (function : Function) × (slice_get functions f ≡ Some function) × (signature_of function ≡ Some signature)
signature_there [] f signature h = nothing_there signature h
signature_there (x ∷ functions) zero signature h = (x, refl, h)
signature_there (x ∷ functions) (suc f) signature h = signature_there functions f signature h

-- what functions give are values of their results' shapes
abbrev ResultsFit : Design → Calls → Type 0
ResultsFit d calls =
    (f : ℕ) (function : Function) (args : List Value) (left : ℕ) → slice_get d.functions f ≡ Some function → MayCall function args → Gives (calls f args left) (IsValueOf function.result)

returns_fit : (d : Design) (calls : Calls) → ResultsFit d calls → (f : ℕ) (signature : Signature) → get_or (signatures d) f None ≡ Some signature → Returns signature (calls f)
returns_fit d calls fit f signature h args left are =
    let there = signature_there d.functions f signature h in
    let of = where_so_back (not there.0.many && is_own there.0) (record { args = there.0.args; result = there.0.result }) signature there.2 in
    let parts = and_parts (not there.0.many) (is_own there.0) of.0 in
    subst (λ (r : Signature). Gives (calls f args left) (IsValueOf r.result)) of.1
    (fit f there.0 args left there.1 (record {
      own = parts.1;
      values = λ one. subst (λ (r : Signature). AreValuesOf r.args args) (sym of.1) are;
      elements = λ shape many is. false_is (sym (not_back there.0.many parts.0) ∙ many);
    }))

objects_fit : (scope : Scope) (world : World) → AreValuesOf scope.nets world.nets → AreValuesOf scope.vars world.vars → (o : Object) (s : List Leaf) → object_shape scope o ≡ Some s → IsValueOf s (object_in world o)
objects_fit scope world nets vars (object.Net n) s at = locals_fit scope.nets world.nets nets n s at
objects_fit scope world nets vars (object.Var v) s at = locals_fit scope.vars world.vars vars v s at

-- ---- a function's world
-- the default of a shape is one of its values
pub default_is : (shape : List Leaf) → IsValueOf shape (default_value shape)
default_is shape = record { leaves = default_has shape; filled = default_filled shape }

no_values : AreValuesOf [] []
no_values = record { leaves = refl; filled = all_none }

many_has : (scope : Scope) (f : Function) (args : List Value) → IsFunction scope f → MayCall f args → (i : ℕ) → IsValueOf (get_or f.args 0 []) (get_or (if f.many then args else []) i (default_value (get_or f.args 0 [])))
many_has scope f args is may i = of_many f.many refl
  where
    of_args : f.many ≡ true → (shapes : List (List Leaf)) → f.args ≡ shapes → length shapes ≡ 1 → IsValueOf (get_or f.args 0 []) (get_or args i (default_value (get_or f.args 0 [])))
    of_args many [] e one = absurd (omega (arith, one))
    of_args many (a ∷ b ∷ shapes) e one = absurd (omega (arith, one))
    of_args many (shape ∷ []) e one =
        all_at (IsValueOf (get_or f.args 0 [])) args i (default_value (get_or f.args 0 [])) (default_is (get_or f.args 0 []))
        (subst (λ r. All (IsValueOf r) args) (sym (ap (λ l. get_or l 0 []) e)) (may.elements shape many e).same)

    of_many : (b : Bool) → f.many ≡ b → IsValueOf (get_or f.args 0 []) (get_or (if b then args else []) i (default_value (get_or f.args 0 [])))
    of_many false e = default_is (get_or f.args 0 [])
    of_many true e = of_args e f.args refl (is.one_argument e)

element_is : (f : Function) (s : List Leaf) → (if f.many then slice_get f.args 0 else None) ≡ Some s → get_or f.args 0 [] ≡ s
element_is f s h = of_many f.many h
  where
    of_many : (b : Bool) → (if b then slice_get f.args 0 else None) ≡ Some s → get_or f.args 0 [] ≡ s
    of_many true at = get_or_from_slice_get f.args 0 s [] at
    of_many false at = nothing_there s at

-- a function that uses only its own has no nets and variables
none_usable : (f : Function) → IsOwn f → (objects : List (List Leaf)) → AreValuesOf (usable_in f objects) []
none_usable f own objects = subst (λ (b : Bool). AreValuesOf (if b then [] else objects) []) (sym own) no_values

function_fits : (d : Design) (calls : Calls) → ResultsFit d calls → (f : Function) (args : List Value) → IsFunction (design_scope d) f → MayCall f args → HasShapes (function_scope (design_scope d) f) calls (own_world f args)
function_fits d calls fit f args is may = record {
  objects = objects_fit (function_scope (design_scope d) f) (own_world f args) (none_usable f may.own (net_shapes d)) (none_usable f may.own (var_shapes d));
  element = element_is f;
  many = many_has (design_scope d) f args is may;
  results = returns_fit d calls fit;
}

-- ---- a function's locals
pub entry_kept : (f : Function) (args : List Value) → MayCall f args → AreValuesOf (function_locals f) (entry_of f args)
entry_kept f args may = record {
  leaves = map-append shape_of (own_args f args) (name_local f.result ++ map default_value f.locals)
      ∙ two (λ x y. x ++ y) (of_many f.many refl)
      (map-append shape_of (name_local f.result) (map default_value f.locals)
      ∙ two (λ x y. x ++ y) (named f.result) (defaults_have f.locals));
  filled = All-append Filled (own_args f args) (name_local f.result ++ map default_value f.locals) (args_filled f.many refl)
      (All-append Filled (name_local f.result) (map default_value f.locals) (name_filled f.result) (defaults_filled f.locals));
}
  where
    of_many : (b : Bool) → f.many ≡ b → map shape_of (if b then [] else args) ≡ (if b then [] else f.args)
    of_many true e = refl
    of_many false e = (may.values e).leaves

    args_filled : (b : Bool) → f.many ≡ b → All Filled (if b then [] else args)
    args_filled true e = all_none
    args_filled false e = (may.values e).filled

    named : (result : List Leaf) → map shape_of (name_local result) ≡ name_shape result
    named [] = refl
    named (leaf ∷ leaves) = ap (λ s. s ∷ []) (default_has (leaf ∷ leaves))

    name_filled : (result : List Leaf) → All Filled (name_local result)
    name_filled [] = all_none
    name_filled (leaf ∷ leaves) =
        All-cons Filled (default_value (leaf ∷ leaves)) [] (default_filled (leaf ∷ leaves)) all_none

-- the name stands after the arguments
name_there : (result : List Leaf) (leaf : Leaf) (leaves : List Leaf) → result ≡ leaf ∷ leaves → (before others : List (List Leaf)) → slice_get (before ++ (name_shape result ++ others)) (length before) ≡ Some (leaf ∷ leaves)
name_there result leaf leaves e before others =
    after before (name_shape result ++ others) ∙ ap (λ r. slice_get (name_shape r ++ others) 0) e

name_fits : (scope : Scope) (f : Function) → Named (function_scope scope f) (Some f.result) (name_of f)
name_fits scope f leaf leaves s is at =
    some_back (leaf ∷ leaves) s (sym (name_there f.result leaf leaves (some_back f.result (leaf ∷ leaves) is) (own_args f f.args) f.locals) ∙ at)

result_has : (result : List Leaf) (before others : List (List Leaf)) (locals : List Value) → AreValuesOf (before ++ (name_shape result ++ others)) locals → IsValueOf result (result_of result (length before) locals)
result_has [] before others locals h = record { leaves = refl; filled = none_filled }
result_has (leaf ∷ leaves) before others locals h =
    locals_fit (before ++ ((leaf ∷ leaves) ∷ others)) locals h (length before) (leaf ∷ leaves) (name_there (leaf ∷ leaves) leaf leaves refl before others)

-- ---- a function's body
body_fits : (d : Design) → IsDesign d → (calls : Calls) → ResultsFit d calls → (f : ℕ) (function : Function) (args : List Value) (left : ℕ) → slice_get d.functions f ≡ Some function → MayCall function args → Gives (run calls (Some function) args left) (IsValueOf function.result)
body_fits d design calls fit f function args left at may =
    let is = design.functions f function at in
    gives_then (do_all calls (own_world function args) (name_of function) function.body (entry_of function args) left)
    (λ e l. Some (result_of function.result (name_of function) e.0, l))
    (λ e. Kept (function_scope (design_scope d) function) e.0) (IsValueOf function.result)
    (all_done (function_scope (design_scope d) function) (Some function.result) calls (own_world function args) (name_of function) (function_fits d calls fit function args is may) (name_fits (design_scope d) function) function.body is.fits (entry_of function args) (entry_kept function args may) left)
    (λ e l kept. result_has function.result (own_args function function.args) function.locals e.0 kept)

-- what a function gives is a value of its result's shape
pub results_fit : (d : Design) → IsDesign d → (depth f : ℕ) (function : Function) (args : List Value) (left : ℕ) → slice_get d.functions f ≡ Some function → MayCall function args → Gives (calls_to d.functions depth f args left) (IsValueOf function.result)
unfolding calls_to
results_fit d design zero f function args left at may = tt
results_fit d design (suc depth) f function args left at may =
    gives_spend left (λ l. run (calls_to d.functions depth) (slice_get d.functions f) args l) (IsValueOf function.result)
    (λ l. subst (λ o. Gives (run (calls_to d.functions depth) o args l) (IsValueOf function.result)) (sym at)
    (body_fits d design (calls_to d.functions depth) (results_fit d design depth) f function args l at may))

-- so do the signatures of a design say what its functions give
pub calls_fit : (d : Design) → IsDesign d → (depth f : ℕ) (signature : Signature) → get_or (signatures d) f None ≡ Some signature → Returns signature (calls_to d.functions depth f)
calls_fit d design depth = returns_fit d (calls_to d.functions depth) (results_fit d design depth)

-- ---- outside functions
-- a world has the objects of a design, and no argument of a resolver
pub record Outside (d : Design) (world : World) : Type 0 where
  pub nets : AreValuesOf (net_shapes d) world.nets
  pub vars : AreValuesOf (var_shapes d) world.vars
  pub many : world.many ≡ []
  pub element : world.element ≡ []

pub outside_fits : (d : Design) → IsDesign d → (depth : ℕ) (shapes : List (List Leaf)) (world : World) → Outside d world → HasShapes (scope_with d shapes None) (calls_to d.functions depth) world
outside_fits d design depth shapes world outside = record {
  objects = objects_fit (scope_with d shapes None) world outside.nets outside.vars;
  element = λ s h. nothing_there s h;
  many = λ i. subst (λ (m : List Value). IsValueOf world.element (get_or m i (default_value world.element))) (sym outside.many) (default_is world.element);
  results = calls_fit d design depth;
}

-- the value of an expression is one of its shape
pub value_has : (d : Design) → IsDesign d → (depth : ℕ) (shapes : List (List Leaf)) (world : World) → Outside d world → (t : Tree) (s : List Leaf) → tree_shape (scope_with d shapes None) t ≡ Some s → (locals : List Value) → LocalsFit (scope_with d shapes None) locals → (left : ℕ) → Gives (value_of (calls_to d.functions depth) world t locals left) (IsValueOf s)
value_has d design depth shapes world outside t s h locals ok left =
    shaped (scope_with d shapes None) (calls_to d.functions depth) world (outside_fits d design depth shapes world outside) t s h locals ok left

-- a path leads to the part that its shape says
pub path_has : (d : Design) → IsDesign d → (depth : ℕ) (shapes : List (List Leaf)) (world : World) → Outside d world → (path : List Pick) (s r : List Leaf) → path_shape (scope_with d shapes None) path s ≡ Some r → (locals : List Value) → LocalsFit (scope_with d shapes None) locals → (left : ℕ) → Gives (path_of (calls_to d.functions depth) world path locals left) (λ steps. Leads steps s r)
path_has d design depth shapes world outside path s r h locals ok left =
    path_fits (scope_with d shapes None) (calls_to d.functions depth) world (outside_fits d design depth shapes world outside) path s r h locals ok left

-- ---- an expression in an environment that it fits
element_first : (many : List Value) → shape_of (get_or many 0 []) ≡ first_shape many
element_first [] = refl
element_first (v ∷ vs) = refl

pub env_fits : (d : Design) → IsDesign d → (depth : ℕ) (env : Env) (t : Tree) → Fits d env t → HasShapes (env_scope d env) (calls_to d.functions depth) (world_of env)
env_fits d design depth env t fits = record {
  objects = objects_fit (env_scope d env) (world_of env) fits.objects.nets fits.objects.vars;
  element = λ s h. element_first env.many ∙ some_back (first_shape env.many) s h;
  many = λ i. subst (λ r. IsValueOf r (get_or env.many i (default_value r))) (sym (element_first env.many)) (all_at (IsValueOf (first_shape env.many)) env.many i (default_value (first_shape env.many)) (default_is (first_shape env.many)) fits.many.same);
  results = calls_fit d design depth;
}

pub env_locals : (d : Design) (env : Env) (t : Tree) → Fits d env t → LocalsFit (env_scope d env) env.locals
env_locals d env t fits = locals_fit (map shape_of env.locals) env.locals (record { leaves = refl; filled = fits.locals })

-- what comes out of a meaning
out_of : (m : Timed Value) (P : Value → Type 0) → Gives m P → (value : Value) → option_map (λ p. p.0) m ≡ Some value → P value
out_of None P h value e = nothing_there value e
out_of (Some p) P h value e = subst P (some_back p.0 value e) h

pub meaning_has : (d : Design) → IsDesign d → (env : Env) (t : Tree) → Fits d env t → (s : List Leaf) → tree_shape (env_scope d env) t ≡ Some s → (value : Value) → meaning d.functions env t ≡ Some value → IsValueOf s value
meaning_has d design env t fits s h value e =
    out_of (value_of (calls_to d.functions most_turns) (world_of env) t env.locals most_turns) (IsValueOf s)
    (shaped (env_scope d env) (calls_to d.functions most_turns) (world_of env) (env_fits d design most_turns env t fits) t s h env.locals (env_locals d env t fits) most_turns)
    value e
