-- The body of a function that may be called fits its locals.
use Rattle.std.proofs.Common.{◌≡◌, ◌≤◌, ◌<◌, ℕ, zero, suc, ◌-◌, List, [], ◌∷◌, ◌++◌, map, length, refl, ap, sym, subst, ◌∙◌, arith}
use Rattle.std.specs.Prelude.{All, Bool, true, false, not, ◌&&◌, if◌then◌else◌, Option, Some, None, IsSome, get_or, slice_get}
use Rattle.std.proofs.lemmas.Bool.{and_parts}
use Rattle.std.proofs.lemmas.Option.{get_or_from_slice_get}
use Rattle.nt_value.specs.Values.{AreValuesOf, IsValueOf, default_value, shape_of}
use Rattle.nt_value.specs.declared.leaf.Leaf.{Leaf}
use Rattle.nt_value.proofs.Filled.{default_filled}
use Rattle.nt_design.proofs.Filled.{all_at}
use Rattle.nt_design.proofs.Results.{calls_fit, entry_kept, env_fits}
use Rattle.nt_design.proofs.Shaped.{default_has, false_is, not_back, nothing_there, some_back, where_so_back}
use Rattle.nt_design.specs.Expressions.{World, object_in}
use Rattle.nt_design.specs.Meaning.{calls_to, entry_of, most_turns, name_of, own_args, own_world, run, world_of}
use Rattle.nt_design.specs.Parts.{Value}
use Rattle.nt_design.specs.Shapes.{Scope, Signature, object_shape, tree_shape}
use Rattle.nt_design.specs.Turns.{spend}
use Rattle.nt_design.specs.WellFormed.{Fits, IsDesign, IsFunction, IsOwn, MayCall, design_scope, env_scope, function_scope, is_own, name_shape, signature_of, usable_in}
use Rattle.nt_design.specs.declared.design.Design.{Design}
use Rattle.nt_design.specs.declared.env.Env.{Env}
use Rattle.nt_design.specs.declared.function.Function.{Function}
use Rattle.nt_design.specs.declared.tree.Tree.{Tree}
use Rattle.nt_design.specs.declared.object.Object.{Object}
use Rattle.nt_design.specs.declared.object.Object.TheVariants as object
use Rattle.nt_values.specs.Typed.{IsCall, Typed}
use Rattle.nt_acts.specs.Doable.{Doable, Named}
use Rattle.nt_eval.specs.Callable.{MayRun, OfDesign}

-- ---- a function's world
-- it uses no net and no variable
nothing_usable : (f : Function) → IsOwn f → (objects : List (List Leaf)) (i : ℕ) (s : List Leaf) → slice_get (usable_in f objects) i ≡ Some s → {B : Type 0} → B
nothing_usable f own objects i s at = nothing_there s (sym (ap (λ (b : Bool). slice_get (if b then [] else objects) i) own) ∙ at)

objects_are : (scope : Scope) (f : Function) (args : List Value) → IsOwn f → (o : Object) (s : List Leaf) → object_shape (function_scope scope f) o ≡ Some s → IsValueOf s (object_in (own_world f args) o)
objects_are scope f args own (object.Net n) s at = nothing_usable f own scope.nets n s at
objects_are scope f args own (object.Var v) s at = nothing_usable f own scope.vars v s at

default_is : (shape : List Leaf) → IsValueOf shape (default_value shape)
default_is shape = record { leaves = default_has shape; filled = default_filled shape }

elements_are : (scope : Scope) (f : Function) (args : List Value) → IsFunction scope f → MayCall f args → (i : ℕ) → IsValueOf (get_or f.args 0 []) (get_or (if f.many then args else []) i (default_value (get_or f.args 0 [])))
elements_are scope f args is may i = of_many f.many refl
  where
    of_args : f.many ≡ true → (shapes : List (List Leaf)) → f.args ≡ shapes → length shapes ≡ 1 → IsValueOf (get_or f.args 0 []) (get_or args i (default_value (get_or f.args 0 [])))
    of_args many [] e one = absurd (omega (arith, one))
    of_args many (a ∷ b ∷ shapes) e one = absurd (omega (arith, one))
    of_args many (shape ∷ []) e one =
        all_at (IsValueOf (get_or f.args 0 [])) args i (default_value (get_or f.args 0 [])) (default_is (get_or f.args 0 []))
        (subst (λ r. All (IsValueOf r) args) (sym (ap (λ l. get_or l 0 []) e)) (may.elements shape many e).same)

    of_many : (b : Bool) → f.many ≡ b → IsValueOf (get_or f.args 0 []) (get_or (if b then args else []) i (default_value (get_or f.args 0 [])))
    of_many false e = default_is (get_or f.args 0 [])
    of_many true e = of_args e f.args refl (is.one_argument e)

few_elements : (scope : Scope) (f : Function) (args : List Value) → IsFunction scope f → MayCall f args → length (if f.many then args else []) ≤ 1024
few_elements scope f args is may = of_many f.many refl
  where
    of_args : f.many ≡ true → (shapes : List (List Leaf)) → f.args ≡ shapes → length shapes ≡ 1 → length args ≤ 1024
    of_args many [] e one = absurd (omega (arith, one))
    of_args many (a ∷ b ∷ shapes) e one = absurd (omega (arith, one))
    of_args many (shape ∷ []) e one = (may.elements shape many e).few

    of_many : (b : Bool) → f.many ≡ b → length (if b then args else []) ≤ 1024
    of_many false e = omega arith
    of_many true e = of_args e f.args refl (is.one_argument e)

element_is : (f : Function) (s : List Leaf) → (if f.many then slice_get f.args 0 else None) ≡ Some s → get_or f.args 0 [] ≡ s
element_is f s h = of_many f.many h
  where
    of_many : (b : Bool) → (if b then slice_get f.args 0 else None) ≡ Some s → get_or f.args 0 [] ≡ s
    of_many true at = get_or_from_slice_get f.args 0 s [] at
    of_many false at = nothing_there s at

-- ---- the name stands after the arguments
after : {X : Type 0} (xs ys : List X) → slice_get (xs ++ ys) (length xs) ≡ slice_get ys 0
after [] ys = refl
after (x ∷ xs) ys = after xs ys

name_there : (result : List Leaf) (leaf : Leaf) (leaves : List Leaf) → result ≡ leaf ∷ leaves → (before others : List (List Leaf)) → slice_get (before ++ (name_shape result ++ others)) (length before) ≡ Some (leaf ∷ leaves)
name_there result leaf leaves e before others =
    after before (name_shape result ++ others) ∙ ap (λ r. slice_get (name_shape r ++ others) 0) e

name_is : (scope : Scope) (f : Function) → Named (function_scope scope f) (Some f.result) (name_of f)
name_is scope f leaf leaves s is at =
    some_back (leaf ∷ leaves) s (sym (name_there f.result leaf leaves (some_back f.result (leaf ∷ leaves) is) (own_args f f.args) f.locals) ∙ at)

-- ---- a body
body_fits : (d : Design) → IsDesign d → (depth i : ℕ) (f : Function) (args : List Value) → slice_get d.functions i ≡ Some f → MayCall f args → Doable (map signature_of d.functions) (calls_to d.functions depth) (own_world f args) (name_of f) (entry_of f args) [] f.body
body_fits d design depth i f args at may =
    let is = design.functions i f at in
    record {
      scope = function_scope (design_scope d) f;
      result = Some f.result;
      stands = record {
        shapes = record {
          objects = objects_are (design_scope d) f args may.own;
          element = element_is f;
          many = elements_are (design_scope d) f args is may;
          results = calls_fit d design depth;
        };
        kept = entry_kept f args may;
        functions = refl;
        few = few_elements (design_scope d) f args is may;
      };
      named = name_is (design_scope d) f;
      typed = λ k t low. absurd (omega (arith, low));
      fit = is.fits;
    }

pub body_doable : (functions : List Function) → OfDesign functions → (depth i : ℕ) (args : List Value) (may : MayRun functions i args) → Doable (map signature_of functions) (calls_to functions depth) (own_world may.0 args) (name_of may.0) (entry_of may.0 args) [] may.0.body
body_doable functions of depth i args may =
    subst (λ (fs : List Function). Doable (map signature_of fs) (calls_to fs depth) (own_world may.0 args) (name_of may.0) (entry_of may.0 args) [] may.0.body) (sym of.2)
    (body_fits of.0 of.1 depth i may.0 args (sym (ap (λ fs. slice_get fs i) of.2) ∙ may.1) may.2)

-- what a call may have, the function may
signature_there : (functions : List Function) (f : ℕ) (signature : Signature) → get_or (map signature_of functions) f None ≡ Some signature → (function : Function) × (slice_get functions f ≡ Some function) × (signature_of function ≡ Some signature)
signature_there [] f signature h = nothing_there signature h
signature_there (x ∷ functions) zero signature h = (x, refl, h)
signature_there (x ∷ functions) (suc f) signature h = signature_there functions f signature h

pub may_run : (functions : List Function) (f : ℕ) (args : List Value) → IsCall (map signature_of functions) f args → MayRun functions f args
may_run functions f args call =
    let there = signature_there functions f call.0 call.1 in
    let of = where_so_back (not there.0.many && is_own there.0) (record { args = there.0.args; result = there.0.result }) call.0 there.2 in
    let parts = and_parts (not there.0.many) (is_own there.0) of.0 in (
      there.0,
      there.1,
      record {
        own = parts.1;
        values = λ one. subst (λ (r : Signature). AreValuesOf r.args args) (sym of.1) call.2;
        elements = λ shape many is. false_is (sym (not_back there.0.many parts.0) ∙ many);
      },
    )

-- ---- a call is a turn
pub call_none : (functions : List Function) (most f : ℕ) (args : List Value) (left : ℕ) → left ≡ 0 → calls_to functions most f args left ≡ None
unfolding calls_to
call_none functions zero f args left e = refl
call_none functions (suc most) f args left e = ap (λ n. spend n (λ l. run (calls_to functions most) (slice_get functions f) args l)) e

pub call_some : (functions : List Function) (most f : ℕ) (function : Function) (args : List Value) (left : ℕ) → slice_get functions f ≡ Some function → left ≤ most → (left ≡ 0 → ⊥) → calls_to functions most f args left ≡ run (calls_to functions (most - 1)) (Some function) args (left - 1)
unfolding calls_to
call_some functions zero f function args left at few some = absurd (some (omega (arith, few)))
call_some functions (suc most) f function args zero at few some = absurd (some refl)
call_some functions (suc most) f function args (suc left) at few some =
    ap (λ o. run (calls_to functions most) o args left) at
    ∙ (ap (λ n. run (calls_to functions n) (Some function) args left) (one_less most) ∙ ap (λ n. run (calls_to functions (suc most - 1)) (Some function) args n) (one_less left))
  where
    one_less : (n : ℕ) → n ≡ suc n - 1
    one_less n = omega arith

pub falls : (most t left : ℕ) → most ≡ t → left ≤ most → (left ≡ 0 → ⊥) → most - 1 < t
falls most t zero e few some = absurd (some refl)
falls most t (suc left) e few some = omega (arith, e, few)

-- ---- an environment
some_there : {A : Type 0} (o : Option A) → IsSome o → (x : A) × (o ≡ Some x)
some_there None h = false_is h
some_there (Some x) h = (x, refl)

pub world_is : (env : Env) (nets vars many : List Value) (element : List Leaf) → nets ≡ env.nets → vars ≡ env.vars → many ≡ env.many → element ≡ shape_of (get_or env.many 0 []) → ◌≡◌ {A = World} (record { time = env.time; nets = nets; vars = vars; many = many; element = element }) (world_of env)
world_is env nets vars many element a b c e = rw (a, b, c, e) refl

-- an expression that fits an environment is typed there
pub env_typed : (d : Design) → IsDesign d → (env : Env) (tree : Tree) → Fits d env tree → Typed (map signature_of d.functions) (calls_to d.functions most_turns) (world_of env) env.locals tree
env_typed d design env tree fits =
    let shape = some_there (tree_shape (env_scope d env) tree) fits.shape in
    record {
      scope = env_scope d env;
      stands = record {
        shapes = env_fits d design most_turns env tree fits;
        kept = record { leaves = refl; filled = fits.locals };
        functions = refl;
        few = fits.many.few;
      };
      shape = shape.0;
      is = shape.1;
    }
