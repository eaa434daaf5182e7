-- An expression that has a shape fits an environment.
use Rattle.std.proofs.Common.{◌≡◌, ◌≤◌, List, [], ◌∷◌, length, refl, ap, sym, subst, arith, map}
use Rattle.std.proofs.lemmas.List.Elements.{All-nil}
use Rattle.std.specs.Prelude.{All, IsSome, Some, slice_get}
use Rattle.nt_value.specs.Digits.{IsFilled}
use Rattle.nt_value.specs.Values.{AreValuesOf, shape_of}
use Rattle.nt_value.specs.declared.leaf.Leaf.{Leaf}
use Rattle.nt_design.specs.Parts.{Value}
use Rattle.nt_design.specs.Shapes.{Shaped, tree_shape}
use Rattle.nt_design.specs.WellFormed.{AreElements, HasElements, first_shape, net_shapes, var_shapes, signatures, signature_of}
use Rattle.nt_design.specs.declared.env.Env.{Env}
use Rattle.nt_design.specs.declared.tree.Tree.{Tree}
use Rattle.nt_eval_show.specs.Fitting.{FitsAny, IsElement}

no_values : (shapes : List (List Leaf)) (values : List Value) → shapes ≡ [] → values ≡ [] → AreValuesOf shapes values
no_values shapes values s v =
    subst (λ x. AreValuesOf x values) (sym s) (subst (λ x. AreValuesOf [] x) (sym v) (record { leaves = refl; filled = All-nil (All IsFilled) }))

has_elements : (many : List Value) (tree : Tree) → 1 ≤ length many → HasElements many tree
has_elements [] tree h = absurd (omega (arith, h))
has_elements (v ∷ vs) tree h = tt

pub fits_any :
    (env : Env) (tree : Tree) (element : List Leaf) →
    env.nets ≡ [] → env.vars ≡ [] → All (All IsFilled) env.locals → IsElement env.many element →
    IsSome (tree_shape (record { nets = []; vars = []; locals = map shape_of env.locals; many = Some element; functions = [] }) tree) →
    FitsAny env tree
fits_any env tree element n v filled is shape d dn dv df = record {
  objects = record {
    nets = no_values (net_shapes d) env.nets (ap (map (λ net. net.shape)) dn) n;
    vars = no_values (var_shapes d) env.vars (ap (map (λ var. var.shape)) dv) v;
  };
  many = subst (λ s. AreElements s env.many) (sym is.first) is.elements;
  locals = filled;
  shape =
      subst (λ x. IsSome (tree_shape (record { nets = x; vars = var_shapes d; locals = map shape_of env.locals; many = Some (first_shape env.many); functions = signatures d }) tree)) (sym (ap (map (λ net. net.shape)) dn))
      (subst (λ x. IsSome (tree_shape (record { nets = []; vars = x; locals = map shape_of env.locals; many = Some (first_shape env.many); functions = signatures d }) tree)) (sym (ap (map (λ var. var.shape)) dv))
      (subst (λ x. IsSome (tree_shape (record { nets = []; vars = []; locals = map shape_of env.locals; many = Some x; functions = signatures d }) tree)) (sym is.first)
      (subst (λ x. IsSome (tree_shape (record { nets = []; vars = []; locals = map shape_of env.locals; many = Some element; functions = x }) tree)) (sym (ap (map signature_of) df)) shape)));
  elements = has_elements env.many tree is.some;
}

-- what the code looks at is the shape in the scope of an environment
pub is_shape :
    (env : Env) (tree : Tree) (element : List Leaf) (nets vars locals many : List (List Leaf)) (o : Shaped) →
    o ≡ tree_shape (record { nets = nets; vars = vars; locals = locals; many = slice_get many 0; functions = [] }) tree →
    nets ≡ [] → vars ≡ [] → locals ≡ map shape_of env.locals → many ≡ element ∷ [] → IsSome o →
    IsSome (tree_shape (record { nets = []; vars = []; locals = map shape_of env.locals; many = Some element; functions = [] }) tree)
is_shape env tree element nets vars locals many o told n v l m some =
    subst (λ x. IsSome (tree_shape (record { nets = []; vars = []; locals = map shape_of env.locals; many = slice_get x 0; functions = [] }) tree)) m
    (subst (λ x. IsSome (tree_shape (record { nets = []; vars = []; locals = x; many = slice_get many 0; functions = [] }) tree)) l
    (subst (λ x. IsSome (tree_shape (record { nets = []; vars = x; locals = locals; many = slice_get many 0; functions = [] }) tree)) v
    (subst (λ x. IsSome (tree_shape (record { nets = x; vars = vars; locals = locals; many = slice_get many 0; functions = [] }) tree)) n
    (subst (λ x. IsSome x) told some))))
