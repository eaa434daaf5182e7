-- A design of nothing is well formed.
use Rattle.std.proofs.Common.{◌≡◌, ◌≤◌, ℕ, List, [], ◌∷◌, length, sym, subst, arith}
use Rattle.std.specs.Prelude.{Contains, Some, slice_get}
use Rattle.nt_value.specs.Units.{IsUnit}
use Rattle.nt_value.specs.declared.unit.Unit.{Unit as TimeUnit}
use Rattle.nt_design.proofs.Shaped.{nothing_there}
use Rattle.nt_design.specs.WellFormed.{IsChain, IsDesign, IsObject, named_objects}
use Rattle.nt_design.specs.declared.design.Design.{Design}
use Rattle.nt_design.specs.declared.object.Object.{Object}
use Rattle.nt_design.specs.declared.object.Object.TheVariants as object

abbrev nothing_in : TimeUnit → Design
nothing_in unit =
    record { nets = []; vars = []; procs = []; assigns = []; functions = []; scopes = []; unit = unit }

none_at : {A B : Type 0} (i : ℕ) (x : A) → slice_get [] i ≡ Some x → B
none_at i x h = nothing_there x h

chain_is : (unit : TimeUnit) (fs : List ℕ) → IsChain (nothing_in unit) fs → length fs ≤ 17
chain_is unit [] h = omega arith
chain_is unit (f ∷ []) h = omega arith
chain_is unit (f ∷ g ∷ fs) h = absurd (omega (arith, h.0.1))

no_object : (unit : TimeUnit) (o : Object) → IsObject (nothing_in unit) o → Contains (named_objects (nothing_in unit)) o
no_object unit (object.Net n) h = absurd (omega (arith, h))
no_object unit (object.Var v) h = absurd (omega (arith, h))

empty_is : (unit : TimeUnit) → IsUnit unit → IsDesign (nothing_in unit)
empty_is unit is = record {
  nets = λ n net h. none_at n net h;
  vars = λ v var h. none_at v var h;
  procs = λ p proc h. none_at p proc h;
  assigns = λ a assign h. none_at a assign h;
  functions = λ f function h. none_at f function h;
  writers = record {
    one_assign = λ a b v h k. none_at a h.0 h.1;
    no_write = λ a p v h k. none_at a h.0 h.1;
    one_writer = λ p q v h k l. none_at p h.0 h.1;
  };
  scopes = λ k d h. absurd (omega (arith, h));
  named = no_object unit;
  small = record {
    nets = omega arith;
    vars = omega arith;
    processes = omega arith;
    chains = chain_is unit;
  };
  unit = is;
}

-- lists of nothing
pub is_nothing :
    (unit : TimeUnit) → IsUnit unit → (d : Design) → d.unit ≡ unit →
    d.nets ≡ [] → d.vars ≡ [] → d.procs ≡ [] → d.assigns ≡ [] → d.functions ≡ [] → d.scopes ≡ [] → IsDesign d
is_nothing unit is d u n v p a f s =
    subst (λ x. IsDesign (record { nets = x; vars = d.vars; procs = d.procs; assigns = d.assigns; functions = d.functions; scopes = d.scopes; unit = d.unit })) (sym n)
    (subst (λ x. IsDesign (record { nets = []; vars = x; procs = d.procs; assigns = d.assigns; functions = d.functions; scopes = d.scopes; unit = d.unit })) (sym v)
    (subst (λ x. IsDesign (record { nets = []; vars = []; procs = x; assigns = d.assigns; functions = d.functions; scopes = d.scopes; unit = d.unit })) (sym p)
    (subst (λ x. IsDesign (record { nets = []; vars = []; procs = []; assigns = x; functions = d.functions; scopes = d.scopes; unit = d.unit })) (sym a)
    (subst (λ x. IsDesign (record { nets = []; vars = []; procs = []; assigns = []; functions = x; scopes = d.scopes; unit = d.unit })) (sym f)
    (subst (λ x. IsDesign (record { nets = []; vars = []; procs = []; assigns = []; functions = []; scopes = x; unit = d.unit })) (sym s)
    (subst (λ x. IsDesign (nothing_in x)) (sym u) (empty_is unit is)))))))
