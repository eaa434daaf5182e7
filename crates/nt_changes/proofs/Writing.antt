-- Values in a state, and what stays of it.
use Rattle.std.proofs.Common.{◌≡◌, ℕ, ◌<◌, List, [], length, not, refl, ap, sym, subst, ◌∙◌, arith}
use Rattle.std.specs.Prelude.{Bool, Some, false, slice_get, slice_set}
use Rattle.std.proofs.lemmas.List.{length-map}
use Rattle.std.proofs.lemmas.Option.{get_or_from_slice_get}
use Rattle.nt_value.specs.Values.{IsValueOf, shape_of}
use Rattle.nt_value.specs.declared.leaf.Leaf.{Leaf}
use Rattle.nt_design.proofs.Does.{value_set}
use Rattle.nt_design.specs.Parts.{Value}
use Rattle.nt_design.specs.Puts.{PutInside, after_put}
use Rattle.nt_design.specs.WellFormed.{net_shapes, var_shapes}
use Rattle.nt_design.specs.declared.design.Design.{Design}
use Rattle.nt_design.specs.declared.object.Object.{Object}
use Rattle.nt_design.specs.declared.object.Object.TheVariants as object
use Rattle.nt_design.specs.declared.object.Var.{Var}
use Rattle.nt_design.specs.declared.put.Put.{Put}
use Rattle.nt_semantics.proofs.ValueKeeps.{put_has, var_has}
use Rattle.nt_semantics.specs.Same.{is_same}
use Rattle.nt_semantics.specs.State.{MachineState, net_shape, value_at, var_shape}
use Rattle.nt_semantics.specs.StateFits.{AtMost, IsStateOf, PutFits}
use Rattle.nt_semantics.specs.Step.{put_var, set_net}
use Rattle.nt_semantics.specs.Wake.{wake}
use Rattle.nt_semantics.specs.declared.event.Event.TheVariants.{Stmt, Assign, Update, Resolve}

-- what doesn't change wakes nothing
pub wakes_nothing : (d : Design) (o : Object) (s : MachineState) → s ≡ wake d o false s
unfolding wake
wakes_nothing d o s = refl

pub var_low : (d : Design) (s : MachineState) (put : Put) → IsStateOf d s → PutFits d put → put.var < length s.vars
var_low d s put of fit =
    let shapes = ap (λ (l : List (List Leaf)). length l) of.vars.leaves in
    omega (arith, fit.0, shapes, length-map s.vars shape_of, length-map d.vars (λ (var : Var). var.shape))

pub old_is : (values : List Value) (v : ℕ) (x : Value) → slice_get values v ≡ Some x → value_at values v ≡ x
old_is values v x h = get_or_from_slice_get values v x [] h

pub inside_old : (d : Design) (s : MachineState) (put : Put) (x : Value) → IsStateOf d s → PutFits d put → slice_get s.vars put.var ≡ Some x → PutInside (shape_of x) put.first put.low put.width put.value
inside_old d s put x of fit there =
    let same : var_shape d put.var ≡ shape_of x = sym (var_has d s put.var of).leaves ∙ ap (λ (v : Value). shape_of v) (old_is s.vars put.var x there) in
    subst (λ (l : List Leaf). PutInside l put.first put.low put.width put.value) same fit.1

vars_keep : (d : Design) (s : MachineState) (v : ℕ) (new : Value) → IsStateOf d s → IsValueOf (var_shape d v) new → IsStateOf d (record s { vars = slice_set s.vars v new })
vars_keep d s v new of is = record {
  moment = of.moment;
  vars = value_set (var_shapes d) s.vars v new of.vars is;
  nets = of.nets;
  slots = of.slots;
  standings = of.standings;
  work = of.work;
  locals = of.locals;
  locals_filled = of.locals_filled;
  fresh = of.fresh;
  evaluations = of.evaluations;
  resolutions = of.resolutions;
  procs = λ p proc at. let x = of.procs p proc at in record { work = x.work; standing = x.standing };
  nonblocking = of.nonblocking;
  moved = of.moved;
}

pub put_state : (d : Design) (s : MachineState) (put : Put) (x new : Value) → IsStateOf d s → PutFits d put → slice_get s.vars put.var ≡ Some x → new ≡ after_put put x → IsStateOf d (record s { vars = slice_set s.vars put.var new })
put_state d s put x new of fit there is =
    vars_keep d s put.var new of (subst (λ v. IsValueOf (var_shape d put.var) v) (sym (is ∙ ap (after_put put) (sym (old_is s.vars put.var x there)))) (put_has put (value_at s.vars put.var) (var_shape d put.var) (var_has d s put.var of) fit.1))

pub net_state : (d : Design) (s : MachineState) (n : ℕ) (new : Value) → IsStateOf d s → IsValueOf (net_shape d n) new → IsStateOf d (record s { nets = slice_set s.nets n new })
net_state d s n new of is = record {
  moment = of.moment;
  vars = of.vars;
  nets = value_set (net_shapes d) s.nets n new of.nets is;
  slots = of.slots;
  standings = of.standings;
  work = of.work;
  locals = of.locals;
  locals_filled = of.locals_filled;
  fresh = of.fresh;
  evaluations = of.evaluations;
  resolutions = of.resolutions;
  procs = λ p proc at. let x = of.procs p proc at in record { work = x.work; standing = x.standing };
  nonblocking = of.nonblocking;
  moved = of.moved;
}

pub few_vars : (most : ℕ) (s : MachineState) (vars : List Value) → AtMost most s → AtMost most (record s { vars = vars })
few_vars most s vars few (Stmt p) = few (Stmt p)
few_vars most s vars few (Assign a) = few (Assign a)
few_vars most s vars few Update = few Update
few_vars most s vars few (Resolve n order) = few (Resolve n order)

pub few_nets : (most : ℕ) (s : MachineState) (nets : List Value) → AtMost most s → AtMost most (record s { nets = nets })
few_nets most s nets few (Stmt p) = few (Stmt p)
few_nets most s nets few (Assign a) = few (Assign a)
few_nets most s nets few Update = few Update
few_nets most s nets few (Resolve n order) = few (Resolve n order)

pub put_is : (d : Design) (s u : MachineState) (put : Put) (x new : Value) (changed : Bool) → slice_get s.vars put.var ≡ Some x → new ≡ after_put put x → changed ≡ not (is_same x new) → u ≡ wake d (object.Var put.var) changed (record s { vars = slice_set s.vars put.var new }) → u ≡ put_var d put s
unfolding put_var
put_is d s u put x new changed there is differs led =
    let old = old_is s.vars put.var x there in
    let now : new ≡ after_put put (value_at s.vars put.var) = is ∙ ap (after_put put) (sym old) in
    led
    ∙ (ap (λ b. wake d (object.Var put.var) b (record s { vars = slice_set s.vars put.var new })) (differs ∙ ap (λ v. not (is_same v new)) (sym old))
    ∙ ap (λ v. wake d (object.Var put.var) (not (is_same (value_at s.vars put.var) v)) (record s { vars = slice_set s.vars put.var v })) now)

pub net_is : (d : Design) (s u : MachineState) (n : ℕ) (x new : Value) (changed : Bool) → slice_get s.nets n ≡ Some x → changed ≡ not (is_same x new) → u ≡ wake d (object.Net n) changed (record s { nets = slice_set s.nets n new }) → u ≡ set_net d n new s
unfolding set_net
net_is d s u n x new changed there differs led =
    led ∙ ap (λ b. wake d (object.Net n) b (record s { nets = slice_set s.nets n new })) (differs ∙ ap (λ v. not (is_same v new)) (sym (old_is s.nets n x there)))
