-- The start state is one of its design.
use Rattle.std.proofs.Common.{◌≡◌, ℕ, zero, suc, not, if◌then◌else◌, List, [], ◌∷◌, ◌++◌, map, length, get_or, replicate, refl, ap, sym, subst, ◌∙◌, arith}
use Rattle.std.specs.Prelude.{All, Contains, Some, None, slice_get}
use Rattle.std.specs.List.{flat_map}
use Rattle.std.proofs.lemmas.List.{length-map, length-replicate, append_assoc}
use Rattle.std.proofs.lemmas.List.Elements.{All-append, All-cons, All-nil}
use Rattle.std.proofs.lemmas.Option.{same_Some}
use Rattle.nt_value.proofs.Filled.{in_filled}
use Rattle.nt_value.specs.Digits.{IsFilled}
use Rattle.nt_value.specs.Operators.{in_leaf}
use Rattle.nt_value.specs.Values.{AreValuesOf, IsValueOf, shape_of, default_value}
use Rattle.nt_value.specs.declared.digit.Digit.TheVariants.{Z}
use Rattle.nt_design.proofs.Filled.{all_none, defaults_filled, none_filled}
use Rattle.nt_design.proofs.Frame.{two}
use Rattle.nt_design.proofs.Results.{default_is}
use Rattle.nt_design.proofs.Shaped.{default_has}
use Rattle.nt_value.specs.declared.leaf.Leaf.{Leaf}
use Rattle.nt_design.specs.Parts.{Value}
use Rattle.nt_design.specs.declared.act.Act.{Act}
use Rattle.nt_value.specs.declared.place.Place.{Place as TextPlace}
use Rattle.nt_design.specs.declared.act.Act.TheViews as view
use Rattle.nt_design.specs.declared.act.Act.TheViews.{roll-Act, out-roll-Act}
use Rattle.nt_design.specs.declared.act.Act.TheOpen.{Act-F}
use Rattle.nt_design.specs.declared.act.Act.TheFolds.{fold-Act, fold-roll-Act, ind-Act, map-Act}
use Rattle.nt_design.specs.declared.design.Design.{Design}
use Rattle.nt_value.specs.declared.kind.ProcKind.{ProcKind}
use Rattle.nt_value.specs.declared.kind.ProcKind.TheVariants.{Initial, Always, Comb, Ff}
use Rattle.nt_design.specs.declared.object.Net.{Net}
use Rattle.nt_design.specs.declared.object.NetKind.{NetKind}
use Rattle.nt_design.specs.declared.object.NetKind.TheVariants.{Wire, Unresolved, Resolved}
use Rattle.nt_design.specs.declared.object.Var.{Var}
use Rattle.nt_design.specs.declared.process.Assign.{Assign}
use Rattle.nt_design.specs.declared.process.Proc.{Proc}
use Rattle.nt_design.specs.declared.target.Target.{Target}
use Rattle.nt_design.specs.declared.target.Target.TheVariants as target
use denote.Hole.Carrier.{roll}
use Rattle.nt_semantics.proofs.Equations.{to_do_block}
use Rattle.nt_semantics.proofs.Unfolding.{all_unfold}
use Rattle.nt_semantics.proofs.Parts.{in_place}
use Rattle.nt_semantics.specs.Laws.{StartFits}
use Rattle.nt_semantics.specs.State.{to_do, unfolded, is_comb, start_work, start_state, slot_start, net_start, z_value, standing_at}
use Rattle.nt_semantics.specs.declared.standing.Standing.TheVariants.{Unbegun, Ready, Over}
use Rattle.nt_semantics.specs.declared.work.Work.{Work}
use Rattle.nt_semantics.specs.declared.work.Work.TheVariants.{Do, Repeating, Awaiting}
use Rattle.nt_semantics.specs.StateFits.{HasWork, IsPart, IsWorkOf, ProcFits, StandingFits, Whole, Within, parts_of, driver_shape}

-- ---- columns
map_twice : {A B C : Type 0} (f : B → C) (g : A → B) (xs : List A) → map f (map g xs) ≡ map (λ x. f (g x)) xs
map_twice f g [] = refl
map_twice f g (x ∷ xs) = ap (λ l. f (g x) ∷ l) (map_twice f g xs)

map_same : {A B : Type 0} (f g : A → B) (xs : List A) → ((i : ℕ) (x : A) → slice_get xs i ≡ Some x → f x ≡ g x) → map f xs ≡ map g xs
map_same f g [] h = refl
map_same f g (x ∷ xs) h =
    ap (λ y. y ∷ map f xs) (h 0 x refl) ∙ ap (λ l. g x ∷ l) (map_same f g xs (λ i y at. h (suc i) y at))

got : {A B : Type 0} (f : A → B) (e : B) (xs : List A) (i : ℕ) (x : A) → slice_get xs i ≡ Some x → get_or (map f xs) i e ≡ f x
got f e [] i x h = absurd (none_one h)
  where
    none_one : None ≡ Some x → ⊥
    none_one h = cc
got f e (y ∷ xs) zero x h = ap f (same_Some y x h)
got f e (y ∷ xs) (suc i) x h = got f e xs i x h

pub z_is : (shape : List Leaf) → IsValueOf shape (z_value shape)
z_is shape = record { leaves = leaves shape; filled = filled shape }
  where
    leaves : (shape : List Leaf) → shape_of (z_value shape) ≡ shape
    leaves [] = refl
    leaves (leaf ∷ shape) = ap (λ l. leaf ∷ l) (leaves shape)

    filled : (shape : List Leaf) → All IsFilled (z_value shape)
    filled [] = none_filled
    filled (leaf ∷ shape) =
        All-cons IsFilled (in_leaf leaf (replicate leaf.width Z)) (z_value shape) (in_filled leaf (replicate leaf.width Z) (length-replicate leaf.width Z)) (filled shape)

net_start_is : (kind : NetKind) (shape : List Leaf) → IsValueOf shape (net_start kind shape)
net_start_is Wire shape = z_is shape
net_start_is Unresolved shape = default_is shape
net_start_is (Resolved f) shape = default_is shape

net_at : (nets : List Net) (n : ℕ) → IsValueOf (get_or (map (λ (net : Net). net.shape) nets) n []) (get_or (map (λ (net : Net). net_start net.kind net.shape) nets) n [])
net_at [] n = record { leaves = refl; filled = none_filled }
net_at (net ∷ nets) zero = net_start_is net.kind net.shape
net_at (net ∷ nets) (suc n) = net_at nets n

slot_at : (d : Design) (t : Target) → IsValueOf (driver_shape d t) (slot_start d t)
slot_at d (target.Slot n slot low width) = net_at d.nets n
slot_at d (target.Var v path) = record { leaves = refl; filled = none_filled }
slot_at d (target.Local i path) = record { leaves = refl; filled = none_filled }

-- values that are made of the members of a list
values_of_list : {X : Type 0} (shape : X → List Leaf) (value : X → Value) (xs : List X) → ((i : ℕ) (x : X) → slice_get xs i ≡ Some x → IsValueOf (shape x) (value x)) → AreValuesOf (map shape xs) (map value xs)
values_of_list shape value [] each = record { leaves = refl; filled = all_none }
values_of_list shape value (x ∷ xs) each =
    let first = each 0 x refl in
    let rest = values_of_list shape value xs (λ i y at. each (suc i) y at) in
    record {
      leaves = two (λ y ys. y ∷ ys) first.leaves rest.leaves;
      filled = All-cons (All IsFilled) (value x) (map value xs) first.filled rest.filled;
    }

-- ---- what is to do first
module _ where
  abbrev pub Begins : Act → Type 0
  Begins act = (rest : List Work) → HasWork (to_do act ++ rest)

  abbrev Below : Type 0
  Below = (act : Act) × Begins act

  opened : (x : Act-F Act) → to_do (roll-Act x) ≡ unfolded (map-Act Act (Act → List Work) (fold-Act (Act → List Work) unfolded) x) (roll-Act x)
  unfolding to_do
  opened x = ap (λ f. f (roll-Act x)) (fold-roll-Act (Act → List Work) unfolded x)

  alone : (x : Act-F Act) → unfolded (map-Act Act (Act → List Work) (fold-Act (Act → List Work) unfolded) x) (roll-Act x) ≡ Do (roll-Act x) ∷ [] → Begins (roll-Act x)
  alone x is rest = subst (λ items. HasWork (items ++ rest)) (sym (opened x ∙ is)) tt

  rolled : (y : Act-F Below) → Begins (roll-Act (map-Act Below Act (λ e. e.0) y))
  unfolding roll-Act roll
  rolled (Act-F.Block [] at) rest = alone (Act-F.Block [] at) refl rest
  rolled (Act-F.Block (b ∷ bs) at) rest =
      subst (λ items. HasWork (items ++ rest)) (sym (to_do_block b.0 (map (λ (e : Below). e.0) bs) at)) (subst HasWork (sym (append_assoc (to_do b.0) (flat_map to_do (map (λ (e : Below). e.0) bs)) rest)) (b.1 (flat_map to_do (map (λ (e : Below). e.0) bs) ++ rest)))
  rolled y rest = alone (map-Act Below Act (λ e. e.0) y) refl rest

  pub begins : (act : Act) → Begins act
  begins = ind-Act Begins (λ x y is. subst (λ z. Begins (roll-Act z)) is (rolled y))

pub begins_alone : (act : Act) → HasWork (to_do act)
begins_alone act = subst HasWork (none_after (to_do act)) (begins act [])
  where
    none_after : (items : List Work) → items ++ [] ≡ items
    none_after [] = refl
    none_after (i ∷ items) = ap (λ l. i ∷ l) (none_after items)

start_place : (kind : ProcKind) (p : Proc) → StandingFits 0 (start_work kind p) (if is_comb kind then Unbegun else Ready)
start_place Initial p = begins_alone p.body
start_place Always p = tt
start_place Ff p = tt
start_place Comb p = begins p.body (Awaiting p.reads p.body ∷ [])

-- a part of a procedure's body unfolds to such parts
block_parts : (body : Act) (acts : List Act) (at : TextPlace) → IsPart body (view.Block acts at) → All (IsPart body) acts
unfolding roll-Act roll
block_parts body acts at part = λ k a low. Within part (subst (λ (y : Act-F Act). Contains (parts_of y) (get_or acts k a)) (sym (out-roll-Act (Act-F.Block acts at))) (k, low, in_place acts k a low))

pub unfolded_parts : (proc : Proc) (act : Act) → IsPart proc.body act → All (IsWorkOf proc) (to_do act)
unfolded_parts proc act part =
    all_unfold (IsWorkOf proc) (IsPart proc.body) (block_parts proc.body) (λ a p. p) act part

start_parts : (kind : ProcKind) (p : Proc) → All (IsWorkOf p) (start_work kind p)
start_parts Initial p = unfolded_parts p p.body Whole
start_parts Always p = All-cons (IsWorkOf p) (Repeating p.body) [] Whole (All-nil (IsWorkOf p))
start_parts Ff p = All-cons (IsWorkOf p) (Repeating p.body) [] Whole (All-nil (IsWorkOf p))
start_parts Comb p =
    All-append (IsWorkOf p) (to_do p.body) (Awaiting p.reads p.body ∷ []) (unfolded_parts p p.body Whole)
    (All-cons (IsWorkOf p) (Awaiting p.reads p.body) [] (refl, refl) (All-nil (IsWorkOf p)))

-- ---- the state
start_proc : (d : Design) (p : ℕ) (proc : Proc) → slice_get d.procs p ≡ Some proc → ProcFits (start_state d) p proc
start_proc d p proc at =
    let items = got (λ (x : Proc). start_work x.kind x) [] d.procs p proc at in
    let standing = got (λ (x : Proc). if is_comb x.kind then Unbegun else Ready) Over d.procs p proc at in
    record {
      work = subst (All (IsWorkOf proc)) (sym items) (start_parts proc.kind proc);
      standing = subst (λ (l : List Work). StandingFits 0 l (standing_at (start_state d) p)) (sym items) (subst (StandingFits 0 (start_work proc.kind proc)) (sym standing) (start_place proc.kind proc));
    }

pub start_fits : StartFits
start_fits d design = record {
  moment = omega arith;
  vars = values_of_list (λ (x : Var). x.shape) (λ (x : Var). x.start) d.vars (λ i x at. (design.vars i x at).start);
  nets = values_of_list (λ (x : Net). x.shape) (λ (x : Net). net_start x.kind x.shape) d.nets (λ i x at. net_start_is x.kind x.shape);
  slots = values_of_list (λ (x : Assign). driver_shape d x.target) (λ (x : Assign). slot_start d x.target) d.assigns (λ i x at. slot_at d x.target);
  standings = length-map d.procs (λ (x : Proc). if is_comb x.kind then Unbegun else Ready);
  work = length-map d.procs (λ (x : Proc). start_work x.kind x);
  locals = map_twice (map shape_of) (λ (x : Proc). map default_value x.locals) d.procs ∙ map_same (λ (x : Proc). map shape_of (map default_value x.locals)) (λ (x : Proc). x.locals) d.procs (λ i x at. defaults x.locals);
  locals_filled = all_defaults d.procs;
  fresh = length-map d.procs (λ (x : Proc). not (is_comb x.kind));
  evaluations = length-replicate (length d.assigns) 1;
  resolutions = length-replicate (length d.nets) 1;
  procs = start_proc d;
  nonblocking = λ k i low. absurd (omega (arith, low));
  moved = λ k i low. absurd (omega (arith, low));
}
  where
    defaults : (shapes : List (List Leaf)) → map shape_of (map default_value shapes) ≡ shapes
    defaults [] = refl
    defaults (shape ∷ shapes) =
        ap (λ (s : List Leaf). s ∷ map shape_of (map default_value shapes)) (default_has shape) ∙ ap (λ (l : List (List Leaf)). shape ∷ l) (defaults shapes)

    all_defaults : (procs : List Proc) → All (All (All IsFilled)) (map (λ (x : Proc). map default_value x.locals) procs)
    all_defaults [] = λ k i low. absurd (omega (arith, low))
    all_defaults (x ∷ procs) =
        All-cons (All (All IsFilled)) (map default_value x.locals) (map (λ (y : Proc). map default_value y.locals) procs) (defaults_filled x.locals) (all_defaults procs)
