-- What is right of a procedure's body is right of each statement in it: it fits, uses and calls only what the body does, and so
-- do the expressions in it.
use Rattle.std.proofs.Common.{◌≡◌, ℕ, zero, suc, ◌<◌, Bool, true, List, [], ◌∷◌, ◌++◌, map, length, get_or, refl, ap, sym, subst, ◌∙◌, arith, inl, inr}
use Rattle.std.specs.Prelude.{All, Contains, Some, None, slice_index_or}
use Rattle.std.specs.List.{flat_map, list_all}
use Rattle.std.proofs.lemmas.Bool.{and_parts}
use Rattle.std.proofs.lemmas.Grind.{flat_map-append}
use Rattle.std.proofs.lemmas.List.Elements.{All-append, All-cons, All-head, All-nil, All-tail, Contains-append_cases, Contains-append_left, Contains-append_right}
use Rattle.nt_design.specs.Reads.{act_calls, act_parts, act_reads, act_writes, called_step, calls_of, own_trees, reads_of, targets_of, targets_step, trees_of, trees_step, written_vars}
use Rattle.nt_design.specs.Rules.{act_fits, arm_fits, fits_step}
use Rattle.nt_design.specs.Shapes.{Scope, Shaped}
use Rattle.nt_design.specs.WellFormed.{IsProc, design_scope, scope_with}
use Rattle.nt_design.specs.declared.act.Act.{Act, out-Act}
use Rattle.nt_design.specs.declared.act.Act.TheOpen.{Act-F}
use Rattle.nt_design.specs.declared.act.Act.TheFolds.{fold-Act, fold_out-Act, map-Act}
use Rattle.nt_design.specs.declared.design.Design.{Design}
use Rattle.nt_design.specs.declared.process.Proc.{Proc}
use Rattle.nt_design.specs.declared.target.Target.{Target}
use Rattle.nt_design.specs.declared.tree.Tree.{Tree}
use Rattle.nt_semantics.specs.Groups.{var_in, used_by_proc}
use Rattle.nt_semantics.specs.StateFits.{IsPart, Whole, Within, parts_of}

-- ---- numbers inside
abbrev pub Inside : (ℕ → Type 0) → List ℕ → Type 0
Inside V vars = (v : ℕ) → Contains vars v → V v

pub none_in : (v : ℕ) (V : Type 0) → Contains [] v → V
none_in v V x = absurd (omega (arith, x.1))

pub inside_none : (V : ℕ → Type 0) → Inside V []
inside_none V v x = none_in v (V v) x

pub inside_both : (V : ℕ → Type 0) (xs ys : List ℕ) → Inside V xs → Inside V ys → Inside V (xs ++ ys)
inside_both V xs ys a b v x = elim (Contains-append_cases xs ys v x) [ inl l ↦ a v l | inr r ↦ b v r ]

pub inside_left : (V : ℕ → Type 0) (xs ys : List ℕ) → Inside V (xs ++ ys) → Inside V xs
inside_left V xs ys a v x = a v (Contains-append_left xs ys v x)

pub inside_right : (V : ℕ → Type 0) (xs ys : List ℕ) → Inside V (xs ++ ys) → Inside V ys
inside_right V xs ys a v x = a v (Contains-append_right xs ys v x)

-- what holds of all together holds of each
each_part : {A B : Type 0} (V : ℕ → Type 0) (h : List B → List ℕ) → ((xs ys : List B) → h (xs ++ ys) ≡ h xs ++ h ys) → (f : A → List B) (xs : List A) → Inside V (h (flat_map f xs)) → All (λ x. Inside V (h (f x))) xs
each_part V h law f [] is = All-nil (λ x. Inside V (h (f x)))
each_part V h law f (x ∷ xs) is =
    let both = subst (Inside V) (law (f x) (flat_map f xs)) is in
    All-cons (λ y. Inside V (h (f y))) x xs (inside_left V (h (f x)) (h (flat_map f xs)) both) (each_part V h law f xs (inside_right V (h (f x)) (h (flat_map f xs)) both))

pub each_inside : {A : Type 0} (V : ℕ → Type 0) (f : A → List ℕ) (xs : List A) → Inside V (flat_map f xs) → All (λ x. Inside V (f x)) xs
each_inside V f xs is = each_part V (λ (l : List ℕ). l) (λ a b. refl) f xs is

-- ---- statements and expressions of a procedure
-- what the procedure's body uses and calls
abbrev pub UsedBy : Proc → ℕ → Type 0
UsedBy proc v = Contains (used_by_proc proc) v

abbrev pub CalledBy : Proc → ℕ → Type 0
CalledBy proc f = Contains (act_calls proc.body) f

-- a part of the procedure's body: it fits, and uses and calls only what the body does
pub record ActSound (d : Design) (proc : Proc) (act : Act) : Type 0 where
  pub part : IsPart proc.body act
  pub fits : act_fits (scope_with d proc.locals None) None act ≡ true
  pub uses : (v : ℕ) → Contains (flat_map var_in (act_reads act) ++ act_writes act) v → Contains (used_by_proc proc) v
  pub calls : (f : ℕ) → Contains (act_calls act) f → Contains (act_calls proc.body) f

-- an expression that reads and calls only what the procedure's body does
pub record TreeSound (d : Design) (proc : Proc) (tree : Tree) : Type 0 where
  pub reads : (v : ℕ) → Contains (flat_map var_in (reads_of tree)) v → Contains (used_by_proc proc) v
  pub calls : (f : ℕ) → Contains (calls_of tree) f → Contains (act_calls proc.body) f

-- an item of a list is in it
pub in_place : {A : Type 0} (xs : List A) (k : ℕ) (x : A) → k < length xs → slice_index_or xs k (get_or xs k x) ≡ get_or xs k x
in_place [] k x low = absurd (omega (arith, low))
in_place (y ∷ xs) zero x low = refl
in_place (y ∷ xs) (suc k) x low = in_place xs k x (omega (arith, low))

-- what it assigns to and calls itself
abbrev pub own_targets : {A : Type 0} → Act-F A → List Target
own_targets (Act-F.Assign left right at) = left ∷ []
own_targets (Act-F.Nonblocking left right at) = left ∷ []
own_targets (Act-F.For fresh left first test step body at) = left ∷ []
own_targets _ = []

abbrev pub own_calls : {A : Type 0} → Act-F A → List ℕ
own_calls (Act-F.Call f args at) = f ∷ []
own_calls _ = []

-- a statement by what its parts have
opened_at : (A : Type 0) (step : Act-F A → A) (s : Act) (x : Act-F Act) → out-Act s ≡ x → fold-Act A step s ≡ step (map-Act Act A (fold-Act A step) x)
opened_at A step s x is = fold_out-Act A step s ∙ ap (λ y. step (map-Act Act A (fold-Act A step) y)) is

targets_parts : (x : Act-F (List Target)) → targets_step x ≡ own_targets x ++ act_parts x
targets_parts (Act-F.Assign left right at) = refl
targets_parts (Act-F.Nonblocking left right at) = refl
targets_parts (Act-F.For fresh left first test step body at) = refl
targets_parts x = refl

called_parts : (x : Act-F (List ℕ)) → called_step x ≡ own_calls x ++ act_parts x
called_parts (Act-F.Call f args at) = refl
called_parts x = refl

own_targets_same : (A : Type 0) (f : Act → A) (x : Act-F Act) → own_targets (map-Act Act A f x) ≡ own_targets x
own_targets_same A f (Act-F.Assign left right at) = refl
own_targets_same A f (Act-F.Nonblocking left right at) = refl
own_targets_same A f (Act-F.For fresh left first test step body at) = refl
own_targets_same A f x = refl

own_calls_same : (A : Type 0) (f : Act → A) (x : Act-F Act) → own_calls (map-Act Act A f x) ≡ own_calls x
own_calls_same A f (Act-F.Call g args at) = refl
own_calls_same A f x = refl

own_trees_same : (A : Type 0) (f : Act → A) (x : Act-F Act) → own_trees (map-Act Act A f x) ≡ own_trees x
own_trees_same A f (Act-F.Case test arms other at) = ap (λ (l : List Tree). test ∷ l) (arms_same arms)
  where
    arms_same : (l : List (List Tree × Act)) → flat_map (λ (arm : List Tree × A). arm.0) (map (λ (arm : List Tree × Act). (arm.0, f arm.1)) l) ≡ flat_map (λ (arm : List Tree × Act). arm.0) l
    arms_same [] = refl
    arms_same (arm ∷ l) = ap (λ rest. arm.0 ++ rest) (arms_same l)
own_trees_same A f x = refl

-- what holds of the parts together holds of each
module _ {A : Type 0} (V : ℕ → Type 0) (h : List A → List ℕ) (law : (xs ys : List A) → h (xs ++ ys) ≡ h xs ++ h ys) (f : Act → List A) where
  abbrev Each : Act → Type 0
  Each a = Inside V (h (f a))

  in_first : (xs ys : List A) → Inside V (h (xs ++ ys)) → Inside V (h xs)
  in_first xs ys is = inside_left V (h xs) (h ys) (subst (Inside V) (law xs ys) is)

  in_second : (xs ys : List A) → Inside V (h (xs ++ ys)) → Inside V (h ys)
  in_second xs ys is = inside_right V (h xs) (h ys) (subst (Inside V) (law xs ys) is)

  one_part : (a : Act) → Each a → All Each (a ∷ [])
  one_part a is = All-cons Each a [] is (All-nil Each)

  two_parts : (a b : Act) → Inside V (h (f a ++ f b)) → All Each (a ∷ b ∷ [])
  two_parts a b is = All-cons Each a (b ∷ []) (in_first (f a) (f b) is) (one_part b (in_second (f a) (f b) is))

  block_parts : (acts : List Act) → Inside V (h (flat_map (λ xs. xs) (map f acts))) → All Each acts
  block_parts [] is = All-nil Each
  block_parts (a ∷ acts) is =
      All-cons Each a acts (in_first (f a) (flat_map (λ xs. xs) (map f acts)) is) (block_parts acts (in_second (f a) (flat_map (λ xs. xs) (map f acts)) is))

  arm_parts : (arms : List (List Tree × Act)) → Inside V (h (flat_map (λ (arm : List Tree × List A). arm.1) (map (λ (arm : List Tree × Act). (arm.0, f arm.1)) arms))) → All Each (map (λ arm. arm.1) arms)
  arm_parts [] is = All-nil Each
  arm_parts (arm ∷ arms) is =
      All-cons Each arm.1 (map (λ arm. arm.1) arms) (in_first (f arm.1) (flat_map (λ (arm : List Tree × List A). arm.1) (map (λ (arm : List Tree × Act). (arm.0, f arm.1)) arms)) is) (arm_parts arms (in_second (f arm.1) (flat_map (λ (arm : List Tree × List A). arm.1) (map (λ (arm : List Tree × Act). (arm.0, f arm.1)) arms)) is))

  all_parts : (x : Act-F Act) → Inside V (h (act_parts (map-Act Act (List A) f x))) → All Each (parts_of x)
  all_parts (Act-F.Block items at) is = block_parts items is
  all_parts (Act-F.If test first None at) is = one_part first (in_first (f first) [] is)
  all_parts (Act-F.If test first (Some second) at) is = two_parts first second is
  all_parts (Act-F.Case test arms None at) is =
      All-append Each (map (λ arm. arm.1) arms) [] (arm_parts arms (in_first (flat_map (λ (arm : List Tree × List A). arm.1) (map (λ (arm : List Tree × Act). (arm.0, f arm.1)) arms)) [] is)) (All-nil Each)
  all_parts (Act-F.Case test arms (Some other) at) is =
      All-append Each (map (λ arm. arm.1) arms) (other ∷ []) (arm_parts arms (in_first (flat_map (λ (arm : List Tree × List A). arm.1) (map (λ (arm : List Tree × Act). (arm.0, f arm.1)) arms)) (f other) is)) (one_part other (in_second (flat_map (λ (arm : List Tree × List A). arm.1) (map (λ (arm : List Tree × Act). (arm.0, f arm.1)) arms)) (f other) is))
  all_parts (Act-F.While test body at) is = one_part body is
  all_parts (Act-F.Repeat count body at) is = one_part body is
  all_parts (Act-F.For fresh left first test step body at) is = two_parts step body is
  all_parts (Act-F.Forever body at) is = one_part body is
  all_parts (Act-F.Foreach bounds i body at) is = one_part body is
  all_parts (Act-F.Delay amount body at) is = one_part body is
  all_parts (Act-F.Event any on body at) is = one_part body is
  all_parts (Act-F.Wait test body at) is = one_part body is
  all_parts x is = All-nil Each

-- the parts of a statement that fits fit
module _ (scope : Scope) where
  abbrev FitAct : Act → Type 0
  FitAct a = act_fits scope None a ≡ true

  one_fits : (a : Act) → FitAct a → All FitAct (a ∷ [])
  one_fits a h = All-cons FitAct a [] h (All-nil FitAct)

  block_fits : (acts : List Act) → list_all (λ b. b) (map (act_fits scope None) acts) ≡ true → All FitAct acts
  block_fits [] h = All-nil FitAct
  block_fits (a ∷ acts) h =
      let parts = and_parts (act_fits scope None a) (list_all (λ b. b) (map (act_fits scope None) acts)) h in
      All-cons FitAct a acts parts.0 (block_fits acts parts.1)

  arms_fit : (test : Shaped) (arms : List (List Tree × Act)) → list_all (arm_fits scope test) (map (λ (arm : List Tree × Act). (arm.0, act_fits scope None arm.1)) arms) ≡ true → All FitAct (map (λ arm. arm.1) arms)
  arms_fit test [] h = All-nil FitAct
  arms_fit test (arm ∷ arms) h =
      let parts = and_parts (arm_fits scope test (arm.0, act_fits scope None arm.1)) (list_all (arm_fits scope test) (map (λ (arm : List Tree × Act). (arm.0, act_fits scope None arm.1)) arms)) h in
      All-cons FitAct arm.1 (map (λ arm. arm.1) arms) ((and_parts _ (act_fits scope None arm.1) parts.0).1) (arms_fit test arms parts.1)

  parts_fit : (x : Act-F Act) → fits_step scope None (map-Act Act Bool (act_fits scope None) x) ≡ true → All FitAct (parts_of x)
  parts_fit (Act-F.Block items at) h = block_fits items h
  parts_fit (Act-F.If test first None at) h = one_fits first (and_parts _ true (and_parts _ _ h).1).0
  parts_fit (Act-F.If test first (Some second) at) h =
      let parts = and_parts (act_fits scope None first) (act_fits scope None second) (and_parts _ _ h).1 in
      All-cons FitAct first (second ∷ []) parts.0 (one_fits second parts.1)
  parts_fit (Act-F.Case test arms None at) h =
      All-append FitAct (map (λ arm. arm.1) arms) [] (arms_fit _ arms (and_parts _ _ (and_parts _ _ h).1).0) (All-nil FitAct)
  parts_fit (Act-F.Case test arms (Some other) at) h =
      let parts = and_parts _ (act_fits scope None other) (and_parts _ _ h).1 in
      All-append FitAct (map (λ arm. arm.1) arms) (other ∷ []) (arms_fit _ arms parts.0) (one_fits other parts.1)
  parts_fit (Act-F.While test body at) h = one_fits body (and_parts _ _ h).1
  parts_fit (Act-F.Repeat count body at) h = one_fits body (and_parts _ _ h).1
  parts_fit (Act-F.For fresh left first test step body at) h =
      let parts = and_parts (act_fits scope None step) (act_fits scope None body) (and_parts _ _ (and_parts _ _ h).1).1 in
      All-cons FitAct step (body ∷ []) parts.0 (one_fits body parts.1)
  parts_fit (Act-F.Forever body at) h = one_fits body h
  parts_fit (Act-F.Foreach bounds i body at) h = one_fits body (and_parts _ _ (and_parts _ _ h).1).1
  parts_fit (Act-F.Delay amount body at) h = one_fits body (and_parts _ _ h).1
  parts_fit (Act-F.Event any on body at) h = one_fits body (and_parts _ _ h).1
  parts_fit (Act-F.Wait test body at) h = one_fits body (and_parts _ _ h).1
  parts_fit x h = All-nil FitAct

-- what holds of a statement that is sound, by its kind: it fits, each statement in it is sound, and so is each expression of
-- its own; and its own targets and calls are those of the procedure's body
pub record PartsSound (d : Design) (proc : Proc) (x : Act-F Act) : Type 0 where
  pub fits : fits_step (scope_with d proc.locals None) None (map-Act Act Bool (act_fits (scope_with d proc.locals None) None) x) ≡ true
  pub parts : All (ActSound d proc) (parts_of x)
  pub trees : All (TreeSound d proc) (own_trees x)
  pub writes : (v : ℕ) → Contains (flat_map written_vars (own_targets x)) v → Contains (used_by_proc proc) v
  pub called : (f : ℕ) → Contains (own_calls x) f → Contains (act_calls proc.body) f

-- the variables that expressions read
abbrev reads_in : List Tree → List ℕ
reads_in trees = flat_map var_in (flat_map reads_of trees)

reads_law : (xs ys : List Tree) → reads_in (xs ++ ys) ≡ reads_in xs ++ reads_in ys
reads_law xs ys =
    ap (flat_map var_in) (flat_map-append reads_of xs ys) ∙ flat_map-append var_in (flat_map reads_of xs) (flat_map reads_of ys)

pub part_sound : {d : Design} {proc : Proc} {s : Act} → ActSound d proc s → (x : Act-F Act) → out-Act s ≡ x → PartsSound d proc x
part_sound {d} {proc} {s} sound x is = record {
  fits = fits;
  parts = λ k a low. each_sound (get_or (parts_of x) k a) (Within sound.part (subst (λ (y : Act-F Act). Contains (parts_of y) (get_or (parts_of x) k a)) (sym is) (k, low, in_place (parts_of x) k a low))) (fit k a low) (reads k a low) (writes k a low) (called k a low) (inner k a low);
  trees = λ k t low. record { reads = own_reads k t low; calls = own_inner k t low };
  writes = subst (λ ts. Inside (UsedBy proc) (flat_map written_vars ts)) (own_targets_same (List Target) targets_of x) (inside_left (UsedBy proc) (flat_map written_vars (own_targets (map-Act Act (List Target) targets_of x))) (flat_map written_vars (act_parts (map-Act Act (List Target) targets_of x))) by_targets);
  called = subst (Inside (CalledBy proc)) (own_calls_same (List ℕ) (fold-Act (List ℕ) called_step) x) (inside_left (CalledBy proc) (own_calls (map-Act Act (List ℕ) (fold-Act (List ℕ) called_step) x)) (act_parts (map-Act Act (List ℕ) (fold-Act (List ℕ) called_step) x)) by_calls);
}
  where
    each_sound : (a : Act) → IsPart proc.body a → act_fits (scope_with d proc.locals None) None a ≡ true → Inside (UsedBy proc) (reads_in (trees_of a)) → Inside (UsedBy proc) (flat_map written_vars (targets_of a)) → Inside (CalledBy proc) (fold-Act (List ℕ) called_step a) → Inside (CalledBy proc) (flat_map calls_of (trees_of a)) → ActSound d proc a
    each_sound a p f r w c i = record {
      part = p;
      fits = f;
      uses = inside_both (UsedBy proc) (flat_map var_in (act_reads a)) (act_writes a) r w;
      calls = inside_both (CalledBy proc) (fold-Act (List ℕ) called_step a) (flat_map calls_of (trees_of a)) c i;
    }

    fits : fits_step (scope_with d proc.locals None) None (map-Act Act Bool (act_fits (scope_with d proc.locals None) None) x) ≡ true
    fits = sym (opened_at Bool (fits_step (scope_with d proc.locals None) None) s x is) ∙ sound.fits

    fit : All (λ a. act_fits (scope_with d proc.locals None) None a ≡ true) (parts_of x)
    fit = parts_fit (scope_with d proc.locals None) x fits

    trees_are : trees_of s ≡ own_trees x ++ act_parts (map-Act Act (List Tree) trees_of x)
    trees_are =
        opened_at (List Tree) trees_step s x is
        ∙ ap (λ (ts : List Tree). ts ++ act_parts (map-Act Act (List Tree) trees_of x)) (own_trees_same (List Tree) trees_of x)

    by_reads : Inside (UsedBy proc) (reads_in (own_trees x) ++ reads_in (act_parts (map-Act Act (List Tree) trees_of x)))
    by_reads =
        subst (Inside (UsedBy proc)) (reads_law (own_trees x) (act_parts (map-Act Act (List Tree) trees_of x))) (subst (λ ts. Inside (UsedBy proc) (reads_in ts)) trees_are (inside_left (UsedBy proc) (flat_map var_in (act_reads s)) (act_writes s) sound.uses))

    by_inner : Inside (CalledBy proc) (flat_map calls_of (own_trees x) ++ flat_map calls_of (act_parts (map-Act Act (List Tree) trees_of x)))
    by_inner =
        subst (Inside (CalledBy proc)) (flat_map-append calls_of (own_trees x) (act_parts (map-Act Act (List Tree) trees_of x))) (subst (λ ts. Inside (CalledBy proc) (flat_map calls_of ts)) trees_are (inside_right (CalledBy proc) (fold-Act (List ℕ) called_step s) (flat_map calls_of (trees_of s)) sound.calls))

    by_targets : Inside (UsedBy proc) (flat_map written_vars (own_targets (map-Act Act (List Target) targets_of x)) ++ flat_map written_vars (act_parts (map-Act Act (List Target) targets_of x)))
    by_targets =
        subst (Inside (UsedBy proc)) (flat_map-append written_vars (own_targets (map-Act Act (List Target) targets_of x)) (act_parts (map-Act Act (List Target) targets_of x))) (subst (λ ts. Inside (UsedBy proc) (flat_map written_vars ts)) (opened_at (List Target) targets_step s x is ∙ targets_parts (map-Act Act (List Target) targets_of x)) (inside_right (UsedBy proc) (flat_map var_in (act_reads s)) (act_writes s) sound.uses))

    by_calls : Inside (CalledBy proc) (own_calls (map-Act Act (List ℕ) (fold-Act (List ℕ) called_step) x) ++ act_parts (map-Act Act (List ℕ) (fold-Act (List ℕ) called_step) x))
    by_calls =
        subst (Inside (CalledBy proc)) (opened_at (List ℕ) called_step s x is ∙ called_parts (map-Act Act (List ℕ) (fold-Act (List ℕ) called_step) x)) (inside_left (CalledBy proc) (fold-Act (List ℕ) called_step s) (flat_map calls_of (trees_of s)) sound.calls)

    reads : All (λ a. Inside (UsedBy proc) (reads_in (trees_of a))) (parts_of x)
    reads = all_parts (UsedBy proc) reads_in reads_law trees_of x (inside_right (UsedBy proc) (reads_in (own_trees x)) (reads_in (act_parts (map-Act Act (List Tree) trees_of x))) by_reads)

    inner : All (λ a. Inside (CalledBy proc) (flat_map calls_of (trees_of a))) (parts_of x)
    inner = all_parts (CalledBy proc) (flat_map calls_of) (flat_map-append calls_of) trees_of x (inside_right (CalledBy proc) (flat_map calls_of (own_trees x)) (flat_map calls_of (act_parts (map-Act Act (List Tree) trees_of x))) by_inner)

    writes : All (λ a. Inside (UsedBy proc) (flat_map written_vars (targets_of a))) (parts_of x)
    writes = all_parts (UsedBy proc) (flat_map written_vars) (flat_map-append written_vars) targets_of x (inside_right (UsedBy proc) (flat_map written_vars (own_targets (map-Act Act (List Target) targets_of x))) (flat_map written_vars (act_parts (map-Act Act (List Target) targets_of x))) by_targets)

    called : All (λ a. Inside (CalledBy proc) (fold-Act (List ℕ) called_step a)) (parts_of x)
    called = all_parts (CalledBy proc) (λ (xs : List ℕ). xs) (λ xs ys. refl) (fold-Act (List ℕ) called_step) x (inside_right (CalledBy proc) (own_calls (map-Act Act (List ℕ) (fold-Act (List ℕ) called_step) x)) (act_parts (map-Act Act (List ℕ) (fold-Act (List ℕ) called_step) x)) by_calls)

    own_reads : All (λ t. Inside (UsedBy proc) (flat_map var_in (reads_of t))) (own_trees x)
    own_reads =
        each_part (UsedBy proc) (flat_map var_in) (flat_map-append var_in) reads_of (own_trees x) (inside_left (UsedBy proc) (reads_in (own_trees x)) (reads_in (act_parts (map-Act Act (List Tree) trees_of x))) by_reads)

    own_inner : All (λ t. Inside (CalledBy proc) (calls_of t)) (own_trees x)
    own_inner = each_inside (CalledBy proc) calls_of (own_trees x) (inside_left (CalledBy proc) (flat_map calls_of (own_trees x)) (flat_map calls_of (act_parts (map-Act Act (List Tree) trees_of x))) by_inner)

-- of two lists together, each
pub all_left : {A : Type 0} (P : A → Type 0) (xs ys : List A) → All P (xs ++ ys) → All P xs
all_left P [] ys h = All-nil P
all_left P (x ∷ xs) ys h =
    All-cons P x xs (All-head P x (xs ++ ys) h) (all_left P xs ys (All-tail P x (xs ++ ys) h))

pub all_right : {A : Type 0} (P : A → Type 0) (xs ys : List A) → All P (xs ++ ys) → All P ys
all_right P [] ys h = h
all_right P (x ∷ xs) ys h = all_right P xs ys (All-tail P x (xs ++ ys) h)

-- a part of a body that is sound is sound
pub part_of_body : {d : Design} {proc : Proc} → ActSound d proc proc.body → (a : Act) → IsPart proc.body a → ActSound d proc a
part_of_body {d} {proc} whole a p = of_part proc.body a whole p
  where
    of_part : (body a : Act) → ActSound d proc body → IsPart body a → ActSound d proc a
    of_part body a sound Whole = sound
    of_part body b sound (Within {a} p inside) =
        subst (ActSound d proc) inside.2 ((part_sound (of_part body a sound p) (out-Act a) refl).parts inside.0 b inside.1)

-- the body of a procedure of a design
pub body_of_proc : (d : Design) (proc : Proc) → IsProc (design_scope d) proc → ActSound d proc proc.body
body_of_proc d proc is = record { part = Whole; fits = is.fits; uses = λ v x. x; calls = λ f x. x }

-- what holds of what each has holds of what they have together
pub all_inside : {A : Type 0} (f : A → List ℕ) (V : ℕ → Type 0) (items : List A) → All (λ i. Inside V (f i)) items → Inside V (flat_map f items)
all_inside f V [] h v x = none_in v (V v) x
all_inside f V (i ∷ items) h v x =
    elim (Contains-append_cases (f i) (flat_map f items) v x) [
      | inl a ↦ All-head (λ j. Inside V (f j)) i items h v a
      | inr b ↦ all_inside f V items (All-tail (λ j. Inside V (f j)) i items h) v b
    ]
