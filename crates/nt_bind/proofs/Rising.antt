-- How faults of operands rise to the node, and what several operands give in a walk over them.
use Rattle.std.proofs.Common.{◌≡◌, ◌≤◌, ℕ, ◌+◌, ◌++◌, ◌||◌, min, Bool, true, false, List, [], ◌∷◌, length, drop, Option, Some, Result, Err, refl, sym, ap, subst, arith}
use Rattle.std.proofs.lemmas.List.{drop_all, append_assoc}
use Rattle.nt_value.specs.declared.leaf.Leaf.{Leaf}
use Rattle.nt_diag.specs.declared.refusal.Fault.{Fault as Failure}
use Rattle.nt_diag.specs.declared.refusal.Fault.TheVariants as fault
use Rattle.nt_diag.specs.declared.refusal.Refusal.{Refusal}
use Rattle.nt_ast.specs.Places.{Node}
use Rattle.nt_value.specs.declared.place.Place.{Place}
use Rattle.nt_ast.specs.declared.expr.Key.{Key}
use Rattle.nt_ast.specs.declared.expr.Expr.TheOpen.{Expr-F}
use Rattle.nt_typing.specs.Tables.{planned}
use Rattle.nt_ast.specs.declared.expr.Expr.{Expr}
use Rattle.nt_ast.specs.declared.expr.Expr.TheViews.{out-Expr}
use Rattle.nt_design.specs.declared.tree.Tree.{Tree}
use Rattle.nt_drafts.specs.declared.drafts.Draft.{Draft}
use Rattle.nt_kinds.specs.declared.kind.Kind.{Kind}
use Rattle.nt_typing.specs.declared.scope.Scope.{Scope}
use Rattle.nt_typing.specs.declared.thing.Thing.{Thing}
use Rattle.nt_typing.specs.Typing.{Itself, itself, Several as Parts, none, more, Goes, AllGo, none_go, more_go}
use Rattle.nt_typing.specs.Faults.{is_pattern, Need, leaf, known, count, goes, Asked, all_leaf, all_go}
use Rattle.nt_typing.specs.Places.{Refuses, RefusesOne}
use Rattle.nt_typing.proofs.Excluded.{Fit, fit_leaf, fit_constant, fit_goes}
use Rattle.nt_typing.proofs.Least.{refuse_here, refuse_there, refuse_leaf}
use Rattle.nt_typing.proofs.LeastTo.{refuse_base, refuse_going, refuse_faulty, refuse_item}
use Rattle.nt_forms.specs.Walks.{Drafts, Lacks, Bases, Leafs, IsLeafed, Counted, Measured, Summed, Severals, Sends, AllSent, SomeSent, grown}
use Rattle.nt_forms.specs.declared.operands.Leafed.{Leafed}
use Rattle.nt_forms.specs.declared.operands.Several.{Several}
use Rattle.nt_forms.proofs.Asking.{alone_of}

-- ---- a fault rises, and want of memory too
pub lift_one : (s : Scope) (m : Node) (n : Need) (x : Expr) (rest : Asked) (f : Failure) → ((r : Refusal) → RefusesOne s ((n, x) ∷ rest) r → Refuses s m r) → Lacks n s (out-Expr x) f → Drafts s m (Err f)
lift_one s m n x rest (fault.Refused r) go h = go r (refuse_here n x rest r h)
lift_one s m n x rest (fault.OutOfMemory e) go h = tt

pub lift_several : (s : Scope) (m : Node) (xs : List Expr) (f : Failure) → ((r : Refusal) → RefusesOne s (all_leaf xs) r → Refuses s m r) → Severals s xs (Err f) → Drafts s m (Err f)
lift_several s m xs (fault.Refused r) go h = go r h
lift_several s m xs (fault.OutOfMemory e) go h = tt

pub lift_sent : (s : Scope) (m : Node) (plan : List (Expr × Kind)) (f : Failure) → ((r : Refusal) → RefusesOne s (all_go plan) r → Refuses s m r) → AllSent s plan (Err f) → Drafts s m (Err f)
lift_sent s m plan (fault.Refused r) go h = go r h
lift_sent s m plan (fault.OutOfMemory e) go h = tt

-- ---- operands that are what is asked of them
pub leafed_fit : {s : Scope} {x : Node} (one : Leafed) → IsLeafed s x one → Fit s leaf x
leafed_fit one h = fit_leaf (alone_of one h)

pub selfed_fit : {s : Scope} {x : Node} {l : Leaf} {a : Tree} → Itself s x l a → Fit s leaf x
selfed_fit (itself x a u) = fit_leaf a

pub counted_fit : {s : Scope} {x : Node} {n : ℕ} → Counted s x n → Fit s count x
counted_fit c = fit_constant refl c.constant c.counts

pub measured_fit : {s : Scope} {x : Node} {n : ℕ} → Measured s x n → Fit s known x
measured_fit c = fit_constant refl c.constant c.is_known

-- ---- several operands: what the rest gives, the whole gives
abbrev pub onward : Several → ℕ → Bool → List Tree → Several
onward all n four ts = record { width = min (n + all.width) 65; four = all.four || four; parts = all.parts ++ ts }

pub record Adding (s : Scope) (xs : List Expr) (i : ℕ) (all : Several) : Type 0 where
  pub small : all.width ≤ 65
  pub sums : (n : ℕ) (four : Bool) (ts : List Tree) → Parts s (drop i xs) n four ts → Summed s xs (onward all n four ts)
  pub refuses : (r : Refusal) → RefusesOne s (all_leaf (drop i xs)) r → RefusesOne s (all_leaf xs) r

or_assoc : (a b c : Bool) → (a || (b || c)) ≡ ((a || b) || c)
or_assoc true b c = refl
or_assoc false b c = refl

or_false : (a : Bool) → (a || false) ≡ a
or_false true = refl
or_false false = refl

append_none : (ts : List Tree) → ts ++ [] ≡ ts
append_none [] = refl
append_none (t ∷ ts) = ap (λ us. t ∷ us) (append_none ts)

several_is : (n m : ℕ) (f g : Bool) (ts us : List Tree) → n ≡ m → f ≡ g → ts ≡ us
    → (let a : Several = record { width = n; four = f; parts = ts } in a) ≡ record { width = m; four = g; parts = us }
several_is n m f g ts us e h i = cc

pub adding_first : (s : Scope) (xs : List Expr) (all : Several) → all ≡ record { width = 0; four = false; parts = [] } → Adding s xs 0 all
adding_first s xs all e =
    subst (Adding s xs 0) (sym e)
    (record {
      small = omega arith;
      sums = λ n four ts p. record { width = n; several = p; capped = omega arith };
      refuses = λ r g. g;
    })

pub adding_more : (s : Scope) (xs : List Expr) (i : ℕ) (all next : Several) (x : Expr) (l : Leaf) (a : Tree) → drop i xs ≡ x ∷ drop (i + 1) xs → Itself s (out-Expr x) l a → next ≡ grown all l a
    → Adding s xs i all → Adding s xs (i + 1) next
adding_more s xs i all next x l a e it f h =
    subst (Adding s xs (i + 1)) (sym f)
    (record {
      small = omega arith;
      sums = λ n four ts p.
          let c : min (l.width + n + all.width) 65 ≡ min (n + min (l.width + all.width) 65) 65 = omega arith in
          subst (Summed s xs) (several_is _ _ _ _ _ _ c (or_assoc all.four l.four four) (sym (append_assoc all.parts (a ∷ []) ts)))
          (h.sums (l.width + n) (l.four || four) (a ∷ ts) (subst (λ ys. Parts s ys (l.width + n) (l.four || four) (a ∷ ts)) (sym e) (more x _ it p)));
      refuses = λ r g. h.refuses r (subst (λ ys. RefusesOne s (all_leaf ys) r) (sym e) (refuse_there leaf x (all_leaf (drop (i + 1) xs)) r (selfed_fit it) g));
    })

pub adding_done : (s : Scope) (xs : List Expr) (i : ℕ) (all : Several) → length xs ≤ i → Adding s xs i all → Summed s xs all
adding_done s xs i all le h =
    let small = h.small in
    let c : min (0 + all.width) 65 ≡ all.width = omega arith in
    subst (Summed s xs) (several_is _ _ _ _ _ _ c (or_false all.four) (append_none all.parts))
    (h.sums 0 false [] (subst (λ ys. Parts s ys 0 false []) (sym (drop_all i xs le)) none))

pub adding_err : (s : Scope) (xs : List Expr) (i : ℕ) (all : Several) (x : Expr) (f : Failure) → drop i xs ≡ x ∷ drop (i + 1) xs → Lacks leaf s (out-Expr x) f → Adding s xs i all → Severals s xs (Err f)
adding_err s xs i all x (fault.Refused r) e h w = w.refuses r (subst (λ ys. RefusesOne s (all_leaf ys) r) (sym e) (refuse_here leaf x (all_leaf (drop (i + 1) xs)) r h))
adding_err s xs i all x (fault.OutOfMemory o) e h w = tt

-- ---- what goes to the arguments of a call
pub record Sending (s : Scope) (plan : List (Expr × Kind)) (i : ℕ) (ts : List Tree) : Type 0 where
  pub goes : (us : List Tree) → AllGo s (drop i plan) us → AllGo s plan (ts ++ us)
  pub refuses : (r : Refusal) → RefusesOne s (all_go (drop i plan)) r → RefusesOne s (all_go plan) r

pub sending_first : (s : Scope) (plan : List (Expr × Kind)) → Sending s plan 0 []
sending_first s plan = record { goes = λ us p. p; refuses = λ r g. g }

pub sending_more : (s : Scope) (plan : List (Expr × Kind)) (i : ℕ) (ts next : List Tree) (x : Expr) (k : Kind) (a : Tree) → drop i plan ≡ (x, k) ∷ drop (i + 1) plan → Goes s (out-Expr x) k a → next ≡ ts ++ a ∷ []
    → Sending s plan i ts → Sending s plan (i + 1) next
sending_more s plan i ts next x k a e g f h =
    subst (Sending s plan (i + 1)) (sym f)
    (record {
      goes = λ us p. subst (AllGo s plan) (sym (append_assoc ts (a ∷ []) us)) (h.goes (a ∷ us) (subst (λ ys. AllGo s ys (a ∷ us)) (sym e) (more_go x k _ g p)));
      refuses = λ r w. h.refuses r (subst (λ ys. RefusesOne s (all_go ys) r) (sym e) (refuse_there (goes k) x (all_go (drop (i + 1) plan)) r (fit_goes g) w));
    })

pub sending_done : (s : Scope) (plan : List (Expr × Kind)) (i : ℕ) (ts : List Tree) → length plan ≤ i → Sending s plan i ts → AllGo s plan ts
sending_done s plan i ts le h = subst (AllGo s plan) (append_none ts) (h.goes [] (subst (λ ys. AllGo s ys []) (sym (drop_all i plan le)) none_go))

pub sending_err : (s : Scope) (plan : List (Expr × Kind)) (i : ℕ) (ts : List Tree) (x : Expr) (k : Kind) (f : Failure) → drop i plan ≡ (x, k) ∷ drop (i + 1) plan → Sends s (out-Expr x) k (Err f) → Sending s plan i ts
    → AllSent s plan (Err f)
sending_err s plan i ts x k (fault.Refused r) e h w = w.refuses r (subst (λ ys. RefusesOne s (all_go ys) r) (sym e) (refuse_here (goes k) x (all_go (drop (i + 1) plan)) r (refuse_going k (out-Expr x) r h)))
sending_err s plan i ts x k (fault.OutOfMemory o) e h w = tt

-- ---- the exit of a `?`
pub drafts_err : (s : Scope) (x : Node) (r : Result Draft Failure) (f : Failure) → r ≡ Err f → Drafts s x (Err f) → Drafts s x r
drafts_err s x r f e h = subst (λ r. Drafts s x r) (sym e) h

pub bases_err : (s : Scope) (x : Node) (r : Result Thing Failure) (f : Failure) → r ≡ Err f → Drafts s x (Err f) → Bases s x r
bases_err s x r (fault.Refused e) g h = subst (λ r. Bases s x r) (sym g) (refuse_base x e h)
bases_err s x r (fault.OutOfMemory o) g h = subst (λ r. Bases s x r) (sym g) tt

pub leafs_err : (s : Scope) (x : Node) (r : Result Leafed Failure) (f : Failure) → r ≡ Err f → Drafts s x (Err f) → Leafs s x r
leafs_err s x r (fault.Refused e) g h = subst (λ r. Leafs s x r) (sym g) (refuse_leaf x e h)
leafs_err s x r (fault.OutOfMemory o) g h = subst (λ r. Leafs s x r) (sym g) tt

pub sends_err : (s : Scope) (x : Node) (k : Kind) (r : Result Tree Failure) (f : Failure) → is_pattern x ≡ false → r ≡ Err f → Drafts s x (Err f) → Sends s x k r
sends_err s x k r (fault.Refused e) n g h = subst (λ r. Sends s x k r) (sym g) (refuse_faulty x k e n h)
sends_err s x k r (fault.OutOfMemory o) n g h = subst (λ r. Sends s x k r) (sym g) tt

pub pattern_err : (s : Scope) (k : Kind) (at : Place) (items : List (Option Key × Expr)) (plan : List (Expr × Kind)) (r : Result Tree Failure) (f : Failure) → planned k items ≡ Some plan → r ≡ Err f → SomeSent s plan (Err f)
    → Sends s (Expr-F.Pattern at items) k r
pattern_err s k at items plan r (fault.Refused e) n g h = subst (λ r. Sends s (Expr-F.Pattern at items) k r) (sym g) (refuse_item k at items plan e n h)
pattern_err s k at items plan r (fault.OutOfMemory o) n g h = subst (λ r. Sends s (Expr-F.Pattern at items) k r) (sym g) tt
