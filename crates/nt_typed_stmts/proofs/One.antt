-- One left side, one leaf of a `case`, one typed statement.
use Rattle.std.proofs.Common.{◌≡◌, ℕ, Bool, List, ◌∷◌, Option, Some, refl, ap, sym, subst}
use Rattle.nt_value.specs.Digits.{LeafValue}
use Rattle.nt_value.specs.declared.kind.Edge.{Edge}
use Rattle.nt_value.specs.declared.leaf.Leaf.{Leaf}
use Rattle.nt_value.specs.declared.place.Place.{Place}
use Rattle.nt_ast.specs.Places.{Node}
use Rattle.nt_ast.specs.declared.expr.Expr.{Expr}
use Rattle.nt_ast.specs.declared.stmt.Stmt.{Stmt}
use Rattle.nt_ast.specs.declared.stmt.Stmt.TheOpen.{Stmt-F}
use Rattle.nt_const.specs.Tables.{joined}
use Rattle.nt_const.proofs.Answered.{ap2, ap3, own_one}
use Rattle.nt_design.specs.declared.act.Act.{Act}
use Rattle.nt_design.specs.declared.act.Act.TheVariants as act
use Rattle.nt_design.specs.declared.target.Pick.TheVariants as pick
use Rattle.nt_design.specs.declared.target.Target.{Target}
use Rattle.nt_design.specs.declared.tree.Tree.{Tree}
use Rattle.nt_design.specs.declared.tree.Tree.TheOpen.{Tree-F}
use Rattle.nt_design.specs.declared.tree.Tree.TheViews.{out-Tree}
use Rattle.nt_kinds.specs.declared.kind.Kind.{Kind}
use Rattle.nt_typing.specs.Tables.{constant_tree, given}
use Rattle.nt_typing.specs.Typing.{Goes}
use Rattle.nt_typing.specs.declared.scope.Callable.{Callable}
use Rattle.nt_typing.specs.declared.scope.Inside.{Inside}
use Rattle.nt_typing.specs.declared.scope.Inside.TheVariants as inside
use Rattle.nt_typing.specs.declared.scope.Scope.{Scope}
use Rattle.nt_typing.specs.declared.thing.Thing.{Thing}
use Rattle.nt_typing.specs.declared.thing.Thing.TheVariants.{Value as value, Many as many}
use Rattle.nt_typing.proofs.One.{ap4, ok_one, tree_of, stands_one, alone_one, typed_one, itself_one, goes_one, all_one, replanned}
use Rattle.nt_typed_stmts.specs.Lefts.{into, Reaches, variable, own, leaves_in, item_in, part_in, Left, left}
use Rattle.nt_typed_stmts.specs.Around.{Around}
use Rattle.nt_typed_stmts.specs.Binds.{Together, together_none, together_more, AllTyped, none_typed, more_typed, AllItself, none_itself, more_itself, Events, no_events, more_events, Begins, begins_own, begins_other, Returned, nothing_returned, value_returned, BindsStatement, null, block, assign, nonblocking, branch, choice, while, repeated, for, forever, foreach, delay, event, wait, return, break, continue, call, display, finish, BindsAll, no_statements, more_statements, BindsArms, no_arms, more_arms, BindsOther, no_other, other}

pub reaches_one : {t : Tree-F Tree} {a b : Target} → Reaches t a → Reaches t b → a ≡ b
reaches_one (variable v) (variable _) = refl
reaches_one (own i) (own _) = refl
reaches_one (leaves_in a first count g) (leaves_in _ _ _ h) = ap (λ to. into to (pick.Leaves first count)) (reaches_one g h)
reaches_one (item_in a i low size up g) (item_in _ _ _ _ _ h) = ap (λ to. into to (pick.Item i low size up)) (reaches_one g h)
reaches_one (part_in a low width g) (part_in _ _ _ h) = ap (λ to. into to (pick.Part low width)) (reaches_one g h)

abbrev pub kind_of : Thing → Kind
kind_of (value k a) = k
kind_of (many k) = k

pub record SameLeft (k j : Kind) (to go : Target) : Type 0 where
  pub kind : k ≡ j
  pub target : to ≡ go

pub left_one : {s : Scope} {x : Node} {k j : Kind} {to go : Target} → Left s x k to → Left s x j go → SameLeft k j to go
left_one (left {to = to} a g) (left {to = go} b h) =
    let e = stands_one a b in
    record { kind = ap kind_of e; target = reaches_one (subst (λ t. Reaches (out-Tree t) to) (ap tree_of e) g) h }

pub sent_one : {s : Scope} {x : Node} {k j : Kind} {a b : Tree} → k ≡ j → Goes s x k a → Goes s x j b → a ≡ b
sent_one {s = s} {x = x} {a = a} e g h = goes_one (subst (λ k. Goes s x k a) e g) h

pub together_one : {s : Scope} {xs : List Expr} {l m c d : Leaf} → l ≡ m → Together s xs l c → Together s xs m d → c ≡ d
together_one e together_none together_none = e
together_one e (together_more x xs a g) (together_more _ _ b h) = together_one (ap2 joined e (alone_one a b)) g h

all_typed_one : {s : Scope} {xs : List Expr} {c d : Leaf} {ts us : List Tree} → c ≡ d → AllTyped s xs c ts → AllTyped s xs d us → ts ≡ us
all_typed_one e none_typed none_typed = refl
all_typed_one e (more_typed x xs u g) (more_typed _ _ v h) = ap2 (λ (a : Tree) (ts : List Tree). a ∷ ts) (typed_one u v e) (all_typed_one e g h)

all_itself_one : {s : Scope} {xs : List Expr} {ts us : List Tree} → AllItself s xs ts → AllItself s xs us → ts ≡ us
all_itself_one none_itself none_itself = refl
all_itself_one (more_itself x xs u g) (more_itself _ _ v h) = ap2 (λ (a : Tree) (ts : List Tree). a ∷ ts) (itself_one u v).tree (all_itself_one g h)

events_one : {s : Scope} {xs : List (Edge × Expr)} {es fs : List (Edge × Tree)} → Events s xs es → Events s xs fs → es ≡ fs
events_one no_events no_events = refl
events_one (more_events edge x xs u n g) (more_events _ _ _ v m h) =
    ap2 (λ (a : Tree) (es : List (Edge × Tree)). (edge, a) ∷ es) (itself_one u v).tree (events_one g h)

pub record SameBegins (to go : Target) (a b : Tree) : Type 0 where
  pub target : to ≡ go
  pub tree : a ≡ b

begins_one : {w : Around} {fresh : Bool} {p : Place} {name : List ℕ} {x : Expr} {to go : Target} {a b : Tree} → Begins w fresh p name x to a → Begins w fresh p name x go b → SameBegins to go a b
begins_one (begins_own p name x g) (begins_own _ _ _ h) = record { target = refl; tree = goes_one g h }
begins_one (begins_other p name x g u) (begins_other _ _ _ h v) = let e = left_one g h in record { target = e.target; tree = sent_one e.kind u v }

result_one : {k j : Kind} {i : Inside} → i ≡ inside.Function (Some k) → i ≡ inside.Function (Some j) → k ≡ j
result_one e f = cc

returned_one : {s : Scope} {x : Option Expr} {a b : Option Tree} → Returned s x a → Returned s x b → a ≡ b
returned_one (nothing_returned e) (nothing_returned f) = refl
returned_one (value_returned x e g) (value_returned _ f h) = ap (λ (t : Tree). Some t) (sent_one (result_one e f) g h)

mutual
  pub statement_one : {w : Around} {x : Stmt-F Stmt} {a b : Act} → BindsStatement w x a → BindsStatement w x b → a ≡ b
  statement_one (null at) (null _) = refl
  statement_one (block at xs g) (block _ _ h) = ap (λ as'. act.Block as' at) (statements_one g h)
  statement_one (assign at x y g u) (assign _ _ _ h v) =
      let e = left_one g h in ap2 (λ to b. act.Assign to b at) e.target (sent_one e.kind u v)
  statement_one (nonblocking at x y n g m u) (nonblocking _ _ _ o h q v) =
      let e = left_one g h in ap2 (λ to b. act.Nonblocking to b at) e.target (sent_one e.kind u v)
  statement_one (branch at x y z i g u) (branch _ _ _ _ j h v) =
      ap3 (λ t b c. act.If t b c at) (itself_one i j).tree (statement_one g h) (other_one u v)
  statement_one (choice at x arms z a t u g k) (choice _ _ _ _ b r v h m) =
      let e = together_one (alone_one a b) t r in
      ap3 (λ t bs d. act.Case t bs d at) (typed_one u v e) (arms_one e g h) (other_one k m)
  statement_one (while at x y i g) (while _ _ _ j h) = ap2 (λ t b. act.While t b at) (itself_one i j).tree (statement_one g h)
  statement_one (repeated at x y i g) (repeated _ _ _ j h) = ap2 (λ t b. act.Repeat t b at) (itself_one i j).tree (statement_one g h)
  statement_one (for at fresh p name x y z v f i g u) (for _ _ _ _ _ _ _ _ m j h r) =
      let e = begins_one f m in
      ap2 (λ (k : Act → Act) (c : Act). k c) (ap4 (λ to f t b (c : Act). act.For fresh to f t b c at) e.target e.tree (itself_one i j).tree (statement_one g h)) (statement_one u r)
  statement_one (forever at y g) (forever _ _ h) = ap (λ b. act.Forever b at) (statement_one g h)
  statement_one (foreach {w = w} at p array q index y e g) (foreach _ _ _ _ _ _ f h) =
      ap2 (λ bounds b. act.Foreach bounds w.next b at) (ok_one refl e f) (statement_one g h)
  statement_one (delay at x y n u k m g) (delay _ _ _ o v j q h) = ap2 (λ (v : LeafValue) b. act.Delay (constant_tree v) b at) (own_one u v) (statement_one g h)
  statement_one (event at any xs y n u g) (event _ _ _ _ m v h) = ap2 (λ es b. act.Event any es b at) (events_one u v) (statement_one g h)
  statement_one (wait at x y n i g) (wait _ _ _ m j h) = ap2 (λ t b. act.Wait t b at) (itself_one i j).tree (statement_one g h)
  statement_one (return at x g) (return _ _ h) = ap (λ a. act.Return a at) (returned_one g h)
  statement_one (break at e) (break _ f) = refl
  statement_one (continue at e) (continue _ f) = refl
  statement_one (call at path xs e p) (call _ _ _ g q) =
      let i = ok_one refl e g in
      ap2 (λ (f : Callable) ts. act.Call f.number ts at) i (all_one p (replanned (ap (λ (f : Callable). given xs f.args) (sym i)) q))
  statement_one (display at text xs e g) (display _ _ _ f h) = ap (λ ts. act.Display text ts at) (all_itself_one g h)
  statement_one (finish at) (finish _) = refl

  statements_one : {w : Around} {xs : List Stmt} {as' bs : List Act} → BindsAll w xs as' → BindsAll w xs bs → as' ≡ bs
  statements_one no_statements no_statements = refl
  statements_one (more_statements x xs g u) (more_statements _ _ h v) = ap2 (λ (a : Act) (as' : List Act). a ∷ as') (statement_one g h) (statements_one u v)

  arms_one : {w : Around} {c d : Leaf} {arms : List (List Expr × Stmt)} {as' bs : List (List Tree × Act)} → c ≡ d → BindsArms w c arms as' → BindsArms w d arms bs → as' ≡ bs
  arms_one e no_arms no_arms = refl
  arms_one e (more_arms xs y arms t g u) (more_arms _ _ _ r h v) =
      ap3 (λ (ts : List Tree) (a : Act) (bs : List (List Tree × Act)). (ts, a) ∷ bs) (all_typed_one e t r) (statement_one g h) (arms_one e u v)

  other_one : {w : Around} {x : Option Stmt} {a b : Option Act} → BindsOther w x a → BindsOther w x b → a ≡ b
  other_one no_other no_other = refl
  other_one (other x g) (other _ h) = ap (λ (a : Act). Some a) (statement_one g h)
