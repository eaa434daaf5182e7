-- What is used in a statement, by its first node.
use Rattle.std.proofs.Common.{◌≡◌, ℕ, Bool, List, map, ap, sym, subst, ◌∙◌}
use Rattle.std.specs.Prelude.{Option, Some, None, Result, OnOk, option_map}
use denote.Hole.Carrier.{roll}
use Rattle.nt_value.specs.declared.place.Place.{Place}
use Rattle.nt_value.specs.declared.kind.Edge.{Edge}
use Rattle.nt_ast.specs.declared.path.Path.{Path}
use Rattle.nt_ast.specs.declared.expr.Expr.{Expr}
use Rattle.nt_ast.specs.declared.stmt.Stmt.{Stmt}
use Rattle.nt_ast.specs.declared.stmt.Stmt.TheVariants as st
use Rattle.nt_ast.specs.declared.stmt.Stmt.TheOpen.{Stmt-F}
use Rattle.nt_ast.specs.declared.stmt.Stmt.TheViews.{roll-Stmt}
use Rattle.nt_ast.specs.declared.stmt.Stmt.TheFolds.{fold-roll-Stmt}
use Rattle.nt_uses.specs.declared.used.Used.{Used}
use Rattle.nt_uses.specs.Uses.{Around, Adds, named, system, all_of, expr_uses, if_there, assigned}
use Rattle.nt_uses.specs.Statements.{exprs_uses, events_uses, within, plain_path, optional, arms_uses, for_uses, stmt_step, stmt_uses}

pub stmt_null : (at : Place) (a : Around) (b : List Used) → stmt_uses (st.Null at) a b ≡ b
unfolding stmt_uses roll-Stmt roll
stmt_null at a b = ap (λ (f : Adds). f a b) (fold-roll-Stmt Adds stmt_step (Stmt-F.Null at))

pub stmt_block : (at : Place) (xs : List Stmt) (a : Around) (b : List Used) → stmt_uses (st.Block at xs) a b ≡ all_of (map stmt_uses xs) a b
unfolding stmt_uses roll-Stmt roll
stmt_block at xs a b = ap (λ (f : Adds). f a b) (fold-roll-Stmt Adds stmt_step (Stmt-F.Block at xs))

pub stmt_assign : (at : Place) (x y : Expr) (a : Around) (b : List Used) → stmt_uses (st.Assign at x y) a b ≡ assigned x y a b
unfolding stmt_uses roll-Stmt roll
stmt_assign at x y a b = ap (λ (f : Adds). f a b) (fold-roll-Stmt Adds stmt_step (Stmt-F.Assign at x y))

pub stmt_nonblocking : (at : Place) (x y : Expr) (a : Around) (b : List Used) → stmt_uses (st.Nonblocking at x y) a b ≡ assigned x y a b
unfolding stmt_uses roll-Stmt roll
stmt_nonblocking at x y a b = ap (λ (f : Adds). f a b) (fold-roll-Stmt Adds stmt_step (Stmt-F.Nonblocking at x y))

pub stmt_if : (at : Place) (x : Expr) (first : Stmt) (other : Option Stmt) (a : Around) (b : List Used) → stmt_uses (st.If at x first other) a b ≡ optional (option_map stmt_uses other) a (stmt_uses first a (expr_uses x a b))
unfolding stmt_uses roll-Stmt roll
stmt_if at x first None a b = ap (λ (f : Adds). f a b) (fold-roll-Stmt Adds stmt_step (Stmt-F.If at x first None))
stmt_if at x first (Some y) a b = ap (λ (f : Adds). f a b) (fold-roll-Stmt Adds stmt_step (Stmt-F.If at x first (Some y)))

pub stmt_case : (at : Place) (x : Expr) (arms : List (List Expr × Stmt)) (other : Option Stmt) (a : Around) (b : List Used) → stmt_uses (st.Case at x arms other) a b ≡ optional (option_map stmt_uses other) a (arms_uses (map (λ (p : List Expr × Stmt). (p.0, stmt_uses p.1)) arms) a (expr_uses x a b))
unfolding stmt_uses roll-Stmt roll
stmt_case at x arms None a b = ap (λ (f : Adds). f a b) (fold-roll-Stmt Adds stmt_step (Stmt-F.Case at x arms None))
stmt_case at x arms (Some y) a b = ap (λ (f : Adds). f a b) (fold-roll-Stmt Adds stmt_step (Stmt-F.Case at x arms (Some y)))

pub stmt_while : (at : Place) (x : Expr) (body : Stmt) (a : Around) (b : List Used) → stmt_uses (st.While at x body) a b ≡ stmt_uses body a (expr_uses x a b)
unfolding stmt_uses roll-Stmt roll
stmt_while at x body a b = ap (λ (f : Adds). f a b) (fold-roll-Stmt Adds stmt_step (Stmt-F.While at x body))

pub stmt_repeat : (at : Place) (x : Expr) (body : Stmt) (a : Around) (b : List Used) → stmt_uses (st.Repeat at x body) a b ≡ stmt_uses body a (expr_uses x a b)
unfolding stmt_uses roll-Stmt roll
stmt_repeat at x body a b = ap (λ (f : Adds). f a b) (fold-roll-Stmt Adds stmt_step (Stmt-F.Repeat at x body))

pub stmt_for : (at : Place) (fresh : Bool) (p : Place) (name : List ℕ) (x y : Expr) (step body : Stmt) (a : Around) (b : List Used) → stmt_uses (st.For at fresh p name x y step body) a b ≡ for_uses fresh p name x y (stmt_uses step) (stmt_uses body) a b
unfolding stmt_uses roll-Stmt roll
stmt_for at fresh p name x y step body a b = ap (λ (f : Adds). f a b) (fold-roll-Stmt Adds stmt_step (Stmt-F.For at fresh p name x y step body))

pub stmt_forever : (at : Place) (body : Stmt) (a : Around) (b : List Used) → stmt_uses (st.Forever at body) a b ≡ stmt_uses body a b
unfolding stmt_uses roll-Stmt roll
stmt_forever at body a b = ap (λ (f : Adds). f a b) (fold-roll-Stmt Adds stmt_step (Stmt-F.Forever at body))

pub stmt_foreach : (at p : Place) (array : List ℕ) (q : Place) (index : List ℕ) (body : Stmt) (a : Around) (b : List Used) → stmt_uses (st.Foreach at p array q index body) a b ≡ stmt_uses body (within index a) (named (plain_path p array) a b)
unfolding stmt_uses roll-Stmt roll
stmt_foreach at p array q index body a b = ap (λ (f : Adds). f a b) (fold-roll-Stmt Adds stmt_step (Stmt-F.Foreach at p array q index body))

pub stmt_delay : (at : Place) (x : Expr) (body : Stmt) (a : Around) (b : List Used) → stmt_uses (st.Delay at x body) a b ≡ stmt_uses body a (expr_uses x a b)
unfolding stmt_uses roll-Stmt roll
stmt_delay at x body a b = ap (λ (f : Adds). f a b) (fold-roll-Stmt Adds stmt_step (Stmt-F.Delay at x body))

pub stmt_event : (at : Place) (any : Bool) (on : List (Edge × Expr)) (body : Stmt) (a : Around) (b : List Used) → stmt_uses (st.Event at any on body) a b ≡ stmt_uses body a (events_uses on a b)
unfolding stmt_uses roll-Stmt roll
stmt_event at any on body a b = ap (λ (f : Adds). f a b) (fold-roll-Stmt Adds stmt_step (Stmt-F.Event at any on body))

pub stmt_wait : (at : Place) (x : Expr) (body : Stmt) (a : Around) (b : List Used) → stmt_uses (st.Wait at x body) a b ≡ stmt_uses body a (expr_uses x a b)
unfolding stmt_uses roll-Stmt roll
stmt_wait at x body a b = ap (λ (f : Adds). f a b) (fold-roll-Stmt Adds stmt_step (Stmt-F.Wait at x body))

pub stmt_return : (at : Place) (value : Option Expr) (a : Around) (b : List Used) → stmt_uses (st.Return at value) a b ≡ if_there value a b
unfolding stmt_uses roll-Stmt roll
stmt_return at value a b = ap (λ (f : Adds). f a b) (fold-roll-Stmt Adds stmt_step (Stmt-F.Return at value))

pub stmt_break : (at : Place) (a : Around) (b : List Used) → stmt_uses (st.Break at) a b ≡ b
unfolding stmt_uses roll-Stmt roll
stmt_break at a b = ap (λ (f : Adds). f a b) (fold-roll-Stmt Adds stmt_step (Stmt-F.Break at))

pub stmt_continue : (at : Place) (a : Around) (b : List Used) → stmt_uses (st.Continue at) a b ≡ b
unfolding stmt_uses roll-Stmt roll
stmt_continue at a b = ap (λ (f : Adds). f a b) (fold-roll-Stmt Adds stmt_step (Stmt-F.Continue at))

pub stmt_call : (at : Place) (path : Path) (xs : List Expr) (a : Around) (b : List Used) → stmt_uses (st.Call at path xs) a b ≡ exprs_uses xs a (named path a b)
unfolding stmt_uses roll-Stmt roll
stmt_call at path xs a b = ap (λ (f : Adds). f a b) (fold-roll-Stmt Adds stmt_step (Stmt-F.Call at path xs))

pub stmt_display : (at : Place) (text : List ℕ) (xs : List Expr) (a : Around) (b : List Used) → stmt_uses (st.Display at text xs) a b ≡ exprs_uses xs a (system a b)
unfolding stmt_uses roll-Stmt roll
stmt_display at text xs a b = ap (λ (f : Adds). f a b) (fold-roll-Stmt Adds stmt_step (Stmt-F.Display at text xs))

pub stmt_finish : (at : Place) (a : Around) (b : List Used) → stmt_uses (st.Finish at) a b ≡ system a b
unfolding stmt_uses roll-Stmt roll
stmt_finish at a b = ap (λ (f : Adds). f a b) (fold-roll-Stmt Adds stmt_step (Stmt-F.Finish at))

pub ruleset equations = (stmt_null, stmt_block, stmt_assign, stmt_nonblocking, stmt_if, stmt_case, stmt_while, stmt_repeat, stmt_for, stmt_forever, stmt_foreach, stmt_delay, stmt_event, stmt_wait, stmt_return, stmt_break, stmt_continue, stmt_call, stmt_display, stmt_finish)

-- ---- statements with one that may be there
pub if_told : {T E : Type 0} (res : Result T E) (x : Stmt) (at : Place) (test : Expr) (first : Stmt) (other : Option Stmt) (a : Around) (old b c d : List Used) → x ≡ st.If at test first other
    → b ≡ expr_uses test a old → c ≡ stmt_uses first a b → OnOk res (d ≡ optional (option_map stmt_uses other) a c) → OnOk res (d ≡ stmt_uses x a old)
if_told res x at test first other a old b c d e f g h =
    subst (λ (y : List Used). OnOk res (d ≡ y))
    (ap (λ (y : List Used). optional (option_map stmt_uses other) a y) (g ∙ ap (λ (y : List Used). stmt_uses first a y) f)
    ∙ sym (ap (λ (y : Stmt). stmt_uses y a old) e ∙ stmt_if at test first other a old))
    h

pub case_told : {T E : Type 0} (res : Result T E) (x : Stmt) (at : Place) (test : Expr) (arms : List (List Expr × Stmt)) (other : Option Stmt) (a : Around) (old b c d : List Used) → x ≡ st.Case at test arms other
    → b ≡ expr_uses test a old → c ≡ arms_uses (map (λ (p : List Expr × Stmt). (p.0, stmt_uses p.1)) arms) a b → OnOk res (d ≡ optional (option_map stmt_uses other) a c) → OnOk res (d ≡ stmt_uses x a old)
case_told res x at test arms other a old b c d e f g h =
    subst (λ (y : List Used). OnOk res (d ≡ y))
    (ap (λ (y : List Used). optional (option_map stmt_uses other) a y) (g ∙ ap (λ (y : List Used). arms_uses (map (λ (p : List Expr × Stmt). (p.0, stmt_uses p.1)) arms) a y) f)
    ∙ sym (ap (λ (y : Stmt). stmt_uses y a old) e ∙ stmt_case at test arms other a old))
    h
