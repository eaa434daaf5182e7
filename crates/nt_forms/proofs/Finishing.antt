-- What stands by itself, from what a table gives.
use Rattle.std.proofs.Common.{◌≡◌, ℕ, List, length, Result, Ok, Err, IfOk, sym, subst}
use Rattle.nt_value.specs.declared.place.Place.{Place}
use Rattle.nt_diag.specs.declared.rule.Rule.{Rule}
use Rattle.nt_diag.specs.declared.refusal.Fault.{Fault as Failure}
use Rattle.nt_ast.specs.Places.{Node}
use Rattle.nt_ast.specs.declared.path.Path.{Path}
use Rattle.nt_ast.specs.declared.expr.Expr.{Expr}
use Rattle.nt_ast.specs.declared.expr.Expr.TheOpen.{Expr-F}
use Rattle.nt_typing.specs.declared.scope.Callable.{Callable}
use Rattle.nt_typing.specs.declared.scope.Scope.{Scope}
use Rattle.nt_typing.specs.declared.thing.Thing.{Thing}
use Rattle.nt_typing.specs.Names.{meaning_of}
use Rattle.nt_typing.specs.Tables.{called, member_of, member_place}
use Rattle.nt_typing.specs.Faults.{Wrong, uncalled, member}
use Rattle.nt_typing.proofs.Least.{refuse_wrong}
use Rattle.nt_drafts.specs.Gives.{Gives}
use Rattle.nt_drafts.specs.declared.unfit.Unfit.{Unfit}
use Rattle.nt_drafts.specs.declared.unfit.Unfit.TheVariants.{Breaks, OutOfMemory}
use Rattle.nt_forms.specs.Walks.{Drafts, Calls, fault_at, member_fault}
use Rattle.nt_things.specs.Gives.{GivesCallable}
use Rattle.nt_ast.specs.declared.expr.Expr.TheViews.{out-Expr}
use Rattle.nt_typing.specs.Typing.{Stands}
use Rattle.nt_things.specs.Usable.{UsableThing, OnUsable}

pub if_ok : {A E : Type 0} {P Q : A → Type 0} (r : Result A E) → ((a : A) → P a → Q a) → IfOk r P → IfOk r Q
if_ok (Ok a) go h = go a h
if_ok (Err e) go h = h

wrong_by : (s : Scope) (x : Node) (table : Result Thing Rule) (u : Unfit) (at : Place) → Gives table (Err u) → ((r : Rule) → table ≡ Err r → Wrong s x r at) → Drafts s x (Err (fault_at u at))
wrong_by s x table (Breaks r) at g w = refuse_wrong x r at (w r g)
wrong_by s x table (OutOfMemory e) at g w = tt

pub wrong_err : (s : Scope) (x : Node) (table : Result Thing Rule) (u : Unfit) (at : Place) (f : Failure) → f ≡ fault_at u at → Gives table (Err u) → ((r : Rule) → table ≡ Err r → Wrong s x r at) → Drafts s x (Err f)
wrong_err s x table u at f e g w = subst (λ f. Drafts s x (Err f)) (sym e) (wrong_by s x table u at g w)

calls_by : {A : Type 0} (now : A → Callable) (s : Scope) (at : Place) (path : Path) (xs : List Expr) (u : Unfit)
    → GivesCallable now (called (meaning_of s path) (length xs)) (Err u) → Calls now s at path xs (Err (fault_at u at))
calls_by now s at path xs (Breaks r) h = refuse_wrong _ r at (uncalled at path xs h)
calls_by now s at path xs (OutOfMemory e) h = tt

pub calls_err : {A : Type 0} (now : A → Callable) (s : Scope) (at : Place) (path : Path) (xs : List Expr) (u : Unfit) (f : Failure) → f ≡ fault_at u at
    → GivesCallable now (called (meaning_of s path) (length xs)) (Err u) → Calls now s at path xs (Err f)
calls_err now s at path xs u f e h = subst (λ f. Calls now s at path xs (Err f)) (sym e) (calls_by now s at path xs u h)

member_by : (s : Scope) (at : Place) (x : Expr) (name_at : Place) (name : List ℕ) (g : Thing) (u : Unfit) → Stands s (out-Expr x) g → Gives (member_of g name) (Err u)
    → Drafts s (Expr-F.Member at x name_at name) (Err (member_fault u at name_at))
member_by s at x name_at name g (Breaks r) b h = refuse_wrong _ r (member_place r at name_at) (member at x name_at name b h)
member_by s at x name_at name g (OutOfMemory e) b h = tt

pub member_err : (s : Scope) (at : Place) (x : Expr) (name_at : Place) (name : List ℕ) (g : Thing) (u : Unfit) (f : Failure) → f ≡ member_fault u at name_at → Stands s (out-Expr x) g → Gives (member_of g name) (Err u)
    → Drafts s (Expr-F.Member at x name_at name) (Err f)
member_err s at x name_at name g u f e b h = subst (λ f. Drafts s (Expr-F.Member at x name_at name) (Err f)) (sym e) (member_by s at x name_at name g u b h)

-- what a table gives is usable where each of its things is
pub gives_usable : (table : Result Thing Rule) (r : Result Thing Unfit) → ((h : Thing) → table ≡ Ok h → UsableThing h) → Gives table r → OnUsable r
gives_usable table (Ok h) u g = u h g
gives_usable table (Err (Breaks n)) u g = tt
gives_usable table (Err (OutOfMemory e)) u g = tt
