-- The resolver that a path names, and its least fault.
use Rattle.std.proofs.Common.{◌≡◌, ℕ, ◌≤◌, Bool, true, false, List, [], ◌∷◌, slice_get, refl, sym, ap, ◌∙◌, subst, inl, inr, arith}
use Rattle.std.specs.Prelude.{Option, Some, None, Result, Ok, Err, All, IsTrue, ◌↔◌, ◌<◌, length, get_or, if◌then◌else◌}
use Rattle.std.proofs.lemmas.List.Elements.{All-head, All-tail}
use Rattle.std.proofs.lemmas.Bool.{cases_Bool}
use Rattle.std.proofs.Common.{cond}
use Rattle.nt_diag.specs.declared.refusal.Fault.{Fault as Failure}
use Rattle.nt_diag.specs.declared.refusal.Fault.TheVariants as failure
use Rattle.nt_kinds.specs.declared.kind.Kind.TheViews.{out-Kind}
use Rattle.nt_kinds.specs.Kinds.{Equivalent}
use Rattle.nt_value.specs.declared.place.Place.{Place}
use Rattle.nt_diag.specs.declared.rule.Rule.{Rule}
use Rattle.nt_diag.specs.declared.rule.Rule.TheVariants as rule
use Rattle.nt_diag.specs.declared.refusal.Refusal.{Refusal}
use Rattle.nt_diag.specs.Order.{rule_number, NoLater, IsLeast}
use Rattle.nt_ast.specs.declared.path.Path.{Path}
use Rattle.nt_kinds.specs.declared.kind.Kind.{Kind}
use Rattle.nt_scopes.specs.declared.scope.Look.{Look}
use Rattle.nt_scopes.specs.declared.scope.Look.TheVariants as look
use Rattle.nt_types.specs.Units.{UnitScopes, MeansAt}
use Rattle.nt_types.specs.Looks.{look_at}
use Rattle.nt_types.proofs.Finding.{found}
use Rattle.nt_types.specs.declared.parts.What.{What}
use Rattle.nt_types.specs.declared.parts.What.TheVariants as what
use Rattle.nt_typing.specs.declared.scope.Callable.{Callable}
use Rattle.nt_uses.specs.Functions.{writes_argument}
use Rattle.nt_nettype.specs.Resolvers.{refusal, same_place, function_at, function_what, function_look, function_named, IsWithin, ResolverTells, Returns, returns, Takes, takes, Breaks, other_result, other_arguments, not_automatic, not_own, writes, IsResolver, ResolverFault, unknown, two_imports, no_function, breaks}

same_some : {A : Type 0} {o : Option A} {a b : A} → o ≡ Some a → o ≡ Some b → a ≡ b
same_some e f = cc

some_none : {A : Type 0} {o : Option A} {a : A} → o ≡ Some a → o ≡ None → ⊥
some_none e f = cc

at_one_place : (r q : Rule) (at : Place) → rule_number r ≤ rule_number q → NoLater (refusal r at) (refusal q at)
at_one_place r q at le = inr (refl, inr (refl, le))

-- ---- names that mean something else
looked : (s : UnitScopes) (fs : List Callable) (path : Path) (l : Look) → look_at s path ≡ l → function_named s fs path ≡ function_look s.whats fs l
looked s fs path l e = ap (function_look s.whats fs) e

pub unknown_least : {s : UnitScopes} {fs : List Callable} {path : Path} {kind : Kind} → look_at s path ≡ look.Unknown → (q : Refusal) → ResolverFault s fs path kind q → NoLater (refusal rule.T4 path.at) q
unknown_least {path = path} e q (unknown f) = at_one_place rule.T4 rule.T4 path.at (omega arith)
unknown_least e q (two_imports f) = absurd cc
unknown_least e q (no_function t f g) = absurd cc
unknown_least {s = s} {fs = fs} {path = path} e q (breaks f r g h) = absurd (some_none g (looked s fs path _ e))

pub two_least : {s : UnitScopes} {fs : List Callable} {path : Path} {kind : Kind} → look_at s path ≡ look.Ambiguous → (q : Refusal) → ResolverFault s fs path kind q → NoLater (refusal rule.T9 path.at) q
two_least e q (unknown f) = absurd cc
two_least {path = path} e q (two_imports f) = at_one_place rule.T9 rule.T9 path.at (omega arith)
two_least e q (no_function t f g) = absurd cc
two_least {s = s} {fs = fs} {path = path} e q (breaks f r g h) = absurd (some_none g (looked s fs path _ e))

pub none_least : {s : UnitScopes} {fs : List Callable} {path : Path} {kind : Kind} (t : ℕ) → look_at s path ≡ look.One t → function_named s fs path ≡ None → (q : Refusal) → ResolverFault s fs path kind q → NoLater (refusal rule.N1 path.at) q
none_least t e f q (unknown g) = absurd cc
none_least t e f q (two_imports g) = absurd cc
none_least {path = path} t e f q (no_function u g h) = at_one_place rule.N1 rule.N1 path.at (omega arith)
none_least t e f q (breaks g r h i) = absurd (some_none h f)

-- ---- a function that breaks a rule
not_unknown : (s : UnitScopes) (fs : List Callable) (path : Path) (f : Callable) → function_named s fs path ≡ Some f → look_at s path ≡ look.Unknown → ⊥
not_unknown s fs path f e g = some_none e (looked s fs path _ g)

not_two : (s : UnitScopes) (fs : List Callable) (path : Path) (f : Callable) → function_named s fs path ≡ Some f → look_at s path ≡ look.Ambiguous → ⊥
not_two s fs path f e g = some_none e (looked s fs path _ g)

other_later : {s : UnitScopes} {fs : List Callable} {path : Path} {kind : Kind} (f : Callable) (r : Rule) → function_named s fs path ≡ Some f
    → ((q : Rule) → Breaks s kind f q → rule_number r ≤ rule_number q) → (q : Refusal) → ResolverFault s fs path kind q → NoLater (refusal r path.at) q
other_later {s = s} {fs = fs} {path = path} f r e least q (unknown g) = absurd (not_unknown s fs path f e g)
other_later {s = s} {fs = fs} {path = path} f r e least q (two_imports g) = absurd (not_two s fs path f e g)
other_later f r e least q (no_function t g h) = absurd (some_none e h)
other_later {s = s} {path = path} {kind = kind} f r e least q (breaks g p h b) = at_one_place r p path.at (least p (subst (λ (x : Callable). Breaks s kind x p) (same_some h e) b))

break_least : {s : UnitScopes} {fs : List Callable} {path : Path} {kind : Kind} (f : Callable) (r : Rule) → function_named s fs path ≡ Some f → Breaks s kind f r
    → ((q : Rule) → Breaks s kind f q → rule_number r ≤ rule_number q) → IsLeast (ResolverFault s fs path kind) (refusal r path.at)
break_least {s = s} {fs = fs} {path = path} {kind = kind} f r e b least = record { is = breaks f r e b; least = λ q x. other_later f r e least q x }

from_2 : {s : UnitScopes} {kind : Kind} {f : Callable} (q : Rule) → Breaks s kind f q → rule_number rule.N2 ≤ rule_number q
from_2 q (other_result x) = omega arith
from_2 q (other_arguments x) = omega arith
from_2 q (not_automatic x) = omega arith
from_2 q (not_own x) = omega arith
from_2 q (writes x) = omega arith

from_3 : {s : UnitScopes} {kind : Kind} {f : Callable} → Returns f kind → (q : Rule) → Breaks s kind f q → rule_number rule.N3 ≤ rule_number q
from_3 a q (other_result x) = absurd (x a)
from_3 a q (other_arguments x) = omega arith
from_3 a q (not_automatic x) = omega arith
from_3 a q (not_own x) = omega arith
from_3 a q (writes x) = omega arith

from_4 : {s : UnitScopes} {kind : Kind} {f : Callable} → Returns f kind → Takes f kind → (q : Rule) → Breaks s kind f q → rule_number rule.N4 ≤ rule_number q
from_4 a b q (other_result x) = absurd (x a)
from_4 a b q (other_arguments x) = absurd (x b)
from_4 a b q (not_automatic x) = omega arith
from_4 a b q (not_own x) = omega arith
from_4 a b q (writes x) = omega arith

true_false : {b : Bool} → b ≡ true → b ≡ false → ⊥
true_false e f = cc

from_5 : {s : UnitScopes} {kind : Kind} {f : Callable} → Returns f kind → Takes f kind → f.item.automatic ≡ true → (q : Rule) → Breaks s kind f q → rule_number rule.N5 ≤ rule_number q
from_5 a b c q (other_result x) = absurd (x a)
from_5 a b c q (other_arguments x) = absurd (x b)
from_5 a b c q (not_automatic x) = absurd (true_false c x)
from_5 a b c q (not_own x) = omega arith
from_5 a b c q (writes x) = omega arith

from_6 : {s : UnitScopes} {kind : Kind} {f : Callable} → Returns f kind → Takes f kind → f.item.automatic ≡ true → f.own ≡ true → (q : Rule) → Breaks s kind f q → rule_number rule.N6 ≤ rule_number q
from_6 a b c d q (other_result x) = absurd (x a)
from_6 a b c d q (other_arguments x) = absurd (x b)
from_6 a b c d q (not_automatic x) = absurd (true_false c x)
from_6 a b c d q (not_own x) = absurd (true_false d x)
from_6 a b c d q (writes x) = omega arith

pub told_2 : {s : UnitScopes} {fs : List Callable} {path : Path} {kind : Kind} (f : Callable) → function_named s fs path ≡ Some f → (Returns f kind → ⊥) → IsLeast (ResolverFault s fs path kind) (refusal rule.N2 path.at)
told_2 f e fails = break_least f rule.N2 e (other_result fails) (λ q b. from_2 q b)

pub told_3 : {s : UnitScopes} {fs : List Callable} {path : Path} {kind : Kind} (f : Callable) → function_named s fs path ≡ Some f → Returns f kind → (Takes f kind → ⊥) → IsLeast (ResolverFault s fs path kind) (refusal rule.N3 path.at)
told_3 f e a fails = break_least f rule.N3 e (other_arguments fails) (λ q b. from_3 a q b)

pub told_4 : {s : UnitScopes} {fs : List Callable} {path : Path} {kind : Kind} (f : Callable) → function_named s fs path ≡ Some f → Returns f kind → Takes f kind → f.item.automatic ≡ false
    → IsLeast (ResolverFault s fs path kind) (refusal rule.N4 path.at)
told_4 f e a b fails = break_least f rule.N4 e (not_automatic fails) (λ q x. from_4 a b q x)

pub told_5 : {s : UnitScopes} {fs : List Callable} {path : Path} {kind : Kind} (f : Callable) → function_named s fs path ≡ Some f → Returns f kind → Takes f kind → f.item.automatic ≡ true → f.own ≡ false
    → IsLeast (ResolverFault s fs path kind) (refusal rule.N5 path.at)
told_5 f e a b c fails = break_least f rule.N5 e (not_own fails) (λ q x. from_5 a b c q x)

pub told_6 : {s : UnitScopes} {fs : List Callable} {path : Path} {kind : Kind} (f : Callable) → function_named s fs path ≡ Some f → Returns f kind → Takes f kind → f.item.automatic ≡ true → f.own ≡ true
    → writes_argument s f.item ≡ true → IsLeast (ResolverFault s fs path kind) (refusal rule.N6 path.at)
told_6 f e a b c d holds = break_least f rule.N6 e (writes holds) (λ q x. from_6 a b c d q x)

-- ---- laws
pub one_resolver : (s : UnitScopes) (fs : List Callable) (path : Path) (kind : Kind) (a b : ℕ) → IsResolver s fs path kind a → IsResolver s fs path kind b → a ≡ b
one_resolver s fs path kind a b m n = m.is ∙ ap (λ (f : Callable). f.number) (same_some m.named n.named) ∙ sym n.is

keeps_all : {s : UnitScopes} {kind : Kind} {f : Callable} (r : Rule) → Returns f kind → Takes f kind → f.item.automatic ≡ true → f.own ≡ true → writes_argument s f.item ≡ false → Breaks s kind f r → ⊥
keeps_all r a b c d e (other_result x) = x a
keeps_all r a b c d e (other_arguments x) = x b
keeps_all r a b c d e (not_automatic x) = true_false c x
keeps_all r a b c d e (not_own x) = true_false d x
keeps_all r a b c d e (writes x) = true_false x e

pub resolver_faultless : (s : UnitScopes) (fs : List Callable) (path : Path) (kind : Kind) (n : ℕ) (r : Refusal) → IsResolver s fs path kind n → ResolverFault s fs path kind r → ⊥
resolver_faultless s fs path kind n r m (unknown g) = not_unknown s fs path m.function m.named g
resolver_faultless s fs path kind n r m (two_imports g) = not_two s fs path m.function m.named g
resolver_faultless s fs path kind n r m (no_function t g h) = some_none m.named h
resolver_faultless s fs path kind n r m (breaks f q h b) = keeps_all q m.returns m.takes m.automatic m.own m.keeps (subst (λ (x : Callable). Breaks s kind x q) (same_some h m.named) b)

-- ---- what the parts of the call answer
pub refused_told : (s : UnitScopes) (fs : List Callable) (path : Path) (kind : Kind) (f : Failure) (r : Refusal) → f ≡ failure.Refused r → IsLeast (ResolverFault s fs path kind) r → ResolverTells s fs path kind (Err f)
refused_told s fs path kind f r e l = subst (λ (f : Failure). ResolverTells s fs path kind (Err f)) (sym e) l

pub unknown_told : (s : UnitScopes) (fs : List Callable) (path : Path) (kind : Kind) → look_at s path ≡ look.Unknown → IsLeast (ResolverFault s fs path kind) (refusal rule.T4 path.at)
unknown_told s fs path kind e = record { is = unknown e; least = λ q f. unknown_least e q f }

pub two_told : (s : UnitScopes) (fs : List Callable) (path : Path) (kind : Kind) → look_at s path ≡ look.Ambiguous → IsLeast (ResolverFault s fs path kind) (refusal rule.T9 path.at)
two_told s fs path kind e = record { is = two_imports e; least = λ q f. two_least e q f }

pub none_told : (s : UnitScopes) (fs : List Callable) (path : Path) (kind : Kind) (t : ℕ) → look_at s path ≡ look.One t → function_named s fs path ≡ None → IsLeast (ResolverFault s fs path kind) (refusal rule.N1 path.at)
none_told s fs path kind t e f = record { is = no_function t e f; least = λ q g. none_least t e f q g }

pub so : {P : Type 0} (b : Bool) → (IsTrue b ↔ P) → b ≡ true → P
so b h e = h.0 e

pub not_so : {P : Type 0} (b : Bool) → (IsTrue b ↔ P) → b ≡ false → P → ⊥
not_so b h e p = true_false (h.1 p) e

pub named_is : (s : UnitScopes) (fs : List Callable) (path : Path) (l : Look) (o : Option Callable) → MeansAt s path l → o ≡ function_look s.whats fs l → function_named s fs path ≡ o
named_is s fs path l o m e = ap (function_look s.whats fs) (sym (found m)) ∙ sym e

pub look_is : (s : UnitScopes) (path : Path) (l k : Look) → MeansAt s path l → l ≡ k → look_at s path ≡ k
look_is s path l k m e = sym (found m) ∙ e

-- ---- a function that is found is one of them
some_back : {A : Type 0} {a b : A} → Some a ≡ Some b → a ≡ b
some_back e = cc

within_at : (fs : List Callable) (at : Place) (f : Callable) → All IsWithin fs → function_at fs at ≡ Some f → IsWithin f
within_at [] at f all e = absurd cc
within_at (g ∷ gs) at f all e = elim (cases_Bool (same_place g.item.at at)) [
  | inl t ↦ let same : Some g ≡ Some f = sym (ap (λ b. cond b (Some g) (function_at gs at)) t) ∙ e in subst IsWithin (some_back same) (All-head IsWithin g gs all)
  | inr n ↦ within_at gs at f (All-tail IsWithin g gs all) (sym (ap (λ b. cond b (Some g) (function_at gs at)) n) ∙ e)
]

within_what : (fs : List Callable) (w : Option What) (f : Callable) → All IsWithin fs → function_what fs w ≡ Some f → IsWithin f
within_what fs None f all e = absurd cc
within_what fs (Some (what.Type of dims)) f all e = absurd cc
within_what fs (Some (what.Constant path)) f all e = absurd cc
within_what fs (Some (what.Function at)) f all e = within_at fs at f all e
within_what fs (Some (what.Nettype at)) f all e = absurd cc
within_what fs (Some what.Other) f all e = absurd cc

pub within_look : (whats : List What) (fs : List Callable) (l : Look) (f : Callable) → All IsWithin fs → Some f ≡ function_look whats fs l → IsWithin f
within_look whats fs look.Unknown f all e = absurd cc
within_look whats fs (look.One t) f all e = within_what fs (slice_get whats t) f all (sym e)
within_look whats fs look.Ambiguous f all e = absurd cc

-- ---- results and arguments
equal_kinds : {x y : Kind} (kind : Kind) → x ≡ y → Equivalent (out-Kind x) (out-Kind kind) → Equivalent (out-Kind y) (out-Kind kind)
equal_kinds kind e q = subst (λ (z : Kind). Equivalent (out-Kind z) (out-Kind kind)) e q

returned : {f : Callable} {kind : Kind} (x : Kind) → f.result ≡ Some x → Returns f kind → Equivalent (out-Kind x) (out-Kind kind)
returned {kind = kind} x e (returns y g q) = equal_kinds kind (same_some g e) q

pub returns_told : (f : Callable) (kind x : Kind) (r : Bool) → f.result ≡ Some x → (IsTrue r ↔ Equivalent (out-Kind x) (out-Kind kind)) → IsTrue r ↔ Returns f kind
returns_told f kind x r e h = (λ t. returns x e (h.0 t), λ k. h.1 (returned x e k))

pub one_item : (xs : List Kind) (x : Kind) → 1 ≤ length xs → length xs < 2 → x ≡ get_or xs 0 x → xs ≡ x ∷ []
one_item [] x a b e = absurd (omega arith)
one_item (y ∷ []) x a b e = ap (λ (z : Kind). z ∷ []) (sym e)
one_item (y ∷ z ∷ zs) x a b e = absurd (omega arith)

only_item : {xs : List Kind} {x y : Kind} → xs ≡ x ∷ [] → xs ≡ y ∷ [] → x ≡ y
only_item e f = cc

taken : {f : Callable} {kind : Kind} (x : Kind) → f.args ≡ x ∷ [] → Takes f kind → Equivalent (out-Kind x) (out-Kind kind)
taken {kind = kind} x e (takes y m g q) = equal_kinds kind (only_item g e) q

pub takes_told : (f : Callable) (kind x : Kind) (r : Bool) → f.many ≡ true → f.args ≡ x ∷ [] → (IsTrue r ↔ Equivalent (out-Kind x) (out-Kind kind)) → IsTrue r ↔ Takes f kind
takes_told f kind x r m e h = (λ t. takes x m e (h.0 t), λ k. h.1 (taken x e k))
