-- The nettype of a declaration, and its least fault.
use Rattle.std.proofs.Common.{◌≡◌, ℕ, List, refl, sym, ap, ◌∙◌, subst, inl, inr, arith}
use Rattle.std.specs.Prelude.{Option, Some, None, Result, Ok, Err}
use denote.Hole.Carrier.{roll}
use Rattle.nt_diag.specs.declared.refusal.Fault.{Fault as Failure}
use Rattle.nt_diag.specs.declared.refusal.Fault.TheVariants as failure
use Rattle.nt_scopes.specs.declared.scope.Look.{Look}
use Rattle.nt_ast.specs.declared.types.TypeTree.{TypeTree}
use Rattle.nt_ast.specs.declared.types.TypeTree.TheOpen.{TypeTree-F}
use Rattle.nt_ast.specs.declared.types.TypeTree.TheVariants as t
use Rattle.nt_value.specs.declared.place.Place.{Place}
use Rattle.nt_diag.specs.declared.rule.Rule.{Rule}
use Rattle.nt_diag.specs.declared.rule.Rule.TheVariants as rule
use Rattle.nt_diag.specs.declared.refusal.Refusal.{Refusal}
use Rattle.nt_diag.specs.Order.{rule_number, NoLater, IsLeast}
use Rattle.nt_ast.specs.declared.path.Path.{Path}
use Rattle.nt_ast.specs.declared.types.TypeTree.TheViews.{out-TypeTree, roll-TypeTree, out-roll-TypeTree}
use Rattle.nt_const.specs.Tables.{Known}
use Rattle.nt_items.specs.declared.item.NettypeItem.{NettypeItem}
use Rattle.nt_kinds.specs.declared.kind.Kind.{Kind}
use Rattle.nt_type_trees.specs.Types.{Types, TypeNode, type_place, IsKind}
use Rattle.nt_type_trees.specs.Faults.{TypeFault}
use Rattle.nt_type_trees.specs.Tells.{InOrder, Refuses, KindTells}
use Rattle.nt_type_trees.proofs.One.{one_type_holds}
use Rattle.nt_types.specs.Units.{UnitScopes, MeansAt}
use Rattle.nt_types.specs.Looks.{seen_at}
use Rattle.nt_types.proofs.Finding.{found}
use Rattle.nt_named_types.specs.Judged.{types_at}
use Rattle.nt_typing.specs.declared.scope.Callable.{Callable}
use Rattle.nt_nettype.specs.declared.nettype.Nettype.{Nettype}
use Rattle.nt_nettype.specs.declared.nettype.NettypeSeen.{NettypeSeen}
use Rattle.nt_nettype.specs.declared.nettype.NettypeSeen.TheVariants as seen
use Rattle.nt_nettype.specs.Resolvers.{refusal, IsResolver, ResolverFault}
use Rattle.nt_nettype.specs.Nettypes.{World, number_at, nettype_look, renamed, ChosenTells, RenamedTells, NettypeTells, IsKindIn, TypeFaultIn, Resolves, unresolved, resolved, IsNettype, of_type, another_name, NettypeFault, in_type, in_resolver, in_renamed, resolver_again, RefusesNettype, RenamedFault, faulty, again}
use Rattle.nt_nettype.proofs.Resolving.{one_resolver, resolver_faultless}

same_some : {A : Type 0} {o : Option A} {a b : A} → o ≡ Some a → o ≡ Some b → a ≡ b
same_some e f = cc

some_none : {A : Type 0} {o : Option A} {a : A} → o ≡ Some a → o ≡ None → ⊥
some_none e f = cc

known_faulty : {o : Option NettypeSeen} {n : Nettype} {r : Refusal} → o ≡ Some (seen.Known n) → o ≡ Some (seen.Faulty r) → ⊥
known_faulty e f = cc

same_known : {o : Option NettypeSeen} {n m : Nettype} → o ≡ Some (seen.Known n) → o ≡ Some (seen.Known m) → n ≡ m
same_known e f = cc

same_faulty : {o : Option NettypeSeen} {r q : Refusal} → o ≡ Some (seen.Faulty r) → o ≡ Some (seen.Faulty q) → r ≡ q
same_faulty e f = cc

one_kind : (w : World) (t : TypeNode) (x y : Kind) → IsKindIn w t x → IsKindIn w t y → x ≡ y
one_kind w t x y a b = one_type_holds.one (seen_at w.scopes w.known) (types_at w.scopes w.types) t x y a b

no_type_fault : (w : World) (t : TypeNode) (x : Kind) (r : Refusal) → IsKindIn w t x → TypeFaultIn w t r → ⊥
no_type_fault w t x r a b = one_type_holds.faultless (seen_at w.scopes w.known) (types_at w.scopes w.types) t x r a b

itself : (r : Refusal) → NoLater r r
itself r = inr (refl, inr (refl, omega arith))

-- ---- a nettype of its own
later_type : {w : World} {item : NettypeItem} {r : Refusal} → renamed w (out-TypeTree item.base) ≡ None → Refuses (seen_at w.scopes w.known) (types_at w.scopes w.types) (out-TypeTree item.base) r
    → InOrder (out-TypeTree item.base) → (q : Refusal) → NettypeFault w item q → NoLater r q
later_type e told o q (in_type r f g) = told.least o r g
later_type {w = w} {item = item} {r = r} e told o q (in_resolver kind path p f g h i) = absurd (no_type_fault w (out-TypeTree item.base) kind r g told.is)
later_type e told o q (in_renamed p f) = absurd (some_none f e)
later_type e told o q (resolver_again n path f g) = absurd (some_none f e)

pub type_refused : {w : World} {item : NettypeItem} {r : Refusal} → renamed w (out-TypeTree item.base) ≡ None → Refuses (seen_at w.scopes w.known) (types_at w.scopes w.types) (out-TypeTree item.base) r → RefusesNettype w item r
type_refused {r = r} e told = record { is = in_type r e told.is; least = λ o q f. later_type e told o q f }

later_resolver : {w : World} {item : NettypeItem} {r : Refusal} (kind : Kind) (path : Path) → renamed w (out-TypeTree item.base) ≡ None → IsKindIn w (out-TypeTree item.base) kind → item.resolver ≡ Some path
    → IsLeast (ResolverFault w.scopes w.functions path kind) r → (q : Refusal) → NettypeFault w item q → NoLater r q
later_resolver {w = w} {item = item} kind path e k is told q (in_type p f g) = absurd (no_type_fault w (out-TypeTree item.base) kind p k g)
later_resolver {w = w} {item = item} kind path e k is told q (in_resolver x y p f g h i) =
    told.least p (subst (λ (x : Kind). ResolverFault w.scopes w.functions path x p) (one_kind w (out-TypeTree item.base) _ _ g k) (subst (λ (y : Path). ResolverFault w.scopes w.functions y x p) (same_some h is) i))
later_resolver kind path e k is told q (in_renamed p f) = absurd (some_none f e)
later_resolver kind path e k is told q (resolver_again n y f g) = absurd (some_none f e)

pub resolver_refused : {w : World} {item : NettypeItem} {r : Refusal} (kind : Kind) (path : Path) → renamed w (out-TypeTree item.base) ≡ None → IsKindIn w (out-TypeTree item.base) kind → item.resolver ≡ Some path
    → IsLeast (ResolverFault w.scopes w.functions path kind) r → RefusesNettype w item r
resolver_refused {r = r} kind path e k is told = record { is = in_resolver kind path r e k is told.is; least = λ o q f. later_resolver kind path e k is told q f }

-- ---- another name
later_renamed : {w : World} {item : NettypeItem} {r : Refusal} → renamed w (out-TypeTree item.base) ≡ Some (seen.Faulty r) → (q : Refusal) → NettypeFault w item q → NoLater r q
later_renamed e q (in_type p f g) = absurd (some_none e f)
later_renamed e q (in_resolver kind path p f g h i) = absurd (some_none e f)
later_renamed {r = r} e q (in_renamed p f) = subst (λ (p : Refusal). NoLater r p) (same_faulty e f) (itself r)
later_renamed e q (resolver_again n path f g) = absurd (known_faulty f e)

later_again : {w : World} {item : NettypeItem} (n : Nettype) → renamed w (out-TypeTree item.base) ≡ Some (seen.Known n) → (q : Refusal) → NettypeFault w item q → NoLater (refusal rule.N7 (type_place (out-TypeTree item.base))) q
later_again n e q (in_type p f g) = absurd (some_none e f)
later_again n e q (in_resolver kind path p f g h i) = absurd (some_none e f)
later_again n e q (in_renamed p f) = absurd (known_faulty e f)
later_again {item = item} n e q (resolver_again m path f g) = itself (refusal rule.N7 (type_place (out-TypeTree item.base)))

renamed_by_fault : {w : World} {item : NettypeItem} {x : NettypeSeen} {r : Refusal} → renamed w (out-TypeTree item.base) ≡ Some x → RenamedFault item x r → RefusesNettype w item r
renamed_by_fault e (faulty r) = record { is = in_renamed r e; least = λ o q f. later_renamed e q f }
renamed_by_fault e (again n path is) = record { is = resolver_again n path e is; least = λ o q f. later_again n e q f }

-- ---- laws
one_choice : {s : UnitScopes} {fs : List Callable} {kind : Kind} {p : Option Path} {a b : Option ℕ} → Resolves s fs kind p a → Resolves s fs kind p b → a ≡ b
one_choice unresolved unresolved = refl
one_choice {s = s} {fs = fs} {kind = kind} (resolved path n x) (resolved q m y) = ap (λ (n : ℕ). Some n) (one_resolver s fs path kind n m x y)

pub one_nettype : (w : World) (item : NettypeItem) (a b : Nettype) → IsNettype w item a → IsNettype w item b → a ≡ b
one_nettype w item a b (of_type kind o e k r) (of_type kind2 o2 e2 k2 r2) =
    let same = one_kind w (out-TypeTree item.base) _ _ k k2 in
    let alike = one_choice (subst (λ (x : Kind). Resolves w.scopes w.functions x item.resolver o) same r) r2 in
    cc
one_nettype w item a b (of_type kind o e k r) (another_name n f g) = absurd (some_none f e)
one_nettype w item a b (another_name n f g) (of_type kind o e k r) = absurd (some_none f e)
one_nettype w item a b (another_name n f g) (another_name m h i) = same_known f h

chosen_faultless : (w : World) {kind : Kind} {p : Option Path} {o : Option ℕ} {path : Path} {r : Refusal} → Resolves w.scopes w.functions kind p o → p ≡ Some path → ResolverFault w.scopes w.functions path kind r → ⊥
chosen_faultless w unresolved e f = absurd cc
chosen_faultless w {kind = kind} {r = r} (resolved q n x) e f = resolver_faultless w.scopes w.functions q kind n r x (subst (λ (y : Path). ResolverFault w.scopes w.functions y kind r) (sym (same_some refl e)) f)

pub nettype_faultless : (w : World) (item : NettypeItem) (n : Nettype) (r : Refusal) → IsNettype w item n → NettypeFault w item r → ⊥
nettype_faultless w item n r (of_type kind o e k x) (in_type q f g) = no_type_fault w (out-TypeTree item.base) kind q k g
nettype_faultless w item n r (of_type kind o e k x) (in_resolver kind2 path q f g h i) =
    chosen_faultless w x h (subst (λ (y : Kind). ResolverFault w.scopes w.functions path y q) (one_kind w (out-TypeTree item.base) _ _ g k) i)
nettype_faultless w item n r (of_type kind o e k x) (in_renamed q f) = some_none f e
nettype_faultless w item n r (of_type kind o e k x) (resolver_again m path f g) = some_none f e
nettype_faultless w item n r (another_name m e f) (in_type q g h) = some_none e g
nettype_faultless w item n r (another_name m e f) (in_resolver kind path q g h i j) = some_none e g
nettype_faultless w item n r (another_name m e f) (in_renamed q g) = known_faulty e g
nettype_faultless w item n r (another_name m e f) (resolver_again k path g h) = some_none h f

-- ---- what the parts of the call answer
seen_named : (x : TypeTree) (at : Place) (path : Path) → x ≡ t.Named at path → out-TypeTree x ≡ TypeTree-F.Named at path
unfolding roll-TypeTree roll
seen_named x at path e = ap out-TypeTree e ∙ out-roll-TypeTree (TypeTree-F.Named at path)

pub renamed_is : (w : World) (x : TypeTree) (at : Place) (path : Path) (l : Look) (o : Option NettypeSeen) → x ≡ t.Named at path → MeansAt w.scopes path l → o ≡ nettype_look w.scopes.whats w.before l → o ≡ renamed w (out-TypeTree x)
renamed_is w x at path l o e m f = f ∙ ap (nettype_look w.scopes.whats w.before) (found m) ∙ sym (ap (renamed w) (seen_named x at path e))

pub again_told : (item : NettypeItem) (x : NettypeSeen) (n : Nettype) (path : Path) (f : Failure) (p : Place) (base : TypeTree) → x ≡ seen.Known n → item.resolver ≡ Some path → f ≡ failure.Refused (refusal rule.N7 p)
    → p ≡ type_place (out-TypeTree base) → base ≡ item.base → RenamedTells item x (Err f)
again_told item x n path f p base e g h i j =
    let r = refusal rule.N7 (type_place (out-TypeTree item.base)) in
    subst (λ (f : Failure). RenamedTells item x (Err f)) (sym (h ∙ ap (λ (p : Place). failure.Refused (refusal rule.N7 p)) (i ∙ ap (λ (b : TypeTree). type_place (out-TypeTree b)) j)))
    (subst (λ (x : NettypeSeen). RenamedFault item x r) (sym e) (again n path g))

pub type_told : (w : World) (item : NettypeItem) (base : TypeTree) (e : Failure) → base ≡ item.base → renamed w (out-TypeTree item.base) ≡ None
    → KindTells (seen_at w.scopes w.known) (types_at w.scopes w.types) (out-TypeTree base) (Err e) → NettypeTells w item (Err e)
type_told w item base (failure.Refused r) b none told = type_refused none (subst (λ (x : TypeTree). Refuses (seen_at w.scopes w.known) (types_at w.scopes w.types) (out-TypeTree x) r) b told)
type_told w item base (failure.OutOfMemory x) b none told = told

pub choice_told : (w : World) (item : NettypeItem) (kind : Kind) (e : Failure) → renamed w (out-TypeTree item.base) ≡ None → IsKindIn w (out-TypeTree item.base) kind
    → ChosenTells w.scopes w.functions item.resolver kind (Err e) → NettypeTells w item (Err e)
choice_told w item kind (failure.Refused r) none k told = resolver_refused kind told.0 none k told.1 told.2
choice_told w item kind (failure.OutOfMemory x) none k told = told

pub own_told : (w : World) (item : NettypeItem) (kind : Kind) (resolver : Option ℕ) (number : ℕ) → renamed w (out-TypeTree item.base) ≡ None → IsKindIn w (out-TypeTree item.base) kind
    → Resolves w.scopes w.functions kind item.resolver resolver → number ≡ number_at w.scopes.whats item.at → IsNettype w item (record { number = number; kind = kind; resolver = resolver })
own_told w item kind resolver number none k r e = subst (λ (n : ℕ). IsNettype w item (record { number = n; kind = kind; resolver = resolver })) (sym e) (of_type kind resolver none k r)

pub renamed_told : (w : World) (item : NettypeItem) (x : NettypeSeen) (res : Result Nettype Failure) → renamed w (out-TypeTree item.base) ≡ Some x → RenamedTells item x res → NettypeTells w item res
renamed_told w item x (Ok n) e told = another_name n (e ∙ ap (λ (y : NettypeSeen). Some y) told.0) told.1
renamed_told w item x (Err (failure.Refused r)) e told = renamed_by_fault e told
renamed_told w item x (Err (failure.OutOfMemory m)) e told = told

pub type_passed : (w : World) (item : NettypeItem) (base : TypeTree) (res : Result Nettype Failure) (e : Failure) → res ≡ Err e → base ≡ item.base → renamed w (out-TypeTree item.base) ≡ None
    → KindTells (seen_at w.scopes w.known) (types_at w.scopes w.types) (out-TypeTree base) (Err e) → NettypeTells w item res
type_passed w item base res e is b none told = subst (λ (r : Result Nettype Failure). NettypeTells w item r) (sym is) (type_told w item base e b none told)

pub choice_passed : (w : World) (item : NettypeItem) (kind : Kind) (res : Result Nettype Failure) (e : Failure) → res ≡ Err e → renamed w (out-TypeTree item.base) ≡ None → IsKindIn w (out-TypeTree item.base) kind
    → ChosenTells w.scopes w.functions item.resolver kind (Err e) → NettypeTells w item res
choice_passed w item kind res e is none k told = subst (λ (r : Result Nettype Failure). NettypeTells w item r) (sym is) (choice_told w item kind e none k told)
