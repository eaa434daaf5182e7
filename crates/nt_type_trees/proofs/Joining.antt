-- Answers of parts, and the answer of the whole.
use Rattle.std.proofs.Common.{◌≡◌, ℕ, ◌⊎◌, Bool, true, false, refl, sym, subst, inl, inr}
use Rattle.std.specs.Prelude.{Some, None, Result, Ok, Err, if◌then◌else◌}
use Rattle.nt_value.specs.Digits.{LeafValue}
use Rattle.nt_value.specs.declared.place.Place.{Place}
use Rattle.nt_diag.specs.declared.refusal.Refusal.{Refusal}
use Rattle.nt_diag.specs.declared.rule.Rule.TheVariants as rule
use Rattle.nt_diag.specs.Order.{NoLater, IsLeastOf, is_no_later, earlier}
use Rattle.nt_diag.proofs.Least.{Best, best_join, least_one}
use Rattle.nt_ast.specs.declared.expr.Expr.{Expr}
use Rattle.nt_ast.specs.declared.expr.Expr.TheViews.{out-Expr}
use Rattle.nt_ast.specs.Places.{place_of}
use Rattle.nt_const.specs.Tables.{Counts, count_of}
use Rattle.nt_const.specs.Rules.{Names}
use Rattle.nt_const.specs.Tells.{Means, RefusesWhole, refusal}
use Rattle.nt_const.proofs.Faults.{no_faulty}
use Rattle.nt_type_trees.specs.Types.{IsBound}
use Rattle.nt_type_trees.specs.Faults.{BoundFault, in_value, no_count}
use Rattle.nt_type_trees.specs.Answers.{Told, gives, refuses, first_of, both_of, ExprInOrder, TellsBound}
use Rattle.nt_type_trees.proofs.One.{no_bound}

-- ---- the first of two faults
first_at : (b : Bool) (r s : Refusal) → (if b then Some r else Some s) ≡ Some (if b then r else s)
first_at true r s = refl
first_at false r s = refl

earlier_first : (r s : Refusal) → earlier (Some r) (Some s) ≡ Some (first_of r s)
earlier_first r s = first_at (is_no_later r s) r s

either_at : (b : Bool) (F G : Refusal → Type 0) (r s : Refusal) → F r → G s → F (if b then r else s) ⊎ G (if b then r else s)
either_at true F G r s f g = inl f
either_at false F G r s f g = inr g

best_of : (F : Refusal → Type 0) (r : Refusal) → F r → ((s : Refusal) → F s → NoLater r s) → Best F (Some r)
best_of F r is least = record { best = record { is = is; least = least } }

first_least : (F G : Refusal → Type 0) (r s : Refusal) → F r → ((t : Refusal) → F t → NoLater r t) → G s → ((t : Refusal) → G t → NoLater s t) → (t : Refusal) → F t ⊎ G t → NoLater (first_of r s) t
first_least F G r s f fl g gl =
    (subst (λ o. IsLeastOf (λ t. F t ⊎ G t) o) (earlier_first r s) (best_join (best_of F r f fl) (best_of G s g gl)).best).least

either : {F G : Refusal → Type 0} → ((r : Refusal) → F r → ⊥) → ((r : Refusal) → G r → ⊥) → (r : Refusal) → F r ⊎ G r → ⊥
either f g r (inl x) = f r x
either f g r (inr y) = g r y

pub told_both : {A B P Q : Type 0} {G : A → Type 0} {H : B → Type 0} {F E : Refusal → Type 0} {a : Result A Refusal} {b : Result B Refusal}
    → Told P G F a → Told Q H E b → Told (P × Q) (λ p. G p.0 × H p.1) (λ r. F r ⊎ E r) (both_of a b)
told_both (gives a ga na) (gives b hb nb) = gives (a, b) (ga, hb) (either na nb)
told_both (gives a ga na) (refuses s e l) = refuses s (inr e) (λ p t h. elim h [ inl x ↦ absurd (na t x) | inr y ↦ l p.1 t y ])
told_both (refuses r f l) (gives b hb nb) = refuses r (inl f) (λ p t h. elim h [ inl x ↦ l p.0 t x | inr y ↦ absurd (nb t y) ])
told_both {F = F} {E = E} (refuses r f l) (refuses s e m) =
    refuses (first_of r s) (either_at (is_no_later r s) F E r s f e) (λ p. first_least F E r s f (l p.0) e (m p.1))

-- ---- another wording
pub told_as : {A P Q : Type 0} {G H : A → Type 0} {F E : Refusal → Type 0} {a : Result A Refusal}
    → Told P G F a → (Q → P) → ((a : A) → G a → H a) → ((r : Refusal) → F r → E r) → ((r : Refusal) → E r → F r) → Told Q H E a
told_as (gives a g n) p h to from = gives a (h a g) (λ r e. n r (from r e))
told_as (refuses r f l) p h to from = refuses r (to r f) (λ q s e. l (p q) s (from s e))

-- a value that is made of it, and what is wrong with the whole alone
pub told_ok : {A P : Type 0} {G : A → Type 0} {F : Refusal → Type 0} {r : Result A Refusal} (a : A) → r ≡ Ok a → G a → ((s : Refusal) → F s → ⊥) → Told P G F r
told_ok {P = P} {G = G} {F = F} a e g n = subst (λ r. Told P G F r) (sym e) (gives a g n)

pub told_err : {A P : Type 0} {G : A → Type 0} {F : Refusal → Type 0} {r : Result A Refusal} (x : Refusal) → r ≡ Err x → F x → (P → (s : Refusal) → F s → NoLater x s) → Told P G F r
told_err {P = P} {G = G} {F = F} x e f l = subst (λ r. Told P G F r) (sym e) (refuses x f l)

value_at : {A P : Type 0} {G : A → Type 0} {F : Refusal → Type 0} {a : A} → Told P G F (Ok a) → G a
value_at (gives a g n) = g

pub told_value : {A P : Type 0} {G : A → Type 0} {F : Refusal → Type 0} {r : Result A Refusal} (a : A) → r ≡ Ok a → Told P G F r → G a
told_value {P = P} {G = G} {F = F} a e t = value_at (subst (λ r. Told P G F r) e t)

pub record Refused (P : Type 0) (F : Refusal → Type 0) (x : Refusal) : Type 0 where
  pub is : F x
  pub least : P → (s : Refusal) → F s → NoLater x s

refused_at : {A P : Type 0} {G : A → Type 0} {F : Refusal → Type 0} {x : Refusal} → Told P G F (Err x) → Refused P F x
refused_at (refuses x f l) = record { is = f; least = l }

pub told_refusal : {A P : Type 0} {G : A → Type 0} {F : Refusal → Type 0} {r : Result A Refusal} (x : Refusal) → r ≡ Err x → Told P G F r → Refused P F x
told_refusal {P = P} {G = G} {F = F} x e t = refused_at (subst (λ r. Told P G F r) e t)

-- the only fault is told
pub only_fault : (F : Refusal → Type 0) (x : Refusal) → F x → ((s : Refusal) → F s → s ≡ x) → (s : Refusal) → F s → NoLater x s
only_fault F x is one s f = (least_one F x is one).least s f

-- ---- bounds
pub bound_given : (k : Names) (x : Expr) (v : LeafValue) (n : ℕ) → Means k (out-Expr x) None v → Counts v → n ≡ count_of v → TellsBound k x (Ok n)
bound_given k x v n m c e = let b : IsBound k x n = record { value = v; means = m; counts = c; is = e } in gives n b (λ r f. no_bound f b)

no_count_first : (k : Names) (x : Expr) (v : LeafValue) → Means k (out-Expr x) None v → (s : Refusal) → BoundFault k x s → s ≡ refusal rule.T3 (place_of (out-Expr x))
no_count_first k x v m s (in_value r f) = absurd (no_faulty m.alone f)
no_count_first k x v m s (no_count n c) = refl

pub bound_uncounted : (k : Names) (x : Expr) (v : LeafValue) (p : Place) → Means k (out-Expr x) None v → (Counts v → ⊥) → p ≡ place_of (out-Expr x) → TellsBound k x (Err (refusal rule.T3 p))
bound_uncounted k x v p m c e =
    subst (λ p. TellsBound k x (Err (refusal rule.T3 p))) (sym e)
    (refuses _ (no_count m c) (λ o s f. only_fault (BoundFault k x) _ (no_count m c) (no_count_first k x v m) s f))

refused_least : (k : Names) (x : Expr) (r : Refusal) → RefusesWhole k (out-Expr x) r → ExprInOrder x → (s : Refusal) → BoundFault k x s → NoLater r s
refused_least k x r w o s (in_value t f) = w.least o.file o.first o.end o.placed s.rule s.place f
refused_least k x r w o s (no_count m c) = absurd (no_faulty m.alone w.is)

pub bound_refused : (k : Names) (x : Expr) (r : Refusal) → RefusesWhole k (out-Expr x) r → TellsBound k x (Err r)
bound_refused k x r w = refuses r (in_value r w.is) (refused_least k x r w)
