-- The functions of the cases are those of a well-formed design.
use Rattle.std.proofs.Common.{◌≡◌, ◌≤◌, ◌+◌, ℕ, zero, suc, List, [], ◌∷◌, length, map, refl, ap, sym, subst, ◌∙◌, arith}
use Rattle.std.proofs.lemmas.List.Elements.{All-nil, All-cons, All-contains}
use Rattle.std.specs.Prelude.{All, Contains, Option, Some, None, get_or, slice_get}
use Rattle.nt_value.specs.Units.{IsUnit}
use Rattle.nt_value.specs.declared.place.Place.{Place}
use Rattle.nt_design.proofs.Shaped.{nothing_there, some_back}
use Rattle.nt_design.specs.Shapes.{Signature, signature_at}
use Rattle.nt_design.specs.WellFormed.{IsChain, IsDesign, IsFunction, IsObject, IsOwn, IsScoped, called_by, design_scope, function_calls, named_objects, signature_of}
use Rattle.nt_design.specs.declared.design.Design.{Design}
use Rattle.nt_design.specs.declared.design.Scoped.{Scoped}
use Rattle.nt_design.specs.declared.function.Function.{Function}
use Rattle.nt_design.specs.declared.object.Object.{Object}
use Rattle.nt_design.specs.declared.object.Object.TheVariants as object
use Rattle.nt_call_show.specs.Functions.{adder, endless, last, link, links, sum}
use Rattle.nt_call_show.proofs.Facts as facts
use Rattle.nt_call_show.proofs.Facts.{of_int, of_nothing}

-- ---- signatures
abbrev signs : ℕ → List (Option Signature)
signs zero = Some of_int ∷ Some of_nothing ∷ Some of_int ∷ None ∷ []
signs (suc n) = Some of_int ∷ signs n

two_heads : {A : Type 0} (x y : A) (xs ys : List A) → x ≡ y → xs ≡ ys → (x ∷ xs) ≡ (y ∷ ys)
two_heads x y xs ys h k = ap (λ z. z ∷ xs) h ∙ ap (λ zs. y ∷ zs) k

sign_at : (n i : ℕ) → i ≤ n → get_or (signs n) i None ≡ Some of_int
sign_at zero zero h = refl
sign_at (suc n) zero h = refl
sign_at zero (suc i) h = absurd (omega (arith, h))
sign_at (suc n) (suc i) h = sign_at n i (omega (arith, h))

module _ (name : List ℕ) (at : Place) where
  signs_are : (k n : ℕ) → map signature_of (links name at k n) ≡ signs n
  signs_are k zero =
      two_heads (signature_of (last name at)) (Some of_int) (map signature_of (endless name at ∷ sum name at ∷ adder name at ∷ [])) (Some of_nothing ∷ Some of_int ∷ None ∷ []) (facts.last_signed name at)
      (two_heads (signature_of (endless name at)) (Some of_nothing) (map signature_of (sum name at ∷ adder name at ∷ [])) (Some of_int ∷ None ∷ []) (facts.endless_signed name at)
      (two_heads (signature_of (sum name at)) (Some of_int) (None ∷ []) (None ∷ []) (facts.sum_signed name at) refl))
  signs_are k (suc n) = two_heads (signature_of (link name at (suc k))) (Some of_int) (map signature_of (links name at (suc k) n)) (signs n) (facts.link_signed name at (suc k)) (signs_are (suc k) n)

  -- ---- each function
  each :
      (P : Function → Type 0) → ((next : ℕ) → next ≤ 16 → P (link name at next)) →
      P (last name at) → P (endless name at) → P (sum name at) → P (adder name at) →
      (k n : ℕ) → k + n ≤ 16 → (f : ℕ) (function : Function) → slice_get (links name at k n) f ≡ Some function → P function
  each P p q r s t k zero le zero function h = subst P (some_back (last name at) function h) q
  each P p q r s t k zero le (suc zero) function h = subst P (some_back (endless name at) function h) r
  each P p q r s t k zero le (suc (suc zero)) function h = subst P (some_back (sum name at) function h) s
  each P p q r s t k zero le (suc (suc (suc zero))) function h = subst P (some_back (adder name at) function h) t
  each P p q r s t k zero le (suc (suc (suc (suc f)))) function h = nothing_there function h
  each P p q r s t k (suc n) le zero function h = subst P (some_back (link name at (suc k)) function h) (p (suc k) (omega (arith, le)))
  each P p q r s t k (suc n) le (suc f) function h = each P p q r s t (suc k) n (omega (arith, le)) f function h

  -- ---- calls
  no_calls : (calls : List ℕ) → calls ≡ [] → (g : ℕ) {B : Type 0} → Contains calls g → B
  no_calls calls e g h = absurd (let l = ap length e in omega (arith, h.1, l))

  calls_at : (k n f g : ℕ) → Contains (called_by (slice_get (links name at k n) f)) g → (g ≡ k + suc f) × (suc f ≤ n)
  calls_at k zero zero g h = no_calls (function_calls (last name at)) (facts.last_calls name at) g h
  calls_at k zero (suc zero) g h = no_calls (function_calls (endless name at)) (facts.endless_calls name at) g h
  calls_at k zero (suc (suc zero)) g h = no_calls (function_calls (sum name at)) (facts.sum_calls name at) g h
  calls_at k zero (suc (suc (suc zero))) g h = no_calls (function_calls (adder name at)) (facts.adder_calls name at) g h
  calls_at k zero (suc (suc (suc (suc f)))) g h = no_calls [] refl g h
  calls_at k (suc n) zero g h =
      let one : g ≡ suc k =
      All-contains (λ x. x ≡ suc k) (suc k ∷ []) g (All-cons (λ x. x ≡ suc k) (suc k) [] refl (All-nil (λ x. x ≡ suc k)))
      (subst (λ calls. Contains calls g) (facts.link_calls name at (suc k)) h) in
      (omega (arith, one), omega arith)
  calls_at k (suc n) (suc f) g h = let next = calls_at (suc k) n f g h in (omega (arith, next.0), omega (arith, next.1))

  -- a chain that begins with a call ends at the 17th function
  chain_ends : (d : Design) → d.functions ≡ links name at 0 16 → (f g : ℕ) (fs : List ℕ) → IsChain d (f ∷ g ∷ fs) → (g ≡ suc f) × (g + length fs ≤ 16)
  chain_ends d e f g [] h =
      let call = calls_at 0 16 f g (subst (λ functions. Contains (called_by (slice_get functions f)) g) e h.0) in
      (omega (arith, call.0), omega (arith, call.0, call.1))
  chain_ends d e f g (x ∷ fs) h =
      let call = calls_at 0 16 f g (subst (λ functions. Contains (called_by (slice_get functions f)) g) e h.0) in
      let next = chain_ends d e g x fs h.1 in
      (omega (arith, call.0), omega (arith, next.0, next.1))

  few_in_chain : (d : Design) → d.functions ≡ links name at 0 16 → (fs : List ℕ) → IsChain d fs → length fs ≤ 17
  few_in_chain d e [] h = omega arith
  few_in_chain d e (f ∷ []) h = omega arith
  few_in_chain d e (f ∷ g ∷ fs) h = let ends = chain_ends d e f g fs h in omega (arith, ends.0, ends.1)

  -- ---- the design
  signed : (d : Design) → d.functions ≡ links name at 0 16 → (i : ℕ) → i ≤ 16 → signature_at (design_scope d) i ≡ Some of_int
  signed d e i le = ap (λ functions. get_or (map signature_of functions) i None) e ∙ (ap (λ all. get_or all i None) (signs_are 0 16) ∙ sign_at 16 i le)

  all_functions : (d : Design) → d.functions ≡ links name at 0 16 → (f : ℕ) (function : Function) → slice_get d.functions f ≡ Some function → IsFunction (design_scope d) function
  all_functions d e f function h =
      each (IsFunction (design_scope d)) (λ next le. facts.link_is name at (design_scope d) next (signed d e next le))
      (facts.last_is name at (design_scope d)) (facts.endless_is name at (design_scope d)) (facts.sum_is name at (design_scope d))
      (facts.adder_is name at (design_scope d)) 0 16 (omega arith) f function (sym (ap (λ functions. slice_get functions f) e) ∙ h)

  pub all_own : (functions : List Function) → functions ≡ links name at 0 16 → (f : ℕ) (function : Function) → slice_get functions f ≡ Some function → IsOwn function
  all_own functions e f function h =
      each IsOwn (λ next le. facts.link_own name at next) (facts.last_own name at) (facts.endless_own name at) (facts.sum_own name at)
      (facts.adder_own name at) 0 16 (omega arith) f function (sym (ap (λ functions. slice_get functions f) e) ∙ h)

  none_at : {A B : Type 0} (xs : List A) → xs ≡ [] → (i : ℕ) (x : A) → slice_get xs i ≡ Some x → B
  none_at xs e i x h = nothing_there x (sym (ap (λ ys. slice_get ys i) e) ∙ h)

  no_object : (d : Design) → d.nets ≡ [] → d.vars ≡ [] → (o : Object) → IsObject d o → Contains (named_objects d) o
  no_object d n v (object.Net i) h = absurd (let l = ap length n in omega (arith, h, l))
  no_object d n v (object.Var i) h = absurd (let l = ap length v in omega (arith, h, l))

  pub whole :
      (d : Design) → d.nets ≡ [] → d.vars ≡ [] → d.procs ≡ [] → d.assigns ≡ [] → d.scopes ≡ [] → d.functions ≡ links name at 0 16 →
      IsUnit d.unit → IsDesign d
  whole d n v p a s e unit = record {
    nets = λ i net h. none_at d.nets n i net h;
    vars = λ i var h. none_at d.vars v i var h;
    procs = λ i proc h. none_at d.procs p i proc h;
    assigns = λ i assign h. none_at d.assigns a i assign h;
    functions = all_functions d e;
    writers = record {
      one_assign = λ x y z h k. none_at d.assigns a x h.0 h.1;
      no_write = λ x y z h k. none_at d.assigns a x h.0 h.1;
      one_writer = λ x y z h k l. none_at d.procs p x h.0 h.1;
    };
    scopes = subst (All (λ (s : Scoped). IsScoped d s.object)) (sym s) (All-nil (λ (s : Scoped). IsScoped d s.object));
    named = no_object d n v;
    small = record {
      nets = let l = ap length n in omega (arith, l);
      vars = let l = ap length v in omega (arith, l);
      processes = let l = ap length p in let m = ap length a in omega (arith, l, m);
      chains = few_in_chain d e;
    };
    unit = unit;
  }
