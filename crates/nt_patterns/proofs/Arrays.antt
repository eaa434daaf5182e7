-- The slots of an array.
use Rattle.std.proofs.Common.{◌≡◌, ℕ, List, Some, Option, Result, Ok, Err, IfOk, ap, sym, subst, ◌∙◌}
use Rattle.nt_kinds.specs.Kinds.{span}
use Rattle.nt_kinds.specs.declared.kind.Kind.{Kind}
use Rattle.nt_kinds.specs.declared.kind.Kind.TheOpen.{Kind-F}
use Rattle.nt_kinds.specs.declared.kind.Kind.TheVariants as k
use Rattle.nt_kinds.specs.declared.kind.Kind.TheViews.{out-Kind, roll-Kind, out-roll-Kind}
use Rattle.nt_typing.specs.Tables.{slots_of, plan_for}
use Rattle.nt_patterns.specs.Picks.{Items, PicksTo, PicksFor}
use Rattle.nt_patterns.proofs.Serving.{element_slots}
use denote.Hole.Carrier.{roll}

seen_array : (x : Kind) (l r : ℕ) (e : Kind) → x ≡ k.Array l r e → out-Kind x ≡ Kind-F.Array l r e
unfolding roll-Kind roll
seen_array x l r e h = ap out-Kind h ∙ out-roll-Kind (Kind-F.Array l r e)

pub array_picks : {A E : Type 0} (now : A → List ℕ) (items : Items) (x : Kind) (l r n : ℕ) (e : Kind) (res : Result (Option A) E) → x ≡ k.Array l r e → n ≡ span l r
    → IfOk res (λ o. (element : Kind) → PicksTo now items (element_slots n element) (plan_for (Some (element_slots n element)) items) o) → IfOk res (λ o. PicksFor now items (slots_of (out-Kind x)) o)
array_picks now items x l r n e (Ok o) h g f =
    subst (λ y. PicksFor now items (slots_of y) o) (sym (seen_array x l r e h))
    (subst (λ n. PicksTo now items (element_slots n e) (plan_for (Some (element_slots n e)) items) o) g (f e))
array_picks now items x l r n e (Err z) h g f = f
