-- The text of slots, one more.
use Rattle.std.proofs.Common.{◌≡◌, ℕ, ◌+◌, List, [], ◌∷◌, ◌++◌, length, take, refl, sym, ◌∙◌, ap, subst, append-nil, append_assoc, Option, Some, None}
use Rattle.std.proofs.Math.Seq.{take-append_seam, take-append-add}
use Rattle.nt_io.specs.Sinks.{SinkMeaning, Gained}
use Rattle.nt_io.proofs.Gains.{gained_then}
use Rattle.nt_design.specs.declared.design.Design.{Design}
use Rattle.nt_design.specs.declared.object.Object.{Object}
use Rattle.nt_semantics.specs.Execution.{Observation}
use Rattle.nt_semantics.specs.Texts.{objects_of, slot_text, slots_text}
use Rattle.nt_runs.specs.declared.end.Seen.{Seen}
use Rattle.nt_runs.specs.Views.{observed}
use Rattle.nt_observe.specs.Ends.{last_seen, seen_before, Traced, TracedInPart}
use Rattle.nt_observe.specs.Shown.{text_of}

whole_text : (d : Design) (before : Option Observation) (o : Observation) → text_of d (objects_of d) before o ≡ slot_text d before o
whole_text d None o = refl
whole_text d (Some b) o = refl

one_more : (d : Design) (before : Option Observation) (slots : List Observation) (o : Observation) → slots_text d before (slots ++ o ∷ []) ≡ slots_text d before slots ++ slot_text d (last_seen before slots) o
one_more d before [] o = append-nil (slot_text d before o)
one_more d before (s ∷ slots) o = ap (λ l. slot_text d before s ++ l) (one_more d (Some s) slots o) ∙ sym (append_assoc (slot_text d before s) (slots_text d (Some s) slots) (slot_text d (last_seen (Some s) slots) o))

last_more : (before : Option Observation) (slots : List Observation) (o : Observation) → last_seen before (slots ++ o ∷ []) ≡ Some o
last_more before [] o = refl
last_more before (s ∷ slots) o = last_more (Some s) slots o

-- the text of the slot, where the trace has these slots
slot_is : (d : Design) (a b : SinkMeaning) (objects : List Object) (before : Option Seen) (slots : List Observation) (o : Observation) (text : List ℕ) → text ≡ text_of d objects (seen_before before) o → Traced d a b objects before slots → slots_text d None (slots ++ o ∷ []) ≡ slots_text d None slots ++ text
slot_is d a b objects before slots o text is t =
    one_more d None slots o ∙ ap (λ l. slots_text d None slots ++ l) (ap (λ m. slot_text d m o) (sym t.kept) ∙ sym (whole_text d (seen_before before) o) ∙ ap (λ os. text_of d os (seen_before before) o) (sym t.all) ∙ sym is)

pub not_begun : (d : Design) (a b : SinkMeaning) (objects : List Object) (before : Option Seen) (slots : List Observation) (o : Observation) → Traced d a b objects before slots → TracedInPart d a b (slots ++ o ∷ [])
not_begun d a b objects before slots o t =
    let e = one_more d None slots o in
    (length (slots_text d None slots), subst (λ (l : List ℕ). Gained a b l) (sym (ap (take (length (slots_text d None slots))) e ∙ take-append_seam (slots_text d None slots) (slot_text d (last_seen None slots) o))) t.gained)

pub cut_within : (d : Design) (a b c : SinkMeaning) (objects : List Object) (before : Option Seen) (slots : List Observation) (o : Observation) (text : List ℕ) (n : ℕ) → text ≡ text_of d objects (seen_before before) o → Gained b c (take n text) → Traced d a b objects before slots → TracedInPart d a c (slots ++ o ∷ [])
cut_within d a b c objects before slots o text n is more t = (
  length (slots_text d None slots) + n,
  subst (λ (l : List ℕ). Gained a c l)
      (sym (ap (take (length (slots_text d None slots) + n)) (slot_is d a b objects before slots o text is t) ∙ take-append-add (slots_text d None slots) text n))
      (gained_then t.gained more),
)

pub gone_out : (d : Design) (a b c : SinkMeaning) (objects : List Object) (before now : Option Seen) (slots : List Observation) (seen : Seen) (text : List ℕ) → text ≡ text_of d objects (seen_before before) (observed seen) → Gained b c text → now ≡ Some seen → Traced d a b objects before slots → Traced d a c objects now (slots ++ observed seen ∷ [])
gone_out d a b c objects before now slots seen text is more kept t = record {
  gained = subst (λ (l : List ℕ). Gained a c l) (sym (slot_is d a b objects before slots (observed seen) text is t)) (gained_then t.gained more);
  kept = ap seen_before kept ∙ sym (last_more None slots (observed seen));
  all = t.all;
}
