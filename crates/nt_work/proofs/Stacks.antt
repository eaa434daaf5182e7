-- A stack as a list whose first item is the top.
use Rattle.std.proofs.Common.{◌≡◌, List, [], ◌∷◌, ◌++◌, refl, ap, sym, ◌∙◌, append_assoc, drop, reverse}
use Rattle.std.specs.Prelude.{Bool, true, false}
use Rattle.std.proofs.lemmas.List.{reverse-append}
use Rattle.nt_semantics.specs.Statements.{after_break, after_continue, is_loop}
use Rattle.nt_semantics.specs.declared.work.Work.{Work}

pub top : (items init : List Work) (last : Work) → items ≡ init ++ last ∷ [] → reverse items ≡ last ∷ reverse init
top items init last is = ap (λ (l : List Work). reverse l) is ∙ reverse-append init (last ∷ [])

pub moved : (left items before init after whole : List Work) (last : Work) → left ++ reverse items ≡ whole → left ≡ init ++ last ∷ [] → after ≡ items ++ last ∷ [] → init ++ reverse after ≡ whole
moved left items before init after whole last so_far taken put =
    ap (λ (l : List Work). init ++ l) (top after items last put) ∙ (sym (append_assoc init (last ∷ []) (reverse items)) ∙ (ap (λ (l : List Work). l ++ reverse items) (sym taken) ∙ so_far))

pub popped_some : (items init : List Work) (last : Work) → items ≡ init ++ last ∷ [] → reverse init ≡ drop 1 (reverse items)
popped_some items init last is = rw (top items init last is) refl

pub popped_none : (items init : List Work) → items ≡ [] → init ≡ [] → reverse init ≡ drop 1 (reverse items)
popped_none items init is after = rw (is, after) refl

-- `break` gives up what `continue` does, and the loop
pub break_is : (items : List Work) → after_break items ≡ drop 1 (after_continue items)
break_is [] = refl
break_is (i ∷ items) = at (is_loop i) refl (break_is items)
  where
    at : (b : Bool) → is_loop i ≡ b → after_break items ≡ drop 1 (after_continue items) → after_break (i ∷ items) ≡ drop 1 (after_continue (i ∷ items))
    at true h below = rw h refl
    at false h below = rw h below

pub stops : (items init : List Work) (last : Work) → items ≡ init ++ last ∷ [] → is_loop last ≡ true → after_continue (reverse items) ≡ reverse items
stops items init last is loop = rw (top items init last is, loop) refl

pub passes : (items init : List Work) (last : Work) → items ≡ init ++ last ∷ [] → is_loop last ≡ false → after_continue (reverse items) ≡ after_continue (reverse init)
passes items init last is loop = rw (top items init last is, loop) refl
