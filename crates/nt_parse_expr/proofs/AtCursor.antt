-- A reader that is exact, at a cursor in a list of tokens.
use Rattle.std.proofs.Common.{◌≡◌, ℕ, ◌+◌, ◌-◌, ◌≤◌, ◌++◌, length, take, drop, append_assoc, length-append, length-drop, arith, Option, Some, None, refl, sym, ap, ◌∙◌, subst}
use Rattle.std.proofs.lemmas.List.{drop_at, take_at, take-append-drop, take_all}
use Rattle.nt_read_expr.specs.Tables.{Tokens}
use Rattle.nt_read_expr.specs.Reader.{Read}
use Rattle.nt_read_expr.proofs.Basics.{some_is}

-- The reader finds what D says, which is of a front of the tokens, and nothing else.
pub record Exact {X : Type 0} (read : Tokens → Read X) (D : Tokens → X → Tokens → Type 0) : Type 0 where
  pub sound : (ts after : Tokens) (x : X) → read ts ≡ Some (x, after) → D ts x after
  pub complete : (ts after : Tokens) (x : X) → D ts x after → read ts ≡ Some (x, after)
  pub front : (ts after : Tokens) (x : X) → D ts x after → Tokens
  pub split : (ts after : Tokens) (x : X) (d : D ts x after) → ts ≡ front ts after x d ++ after

pub tail_is : (at : ℕ) (slice tokens : Tokens) → slice ≡ tokens → take (length slice - at) (drop at slice) ≡ drop at tokens
tail_is at slice tokens e = take_all _ _ (omega (arith, length-drop at slice)) ∙ ap (drop at) e

module _ {X : Type 0} (read : Tokens → Read X) (D : Tokens → X → Tokens → Type 0) (E : Exact read D) where
  pub one_at_most : (ts a b : Tokens) (x y : X) → D ts x a → D ts y b → (x ≡ y) × (a ≡ b)
  one_at_most ts a b x y d g =
      let p : (x, a) ≡ (y, b) = some_is _ _ (sym (E.complete ts a x d) ∙ E.complete ts b y g) in
      (ap (λ q. q.0) p, ap (λ q. q.1) p)

  pub none_sound : (ts : Tokens) → read ts ≡ None → (x : X) (after : Tokens) → D ts x after → ⊥
  none_sound ts e x after d = let f = sym (E.complete ts after x d) ∙ e in cc

  pub fits : (at : ℕ) (tokens after : Tokens) (x : X) → D (drop at tokens) x after → length after ≤ length tokens
  fits at tokens after x d =
      let f : Tokens = E.front (drop at tokens) after x d in
      omega (arith, length-drop at tokens, ap length (E.split (drop at tokens) after x d), length-append f after)

  drops : (at : ℕ) (tokens after : Tokens) (x : X) → D (drop at tokens) x after → drop (length tokens - length after) tokens ≡ after
  drops at tokens after x d =
      let f : Tokens = E.front (drop at tokens) after x d in
      let all : tokens ≡ (take at tokens ++ f) ++ after =
      sym (take-append-drop at tokens) ∙ ap (λ l. take at tokens ++ l) (E.split (drop at tokens) after x d) ∙ sym (append_assoc (take at tokens) f after) in
      let long : length tokens ≡ length (take at tokens ++ f) + length after = ap length all ∙ length-append (take at tokens ++ f) after in
      ap (drop (length tokens - length after)) all ∙ drop_at (take at tokens ++ f) after (length tokens - length after) (omega arith)

  pub found_at : (at : ℕ) (slice tokens after : Tokens) (x : X) → slice ≡ tokens → read (take (length slice - at) (drop at slice)) ≡ Some (x, after)
      → D (drop at tokens) x after
  found_at at slice tokens after x e f = E.sound (drop at tokens) after x (ap read (sym (tail_is at slice tokens e)) ∙ f)

  pub moved : (at n : ℕ) (tokens after : Tokens) (x : X) → n ≡ length tokens → D (drop at tokens) x after
      → D (drop at tokens) x (drop (n - length after) tokens) × ((n - length after) + length (drop (n - length after) tokens) ≡ length tokens)
  moved at n tokens after x e d =
      let same : drop (n - length after) tokens ≡ after = ap (λ k. drop (k - length after) tokens) e ∙ drops at tokens after x d in
      let le : length after ≤ length tokens = fits at tokens after x d in
      (subst (λ l. D (drop at tokens) x l) (sym same) d, omega (arith, ap length same))

  -- what holds of the front that was derived holds of the tokens that the cursor was moved past
  pub taken_placed : (P : Tokens → X → Type 0) → ((ts after : Tokens) (x : X) (d : D ts x after) → P (E.front ts after x d) x)
      → (at n : ℕ) (tokens after : Tokens) (x : X) → n ≡ length tokens → D (drop at tokens) x after → P (take ((n - length after) - at) (drop at tokens)) x
  taken_placed P placed at n tokens after x e d =
      let f : Tokens = E.front (drop at tokens) after x d in
      let split : drop at tokens ≡ f ++ after = E.split (drop at tokens) after x d in
      let long : length (drop at tokens) ≡ length f + length after = ap length split ∙ length-append f after in
      let k = (n - length after) - at in
      let same : take k (drop at tokens) ≡ f = ap (take k) split ∙ take_at f after k (omega (arith, e, long, length-drop at tokens)) in
      subst (λ l. P l x) (sym same) (placed (drop at tokens) after x d)
