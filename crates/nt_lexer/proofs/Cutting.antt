-- One piece more.
use Rattle.std.proofs.Common.{◌≡◌, ℕ, ◌+◌, ◌-◌, ◌<◌, ◌≤◌, Bool, true, false, nat_lt, List, [], ◌∷◌, ◌++◌, length, take, drop, Ok, Err, refl, sym, ap, subst, ◌∙◌, append_assoc, arith, length-drop}
use Rattle.std.proofs.lemmas.List.{take_all}
use Rattle.std.proofs.lemmas.Bool.{ltb-true}
use Rattle.std.proofs.Math.Seq.{take-add}
use Rattle.nt_value.specs.declared.place.Place.{Place}
use Rattle.nt_diag.specs.declared.rule.Rule.TheVariants.{X7}
use Rattle.nt_diag.specs.declared.refusal.Refusal.{Refusal}
use Rattle.nt_diag.specs.declared.refusal.Fault.{Fault}
use Rattle.nt_diag.specs.declared.refusal.Fault.TheVariants as fault
use Rattle.nt_lexer.specs.Bytes.{Bytes}
use Rattle.nt_lexer.specs.Pieces.{piece}
use Rattle.nt_lexer.specs.Cuts.{place_after, place_at, Outcome, goes, stops, outcome, next, Lexes, done, on, Stuck, here, past, Cuts}
use Rattle.nt_lexer.specs.Steps.{Steps}
use Rattle.nt_lexer.proofs.Places.{moved_none}
use Rattle.nt_lexer.specs.declared.kinds.Head.{Head}
use Rattle.nt_lexer.specs.declared.kinds.Piece.TheVariants as p
use Rattle.nt_lexer.specs.declared.kinds.TokenKind.{TokenKind}
use Rattle.nt_lexer.specs.declared.kinds.TokenKind.TheVariants as k
use Rattle.nt_lexer.specs.declared.kinds.Token.{Token}

not_less : (m n : ℕ) → n ≤ m → nat_lt m n ≡ false
not_less m n le = by (nat_lt m n) refl
  where
    by : (t : Bool) → nat_lt m n ≡ t → t ≡ false
    by true e = absurd (omega (arith, ltb-true m n e))
    by false e = refl

pub many : (head : Head) (at : Place) (n : ℕ) (kind : TokenKind) → 1000000 ≤ head.count → outcome head at (p.Take n kind) ≡ stops X7 0
unfolding outcome
many head at n kind le = rw (not_less head.count 1000000 le) refl

pub many_steps : (text : Bytes) (at : Place) (head : Head) (found : List Token) (f : Fault) (len : ℕ) (kind : TokenKind)
    → f ≡ fault.Refused (record { rule = X7; place = at }) → 1000000 ≤ head.count → piece text ≡ p.Take len kind → Steps text at head found (Err f) head found
many_steps text at head found f len kind is le e =
    subst (λ f. Steps text at head found (Err f) head found) (sym is) (0, ap (outcome head at) e ∙ many head at len kind le, omega arith, moved_none at text)

-- the part of the bytes from an offset on, as the code has it
abbrev pub tail : Bytes → ℕ → Bytes
tail bytes at = take (length bytes - at) (drop at bytes)

tail_is : (bytes : Bytes) (at : ℕ) → tail bytes at ≡ drop at bytes
tail_is bytes at = take_all (length bytes - at) (drop at bytes) (omega (arith, length-drop at bytes))

pub fits_here : (bytes : Bytes) (at n : ℕ) → at < length bytes → n ≤ length (tail bytes at) → at + n ≤ length bytes
fits_here bytes at n lt le = omega (arith, le, ap length (tail_is bytes at), length-drop at bytes)

-- the place after a piece
pub place_next : (file : ℕ) (bytes : Bytes) (at n : ℕ) → place_after file (take at bytes ++ take n (tail bytes at)) ≡ place_at file bytes (at + n)
place_next file bytes at n = ap (λ t. place_after file (take at bytes ++ take n t)) (tail_is bytes at) ∙ ap (place_after file) (sym (take-add at n bytes))

module _ (file : ℕ) (bytes : Bytes) (at : ℕ) (old head : Head) (place : Place) (found : List Token) (lt : at < length bytes) (there : place ≡ place_at file bytes at) where
  next_is : (o : Outcome) → outcome head place (piece (tail bytes at)) ≡ o → next file bytes at head ≡ o
  next_is o e = ap (λ t. outcome head (place_at file bytes at) (piece t)) (sym (tail_is bytes at)) ∙ ap (λ q. outcome head q (piece (tail bytes at))) (sym there) ∙ e

  pub next_lexes : (n : ℕ) (after : Head) (new : List Token) → Steps (tail bytes at) place head found (Ok n) after new
      → ((ts : List Token) (last : Head) → Lexes file bytes at head ts last → Lexes file bytes 0 old (found ++ ts) last)
      → (ts : List Token) (last : Head) → Lexes file bytes (at + n) after ts last → Lexes file bytes 0 old (new ++ ts) last
  next_lexes n after new s go ts last l =
      subst (λ xs. Lexes file bytes 0 old xs last) (sym (ap (λ xs. xs ++ ts) s.2 ∙ append_assoc found s.0 ts))
      (go (s.0 ++ ts) last (on lt s.3 (next_is (goes n after s.0) s.1) l))

  pub next_stuck : (n : ℕ) (after : Head) (new : List Token) → Steps (tail bytes at) place head found (Ok n) after new
      → ((refusal : Refusal) → Stuck file bytes at head refusal → Stuck file bytes 0 old refusal)
      → (refusal : Refusal) → Stuck file bytes (at + n) after refusal → Stuck file bytes 0 old refusal
  next_stuck n after new s go refusal l = go refusal (past lt s.3 (next_is (goes n after s.0) s.1) l)

  pub fails_here : (f : Fault) (after : Head) (new : List Token) → Steps (tail bytes at) place head found (Err f) after new
      → ((refusal : Refusal) → Stuck file bytes at head refusal → Stuck file bytes 0 old refusal) → Cuts file bytes old (Err f) old
  fails_here (fault.OutOfMemory e) after new s go = refl
  fails_here (fault.Refused refusal) after new s go =
      let same : refusal.place ≡ place_at file bytes (at + s.0) = s.3 file (take at bytes) there ∙ place_next file bytes at s.0 in
      (go refusal (subst (λ q. Stuck file bytes at head (record { rule = refusal.rule; place = q })) (sym same) (here lt (next_is (stops refusal.rule s.0) s.1))), refl)

pub ends_here : (file : ℕ) (bytes : Bytes) (at : ℕ) (old head : Head) (place : Place) (found new : List Token) → at ≤ length bytes → length bytes ≤ at → place ≡ place_at file bytes at
    → new ≡ found ++ record { kind = k.End; at = place } ∷ []
    → ((ts : List Token) (last : Head) → Lexes file bytes at head ts last → Lexes file bytes 0 old (found ++ ts) last) → Lexes file bytes 0 old new head
ends_here file bytes at old head place found new le ge there is go =
    let same : at ≡ length bytes = omega arith in
    let last : Lexes file bytes at head (record { kind = k.End; at = place_at file bytes at } ∷ []) head =
    subst (λ i. Lexes file bytes at head (record { kind = k.End; at = place_at file bytes i } ∷ []) head) (sym same) (done same) in
    subst (λ xs. Lexes file bytes 0 old xs head) (sym is) (go (record { kind = k.End; at = place } ∷ []) head (subst (λ q. Lexes file bytes at head (record { kind = k.End; at = q } ∷ []) head) (sym there) last))

pub starts_here : (file : ℕ) (bytes : Bytes) (old : Head) (found : List Token) → found ≡ [] → (ts : List Token) (last : Head) → Lexes file bytes 0 old ts last → Lexes file bytes 0 old (found ++ ts) last
starts_here file bytes old found is ts last l = subst (λ xs. Lexes file bytes 0 old (xs ++ ts) last) (sym is) l
