-- A file has one list of tokens, or one first fault.
use Rattle.std.proofs.Common.{◌≡◌, ℕ, ◌+◌, ◌<◌, List, ◌++◌, length, refl, sym, ap, subst, ◌∙◌, arith}
use Rattle.nt_diag.specs.declared.refusal.Refusal.{Refusal}
use Rattle.nt_lexer.specs.Bytes.{Bytes}
use Rattle.nt_lexer.specs.Cuts.{place_at, Outcome, goes, stops, next, Lexes, done, on, Stuck, here, past}
use Rattle.nt_lexer.specs.declared.kinds.Head.{Head}
use Rattle.nt_lexer.specs.declared.kinds.Token.{Token}

-- the tokens of a file after what one piece does
abbrev Rest : ℕ → Bytes → ℕ → List Token → Head → Outcome → Type 0
Rest file bytes at us last (goes n after one) = (vs : List Token) × (us ≡ one ++ vs) × Lexes file bytes (at + n) after vs last
Rest file bytes at us last (stops rule n) = ⊥

rest_of : {file : ℕ} {bytes : Bytes} {at : ℕ} {head last : Head} {us : List Token} → Lexes file bytes at head us last → (o : Outcome) → at < length bytes
    → next file bytes at head ≡ o → Rest file bytes at us last o
rest_of (done e) o lt is = absurd (omega (arith, e, lt))
rest_of {file = file} {bytes = bytes} {at = at} {last = last} {us = us} (on {rest = rest} le some e l) o lt is =
    subst (λ q. Rest file bytes at us last q) (sym e ∙ is) (rest, refl, l)

-- the first fault after what one piece does
abbrev Fault : ℕ → Bytes → ℕ → Refusal → Outcome → Type 0
Fault file bytes at r (goes n after one) = Stuck file bytes (at + n) after r
Fault file bytes at r (stops rule n) = r ≡ record { rule = rule; place = place_at file bytes (at + n) }

fault_of : {file : ℕ} {bytes : Bytes} {at : ℕ} {head : Head} {r : Refusal} → Stuck file bytes at head r → (o : Outcome) → next file bytes at head ≡ o → Fault file bytes at r o
fault_of {file = file} {bytes = bytes} {at = at} {r = r} (here lt e) o is = subst (λ q. Fault file bytes at r q) (sym e ∙ is) refl
fault_of {file = file} {bytes = bytes} {at = at} {r = r} (past lt some e s) o is = subst (λ q. Fault file bytes at r q) (sym e ∙ is) s

pub lexes_one : {file : ℕ} {bytes : Bytes} {at : ℕ} {head one other : Head} {ts us : List Token} → Lexes file bytes at head ts one → Lexes file bytes at head us other
    → (ts ≡ us) × (one ≡ other)
lexes_one (done e) (done f) = (refl, refl)
lexes_one (done e) (on lt some f l) = absurd (omega (arith, e, lt))
lexes_one (on {n = n} {after = after} {one = one} lt some e l) b =
    let r = rest_of b (goes n after one) lt e in
    let i = lexes_one l r.2 in
    (ap (λ xs. one ++ xs) i.0 ∙ sym r.1, i.1)

pub stuck_one : {file : ℕ} {bytes : Bytes} {at : ℕ} {head : Head} {r q : Refusal} → Stuck file bytes at head r → Stuck file bytes at head q → r ≡ q
stuck_one (here {n = n} {rule = rule} lt e) b = sym (fault_of b (stops rule n) e)
stuck_one (past {n = n} {after = after} {one = one} lt some e s) b = stuck_one s (fault_of b (goes n after one) e)

pub stuck_none : {file : ℕ} {bytes : Bytes} {at : ℕ} {head last : Head} {r : Refusal} {ts : List Token} → Stuck file bytes at head r → Lexes file bytes at head ts last → ⊥
stuck_none (here {n = n} {rule = rule} lt e) b = rest_of b (stops rule n) lt e
stuck_none (past {n = n} {after = after} {one = one} lt some e s) b = stuck_none s (rest_of b (goes n after one) lt e).2
