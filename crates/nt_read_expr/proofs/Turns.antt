-- The loops of src/, which count their turns up.
use Rattle.std.proofs.Common.{◌≡◌, ℕ, suc, ◌+◌, ◌-◌, ◌<◌, ◌≤◌, Bool, true, false, if◌then◌else◌, List, [], ◌∷◌, ◌++◌, drop, Option, Some, None, refl, sym, ap, ◌∙◌, arith}
use Rattle.std.specs.Prelude.{nat_lt}
use Rattle.nt_value.specs.declared.place.Place.{Place}
use Rattle.nt_ast.specs.declared.expr.Key.{Key}
use Rattle.nt_ast.specs.declared.expr.Expr.{Expr}
use Rattle.nt_ast.specs.declared.expr.Expr.TheVariants as expr
use Rattle.nt_lexer.specs.declared.kinds.Mark.TheVariants as m
use Rattle.nt_read_expr.specs.Tables.{Tokens, start, is_member}
use Rattle.nt_read_expr.specs.Reader as r
use Rattle.nt_read_expr.proofs.Basics.{one_turn, no_turn, is_suc}
use Rattle.nt_read_expr.specs.Reader.{Readers, ◌>>=◌, either, is_at, expect, dotted, binary_first}

module _ (limit : ℕ) (rs : Readers) where
  select_then : (free : Bool) (f : ℕ) (place : Place) (x : Expr) (ts : Tokens)
      → r.selects limit rs free (suc f) place x ts ≡ (r.select limit rs free place x ts >>= λ p. if p.0 then r.selects limit rs free f place p.1 p.2 else Some (p.1, p.2))
  unfolding r.selects r.select
  select_then free f place x ts = by_bracket (is_at m.LeftBracket ts) (r.index limit rs place x (drop 1 ts)) (dotted (is_member free) ts)
    where
      by_bracket : (b : Bool) (i : Option (Expr × Tokens)) (n : Option (List ℕ))
          → (if b then (i >>= λ p. r.selects limit rs free f place p.0 p.1) else either n (Some (x, ts)) (λ name. r.selects limit rs free f place (expr.Member place x (start (drop 1 ts)) name) (drop 2 ts)))
          ≡ (let s : Option (Bool × Expr × Tokens) = if b then (i >>= λ p. Some (true, p.0, p.1)) else either n (Some (false, x, ts)) (λ name. Some (true, expr.Member place x (start (drop 1 ts)) name, drop 2 ts)) in
          s >>= λ p. if p.0 then r.selects limit rs free f place p.1 p.2 else Some (p.1, p.2))
      by_bracket true None n = refl
      by_bracket true (Some p) n = refl
      by_bracket false i None = refl
      by_bracket false i (Some name) = refl

  pub selects_turn : (free : Bool) (end at : ℕ) (place : Place) (x : Expr) (ts : Tokens) → at < end
      → r.selects limit rs free (end - at) place x ts
      ≡ (r.select limit rs free place x ts >>= λ p. if p.0 then r.selects limit rs free (end - (at + 1)) place p.1 p.2 else Some (p.1, p.2))
  selects_turn free end at place x ts lt = ap (λ f. r.selects limit rs free f place x ts) (one_turn end at lt) ∙ select_then free (end - (at + 1)) place x ts

  pub selects_end : (free : Bool) (end at : ℕ) (place : Place) (x : Expr) (ts : Tokens) → end ≤ at → r.selects limit rs free (end - at) place x ts ≡ None
  unfolding r.selects
  selects_end free end at place x ts le = ap (λ f. r.selects limit rs free f place x ts) (no_turn end at le)

  pub more_turn : (next : Tokens → r.Part) (h end at : ℕ) (place : Place) (x : Expr) (n : ℕ) (ts : Tokens) → at < end
      → r.more limit rs next h (end - at) place x n ts
      ≡ either (binary_first h ts) (Some (x, n, ts)) (λ op. next (drop 1 ts) >>= λ p.
      if nat_lt (n + p.1) limit then r.more limit rs next h (end - (at + 1)) place (expr.Binary place op x p.0) (n + p.1 + 1) p.2 else None)
  unfolding r.more
  more_turn next h end at place x n ts lt = ap (λ f. r.more limit rs next h f place x n ts) (one_turn end at lt)

  pub more_end : (next : Tokens → r.Part) (h end at : ℕ) (place : Place) (x : Expr) (n : ℕ) (ts : Tokens) → end ≤ at
      → r.more limit rs next h (end - at) place x n ts ≡ None
  unfolding r.more
  more_end next h end at place x n ts le = ap (λ f. r.more limit rs next h f place x n ts) (no_turn end at le)

  pub chain_zero : (h : ℕ) (ts : Tokens) → h ≡ 0 → r.chain limit rs h ts ≡ (r.operand limit rs ts >>= λ p. Some (p.0, 0, p.1))
  unfolding r.chain
  chain_zero h ts e = ap (λ h. r.chain limit rs h ts) e

  pub chain_suc : (h : ℕ) (ts : Tokens) → 0 < h
      → r.chain limit rs h ts ≡ (r.chain limit rs (h - 1) ts >>= λ p. r.more limit rs (r.chain limit rs (h - 1)) h (suc limit) (start ts) p.0 p.1 p.2)
  unfolding r.chain
  chain_suc h ts lt = ap (λ h. r.chain limit rs h ts) (is_suc h lt)
      ∙ ap (λ l. r.chain limit rs (h - 1) ts >>= λ p. r.more limit rs (r.chain limit rs (h - 1)) l (suc limit) (start ts) p.0 p.1 p.2) (sym (is_suc h lt))
