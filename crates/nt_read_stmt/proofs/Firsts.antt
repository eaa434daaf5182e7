-- The first tokens of expressions and statements.
use Rattle.std.proofs.Common.{◌≡◌, ℕ, Bool, true, false, List, ◌∷◌, ◌++◌, Some, None, refl, sym, ap, ◌∙◌}
use denote.Enum.Bare.{same_true, true_same}
use Rattle.nt_value.specs.declared.operator.Unary.{Unary}
use Rattle.nt_ast.specs.declared.path.Path.{Path}
use Rattle.nt_ast.specs.declared.expr.Expr.{Expr}
use Rattle.nt_ast.specs.declared.stmt.Stmt.{Stmt}
use Rattle.nt_lexer.specs.contracts.kinds.Word.{the_type}
use Rattle.nt_lexer.specs.declared.kinds.Mark.{Mark}
use Rattle.nt_lexer.specs.declared.kinds.Mark.TheVariants as m
use Rattle.nt_lexer.specs.declared.kinds.Word.{Word}
use Rattle.nt_lexer.specs.declared.kinds.Word.TheVariants as w
use Rattle.nt_lexer.specs.declared.kinds.TokenKind.{TokenKind}
use Rattle.nt_lexer.specs.declared.kinds.TokenKind.TheVariants as k
use Rattle.nt_lexer.specs.declared.kinds.Token.{Token}
use Rattle.nt_read_stmt.specs.declared.lead.Lead.{Lead}
use Rattle.nt_read_stmt.specs.declared.front.Form.TheVariants as form
use Rattle.nt_read_expr.specs.Tables.{Tokens, unary_of, start}
use Rattle.nt_read_stmt.specs.Tables.{edge_of, form_of}
use Rattle.nt_read_expr.specs.Derivation.{Reference, alone, scoped, Expression, plain, choose, Chain, single, tighter, joined, Operand, literal, left, size, size_call, bracketed, prefixed, concat, repetition, pattern_of, call, call_none, now, signed, Left, named, selected, Several, several}
use Rattle.nt_read_stmt.specs.Statements.{Simple, null, assign, nonblocking, called, called_none, return_none, return_of, break, continue, display_none, display_empty, display_of, finish_none, finish_empty, finish_of, Leads, while_of, repeat_of, wait_of, forever_of, foreach_of, for_of, delay_number, delay_name, delay_of, event_name, event_of, event_any, event_any_in, Statement, simple, block, led, if_only, if_else, case_of}
use Rattle.nt_read_expr.specs.Reader.{first, is_kind, is_at, is_some}
use Rattle.nt_read_stmt.specs.Reader.{same_word, is_word_kind, is_word, expect_word}
use Rattle.nt_read_expr.proofs.Follows.{kind_is, false_of}

-- ---- words

pub same_words : (a b : Word) → same_word a b ≡ true → a ≡ b
same_words a b e = same_true the_type tt a b e

pub word_is : (w : Word) (x : TokenKind) → is_word_kind w x ≡ true → x ≡ k.Word w
word_is w (k.Word n) e = ap k.Word (same_words n w e)
word_is w (k.Mark n) e = absurd cc
word_is w (k.Name n) e = absurd cc
word_is w (k.System n) e = absurd cc
word_is w (k.Number n) e = absurd cc
word_is w (k.Text n) e = absurd cc
word_is w k.End e = absurd cc

pub at_word : (w : Word) (t : Token) (ts : Tokens) → t.kind ≡ k.Word w → is_word w (t ∷ ts) ≡ true
unfolding is_word
at_word w t ts e = ap (is_word_kind w) e ∙ true_same the_type w w refl

pub other_word : (w n : Word) (t : Token) (ts : Tokens) → t.kind ≡ k.Word n → same_word n w ≡ false → is_word w (t ∷ ts) ≡ false
unfolding is_word
other_word w n t ts e differs = ap (is_word_kind w) e ∙ differs

-- a mark is no word, nor a name
pub mark_no_word : (w : Word) (mark : Mark) (t : Token) (ts : Tokens) → t.kind ≡ k.Mark mark → is_word w (t ∷ ts) ≡ false
unfolding is_word
mark_no_word w mark t ts e = ap (is_word_kind w) e

pub name_no_word : (w : Word) (name : List ℕ) (t : Token) (ts : Tokens) → t.kind ≡ k.Name name → is_word w (t ∷ ts) ≡ false
unfolding is_word
name_no_word w name t ts e = ap (is_word_kind w) e

pub word_no_mark : (mark : Mark) (w : Word) (t : Token) (ts : Tokens) → t.kind ≡ k.Word w → is_at mark (t ∷ ts) ≡ false
unfolding is_at
word_no_mark mark w t ts e = ap (is_kind mark) e

pub expect_at : (w : Word) (t : Token) (ts : Tokens) → t.kind ≡ k.Word w → expect_word w (t ∷ ts) ≡ Some ts
unfolding expect_word
expect_at w t ts e = rw (at_word w t ts e) refl

-- ---- first tokens

-- of the first token the function gives this
pub record Opens {A : Type 0} (f : TokenKind → A) (a : A) (ts : Tokens) : Type 0 where
  pub token : Token
  pub others : Tokens
  pub is : ts ≡ token ∷ others
  pub fits : f token.kind ≡ a

pub opens_by : {A : Type 0} (f : TokenKind → A) (a : A) (t : Token) (ts : Tokens) (x : TokenKind) → t.kind ≡ x → f x ≡ a → Opens f a (t ∷ ts)
opens_by f a t ts x e g = record { token = t; others = ts; is = refl; fits = ap f e ∙ g }

pub opens_append : {A : Type 0} {f : TokenKind → A} {a : A} {ts : Tokens} → Opens f a ts → (us : Tokens) → Opens f a (ts ++ us)
opens_append o us = record { token = o.token; others = o.others ++ us; is = ap (λ l. l ++ us) o.is; fits = o.fits }

pub opens_first : {A : Type 0} {f : TokenKind → A} {a : A} {ts : Tokens} → Opens f a ts → (us : Tokens) → f (first (ts ++ us)) ≡ a
opens_first {f = f} o us = ap (λ l. f (first (l ++ us))) o.is ∙ o.fits

pub opens_start : {A : Type 0} {f : TokenKind → A} {a : A} {ts : Tokens} → Opens f a ts → (us : Tokens) → start (ts ++ us) ≡ start ts
opens_start o us = ap (λ l. start (l ++ us)) o.is ∙ sym (ap start o.is)

pub no_mark : (test : TokenKind → Bool) (mark : Mark) {ts : Tokens} → test (k.Mark mark) ≡ false → Opens test true ts → (us : Tokens) → is_at mark (ts ++ us) ≡ false
unfolding is_at
no_mark test mark {ts} lacks o us =
    ap (λ l. is_kind mark (first (l ++ us))) o.is
    ∙ false_of (is_kind mark o.token.kind) (λ e. let bad : true ≡ false = sym o.fits ∙ ap test (kind_is mark o.token.kind e) ∙ lacks in absurd cc)

pub no_word : (test : TokenKind → Bool) (w : Word) {ts : Tokens} → test (k.Word w) ≡ false → Opens test true ts → (us : Tokens) → is_word w (ts ++ us) ≡ false
unfolding is_word
no_word test w {ts} lacks o us =
    ap (λ l. is_word_kind w (first (l ++ us))) o.is
    ∙ false_of (is_word_kind w o.token.kind) (λ e. let bad : true ≡ false = sym o.fits ∙ ap test (word_is w o.token.kind e) ∙ lacks in absurd cc)

-- ---- expressions

abbrev pub opens_mark : Mark → Bool
opens_mark m.LeftParen = true
opens_mark m.LeftBrace = true
opens_mark m.TickBrace = true
opens_mark mark = is_some (unary_of mark)

-- what an expression may begin with
abbrev pub opens_expression : TokenKind → Bool
opens_expression (k.Number v) = true
opens_expression (k.Name name) = true
opens_expression (k.System name) = true
opens_expression (k.Mark mark) = opens_mark mark
opens_expression _ = false

prefix_opens : (mark : Mark) (op : Unary) → unary_of mark ≡ Some op → opens_mark mark ≡ true
prefix_opens m.LeftParen op e = refl
prefix_opens m.LeftBrace op e = refl
prefix_opens m.TickBrace op e = refl
prefix_opens mark op e = ap is_some e

pub reference_opens : {A : Type 0} (f : TokenKind → A) (a : A) {ts : Tokens} {path : Path} → ((name : List ℕ) → f (k.Name name) ≡ a) → Reference ts path → Opens f a ts
reference_opens f a by (alone t e) = opens_by f a t _ _ e (by _)
reference_opens f a by (scoped p q t ep eq et) = opens_by f a p _ _ ep (by _)

module _ (limit : ℕ) where
  pub left_opens : {A : Type 0} (f : TokenKind → A) (a : A) {d n : ℕ} {free : Bool} {ts : Tokens} {x : Expr} → ((name : List ℕ) → f (k.Name name) ≡ a) → Left limit d free n ts x → Opens f a ts
  left_opens f a by (named p) = reference_opens f a by p
  left_opens f a by (selected l s) = opens_append (left_opens f a by l) _

  operand_opens : {d : ℕ} {ts : Tokens} {x : Expr} → Operand limit d ts x → Opens opens_expression true ts
  operand_opens (literal t e) = opens_by opens_expression true t _ _ e refl
  operand_opens (left l le) = left_opens opens_expression true (λ n. refl) l
  operand_opens (size o t l le eo et f) = opens_append (left_opens opens_expression true (λ n. refl) l) _
  operand_opens (size_call o t p c l le eo et f ep ec) = opens_append (left_opens opens_expression true (λ n. refl) l) _
  operand_opens (bracketed o c eo x ec) = opens_by opens_expression true o _ _ eo refl
  operand_opens (prefixed mark op t e f x) = opens_by opens_expression true t _ _ e (prefix_opens mark op f)
  operand_opens (concat o c eo x ec) = opens_by opens_expression true o _ _ eo refl
  operand_opens (repetition o p q c eo x ep xs eq ec) = opens_by opens_expression true o _ _ eo refl
  operand_opens (pattern_of o c eo xs ec) = opens_by opens_expression true o _ _ eo refl
  operand_opens (call o c p eo xs ec) = opens_append (opens_append (reference_opens opens_expression true (λ n. refl) p) _) _
  operand_opens (call_none o c p eo ec) = opens_append (reference_opens opens_expression true (λ n. refl) p) _
  operand_opens (now t e f) = opens_by opens_expression true t _ _ e refl
  operand_opens (signed to t o c et f eo x ec) = opens_by opens_expression true t _ _ et refl

  chain_opens : {d h n : ℕ} {ts : Tokens} {x : Expr} → Chain limit d h n ts x → Opens opens_expression true ts
  chain_opens (single o) = operand_opens o
  chain_opens (tighter c) = chain_opens c
  chain_opens (joined mark op t c e f l o) = opens_append (chain_opens c) _

  pub expression_opens : {d : ℕ} {ts : Tokens} {x : Expr} → Expression limit d ts x → Opens opens_expression true ts
  expression_opens (plain c le) = chain_opens c
  expression_opens (choose q a c le eq y ec z) = opens_append (opens_append (chain_opens c) _) _

  pub several_opens : {d : ℕ} {ts : Tokens} {xs : List Expr} → Several limit d ts xs → Opens opens_expression true ts
  several_opens (several x xs) = opens_append (expression_opens x) _

edge_none : (x : TokenKind) → opens_expression x ≡ true → edge_of x ≡ None
edge_none (k.Word n) e = absurd cc
edge_none (k.Mark n) e = refl
edge_none (k.Name n) e = refl
edge_none (k.System n) e = refl
edge_none (k.Number n) e = refl
edge_none (k.Text n) e = refl
edge_none k.End e = refl

-- no edge stands where an expression begins
pub no_edge : {ts : Tokens} → Opens opens_expression true ts → (us : Tokens) → edge_of (first (ts ++ us)) ≡ None
no_edge o us = ap (λ l. edge_of (first (l ++ us))) o.is ∙ edge_none o.token.kind o.fits

-- ---- statements

abbrev pub opens_word : Word → Bool
opens_word w.Return = true
opens_word w.Break = true
opens_word w.Continue = true
opens_word w.If = true
opens_word w.Begin = true
opens_word w.Case = true
opens_word w.While = true
opens_word w.Repeat = true
opens_word w.For = true
opens_word w.Forever = true
opens_word w.Foreach = true
opens_word w.Wait = true
opens_word _ = false

abbrev pub opens_statement_mark : Mark → Bool
opens_statement_mark m.Semicolon = true
opens_statement_mark m.Hash = true
opens_statement_mark m.At = true
opens_statement_mark _ = false

-- what a statement may begin with
abbrev pub opens_statement : TokenKind → Bool
opens_statement (k.Word w) = opens_word w
opens_statement (k.Mark mark) = opens_statement_mark mark
opens_statement (k.Name name) = true
opens_statement (k.System name) = true
opens_statement _ = false

-- what a function gives at the first tokens of simple statements
record Simples {A : Type 0} (f : TokenKind → A) (a : A) : Type 0 where
  name : (name : List ℕ) → f (k.Name name) ≡ a
  system : (name : List ℕ) → f (k.System name) ≡ a
  semicolon : f (k.Mark m.Semicolon) ≡ a
  returns : f (k.Word w.Return) ≡ a
  breaks : f (k.Word w.Break) ≡ a
  continues : f (k.Word w.Continue) ≡ a

-- and of those with one statement inside
record Leadings {A : Type 0} (f : TokenKind → A) (a : A) : Type 0 where
  whiles : f (k.Word w.While) ≡ a
  repeats : f (k.Word w.Repeat) ≡ a
  waits : f (k.Word w.Wait) ≡ a
  forevers : f (k.Word w.Forever) ≡ a
  foreachs : f (k.Word w.Foreach) ≡ a
  fors : f (k.Word w.For) ≡ a
  hash : f (k.Mark m.Hash) ≡ a
  at : f (k.Mark m.At) ≡ a

module _ (limit : ℕ) where
  simple_first : {A : Type 0} (f : TokenKind → A) (a : A) {d : ℕ} {ts : Tokens} {x : Stmt} → Simples f a → Simple limit d ts x → Opens f a ts
  simple_first f a by (null t e) = opens_by f a t _ _ e by.semicolon
  simple_first f a by (assign c l le v ec) = opens_append (opens_append (left_opens limit f a by.name l) _) _
  simple_first f a by (nonblocking t c l le et y ec) = opens_append (opens_append (left_opens limit f a by.name l) _) _
  simple_first f a by (called o p c r eo xs ep ec) = opens_append (opens_append (reference_opens f a by.name r) _) _
  simple_first f a by (called_none o p c r eo ep ec) = opens_append (reference_opens f a by.name r) _
  simple_first f a by (return_none t c et ec) = opens_by f a t _ _ et by.returns
  simple_first f a by (return_of t c et x ec) = opens_by f a t _ _ et by.returns
  simple_first f a by (break t c et ec) = opens_by f a t _ _ et by.breaks
  simple_first f a by (continue t c et ec) = opens_by f a t _ _ et by.continues
  simple_first f a by (display_none t c et e ec) = opens_by f a t _ _ et (by.system _)
  simple_first f a by (display_empty t o p c et e eo ep ec) = opens_by f a t _ _ et (by.system _)
  simple_first f a by (display_of t o x p c et e eo ex xs ep ec) = opens_by f a t _ _ et (by.system _)
  simple_first f a by (finish_none t c et e ec) = opens_by f a t _ _ et (by.system _)
  simple_first f a by (finish_empty t o p c et e eo ep ec) = opens_by f a t _ _ et (by.system _)
  simple_first f a by (finish_of t o x p c et e eo ex ep ec) = opens_by f a t _ _ et (by.system _)

  leads_first : {A : Type 0} (f : TokenKind → A) (a : A) {d : ℕ} {ts : Tokens} {x : Lead} → Leadings f a → Leads limit d ts x → Opens f a ts
  leads_first f a by (while_of t e x) = opens_by f a t _ _ e by.whiles
  leads_first f a by (repeat_of t e x) = opens_by f a t _ _ e by.repeats
  leads_first f a by (wait_of t e x) = opens_by f a t _ _ e by.waits
  leads_first f a by (forever_of t e) = opens_by f a t _ _ e by.forevers
  leads_first f a by (foreach_of t o x b i c p e eo ex eb ei ec ep) = opens_by f a t _ _ e by.foreachs
  leads_first f a by (for_of t o c p r e eo x ec y ep z er) = opens_by f a t _ _ e by.fors
  leads_first f a by (delay_number t n e en) = opens_by f a t _ _ e by.hash
  leads_first f a by (delay_name t e r) = opens_by f a t _ _ e by.hash
  leads_first f a by (delay_of t e x) = opens_by f a t _ _ e by.hash
  leads_first f a by (event_name t n e en) = opens_by f a t _ _ e by.at
  leads_first f a by (event_of t o c e eo xs ec) = opens_by f a t _ _ e by.at
  leads_first f a by (event_any t x e ex) = opens_by f a t _ _ e by.at
  leads_first f a by (event_any_in t o x c e eo ex ec) = opens_by f a t _ _ e by.at

  pub simple_form : {d : ℕ} {ts : Tokens} {x : Stmt} → Simple limit d ts x → Opens form_of form.Simple ts
  simple_form x = simple_first form_of form.Simple (record { name = λ n. refl; system = λ n. refl; semicolon = refl; returns = refl; breaks = refl; continues = refl }) x

  pub leads_form : {d : ℕ} {ts : Tokens} {x : Lead} → Leads limit d ts x → Opens form_of form.Led ts
  leads_form x = leads_first form_of form.Led (record { whiles = refl; repeats = refl; waits = refl; forevers = refl; foreachs = refl; fors = refl; hash = refl; at = refl }) x

  pub statement_opens : {d n : ℕ} {o : Bool} {ts : Tokens} {x : Stmt} → Statement limit d o n ts x → Opens opens_statement true ts
  statement_opens (simple x) = simple_first opens_statement true (record { name = λ n. refl; system = λ n. refl; semicolon = refl; returns = refl; breaks = refl; continues = refl }) x
  statement_opens (block b c eb l xs ec ms) = opens_by opens_statement true b _ _ eb refl
  statement_opens (led x y le) =
      opens_append (leads_first opens_statement true (record { whiles = refl; repeats = refl; waits = refl; forevers = refl; foreachs = refl; fors = refl; hash = refl; at = refl }) x) _
  statement_opens (if_only i e x y le) = opens_by opens_statement true i _ _ e refl
  statement_opens (if_else i c e x y le ec z) = opens_by opens_statement true i _ _ e refl
  statement_opens (case_of c f e x arms other ef) = opens_by opens_statement true c _ _ e refl
