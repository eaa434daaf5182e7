-- What the grammar derives as an item is read, before what may follow it.
use Rattle.std.proofs.Common.{◌≡◌, ℕ, suc, ◌+◌, ◌<◌, Bool, true, false, not, List, [], ◌∷◌, ◌++◌, length, drop, Option, Some, None, refl, sym, ap, ◌∙◌, arith, append_assoc, length-append}
use Rattle.nt_value.specs.declared.place.Place.{Place}
use Rattle.nt_value.specs.declared.kind.ProcKind.{ProcKind}
use Rattle.nt_ast.specs.declared.path.Path.{Path}
use Rattle.nt_ast.specs.declared.path.Declared.{Declared}
use Rattle.nt_ast.specs.declared.expr.Expr.{Expr}
use Rattle.nt_ast.specs.declared.stmt.Stmt.{Stmt}
use Rattle.nt_ast.specs.declared.types.IntWord.{IntWord}
use Rattle.nt_ast.specs.declared.types.TypeTree.{TypeTree}
use Rattle.nt_items.specs.declared.item.Conn.{Conn}
use Rattle.nt_items.specs.declared.item.FunctionItem.{FunctionItem}
use Rattle.nt_items.specs.declared.item.Item.{Item}
use Rattle.nt_items.specs.declared.item.Item.TheVariants as i
use Rattle.nt_lexer.specs.declared.kinds.Mark.{Mark}
use Rattle.nt_lexer.specs.declared.kinds.Mark.TheVariants as m
use Rattle.nt_lexer.specs.declared.kinds.Word.{Word}
use Rattle.nt_lexer.specs.declared.kinds.Word.TheVariants as w
use Rattle.nt_lexer.specs.declared.kinds.TokenKind.{TokenKind}
use Rattle.nt_lexer.specs.declared.kinds.TokenKind.TheVariants as k
use Rattle.nt_lexer.specs.declared.kinds.Token.{Token}
use Rattle.nt_read_expr.specs.declared.list.Separator.TheVariants.{Comma}
use Rattle.nt_read_expr.specs.Tables.{Tokens, start, separates}
use Rattle.nt_read_expr.specs.Derivation.{Reference, alone, scoped, Expression, Left}
use Rattle.nt_read_expr.specs.Lists.{ListOf, listed}
use Rattle.nt_read_expr.specs.Reader as x
use Rattle.nt_read_expr.specs.Reader.{Read, ◌>>=◌, either, first, is_at, expect, name_first, below, whole, list_of, is_some}
use Rattle.nt_read_stmt.specs.Statements.{Statement}
use Rattle.nt_read_stmt.specs.Reader.{is_word_kind, is_word}
use Rattle.nt_read_unit.specs.Groups.{Groups, no_group, next_group}
use Rattle.nt_read_unit.specs.Tables.{vector_of, atom_of}
use Rattle.nt_read_unit.specs.Types.{TypeIs, MaybeType}
use Rattle.nt_read_unit.specs.Reader as u
use Rattle.nt_read_unit.specs.Reader.{groups_of, is_name, named, type_in, maybe_type}
use Rattle.nt_read_item.specs.declared.front.Form.{Form}
use Rattle.nt_read_item.specs.declared.front.Form.TheVariants as form
use Rattle.nt_read_item.specs.Tables.{param_of, wire_of, proc_of, lifetime_of}
use Rattle.nt_read_item.specs.Parts.{MaybeWord, no_word, one_word, With, no_resolver, with_resolver, Start, no_start, start_value, NamedConn, same_name, left_open, joined_to, Slot, hole, filled, Conns, no_conns, by_order, after_hole, by_name}
use Rattle.nt_read_item.specs.Functions.{Lifetime, no_lifetime, lifetime, Result, no_value, value_of, Dynamic, one_value, many_values, Argument, argument, Arguments, no_arguments, arguments, Local, local_var, Body, body, FunctionBody, function_body, NamedFunction, named_function, Function, function}
use Rattle.nt_read_item.specs.Items.{ImportName, import_one, import_all, Import, imports, ParamName, param_name, Params, params, Typedef, typedef, Nettype, nettype, PackageItem, is_import, is_params, is_typedef, is_nettype, is_function, WireName, wire_name, LinkName, link_name, Nets, wires, links, VarName, var_name, Vars, vars, Set, set, Assigns, assigns, InstanceName, instance_name, MaybeParams, no_params, with_params, Instances, instances, Procedure, procedure, ModuleItem, is_shared, is_nets, is_vars, is_assigns, is_instances, is_procedure}
use Rattle.nt_read_item.specs.Reader as r
use Rattle.nt_value.specs.declared.operator.Binary.{Binary}
use Rattle.nt_read_expr.specs.Lists.{MoreOf, no_item, next_item}
use Rattle.nt_read_expr.specs.Derivation.{named as named_left, selected, Select, member, item, part, indexed}
use Rattle.nt_read_stmt.specs.Tables.{compound_of, step_of}
use Rattle.nt_read_stmt.specs.Statements.{Value, given, compound, stepped, Simple, null, assign, nonblocking, called, called_none, return_none, return_of, break, continue, display_none, display_empty, display_of, finish_none, finish_empty, finish_of, Leads, while_of, repeat_of, wait_of, forever_of, foreach_of, for_of, delay_number, delay_name, delay_of, event_name, event_of, event_any, event_any_in, simple, block, led, if_only, if_else, case_of}
use Rattle.nt_read_expr.proofs.Follows.{Follow, reach, at_mark, at_other, expect_mark, follow_mark, name_some, false_of, kind_is}
use Rattle.nt_read_expr.proofs.Begins.{start_append, left_begins, expression_begins}
use Rattle.nt_read_expr.proofs.Lists.{Reads, comma_of, list_complete}
use Rattle.nt_read_expr.proofs.LeftSide.{left_side_complete}
use Rattle.nt_read_expr.proofs.Complete.{parted, expression_complete, longer}
use Rattle.nt_read_stmt.proofs.Firsts.{at_word, other_word, mark_no_word, word_no_mark, word_is, expect_at, no_mark, no_word as not_word, opens_expression, expression_opens, opens_statement, statement_opens}
use Rattle.nt_read_stmt.proofs.Pieces.{label_complete}
use Rattle.nt_read_stmt.proofs.Complete.{statement_complete}
use Rattle.nt_read_unit.specs.Types.{named as named_ctor, Dim, size, ends, range, vector, atom, known, structure, plain_type, struct_type}
use Rattle.nt_read_unit.proofs.GroupLaws.{Reads as GroupReads, groups_complete}
use Rattle.nt_read_unit.proofs.Complete.{name_taken, NameFirst, name_by, name_kind, name_no_mark, mark_no_name, word_no_name, is_a_name, no_dim, mark_no_dim, empty_no_dim, Elsewhere, elsewhere, named_complete, named_first, type_first, maybe_type_first, type_complete, Bare, bare_by, bare_mark, maybe_type_complete}

-- ---- what follows a declared name

-- the marks that may do so
abbrev pub after_mark : Mark → Bool
after_mark m.Assign = true
after_mark m.Comma = true
after_mark m.Semicolon = true
after_mark m.LeftBracket = true
after_mark m.RightParen = true
after_mark _ = false

pub record After (ts : Tokens) : Type 0 where
  pub token : Token
  pub others : Tokens
  pub mark : Mark
  pub is_mark : token.kind ≡ k.Mark mark
  pub is : ts ≡ token ∷ others
  pub fine : after_mark mark ≡ true

pub after_by : (mark : Mark) (t : Token) (ts : Tokens) → t.kind ≡ k.Mark mark → after_mark mark ≡ true → After (t ∷ ts)
after_by mark t ts e f = record { token = t; others = ts; mark = mark; is_mark = e; is = refl; fine = f }

pub after_no_mark : (bad : Mark) → after_mark bad ≡ false → {ts : Tokens} → After ts → is_at bad ts ≡ false
unfolding is_at
after_no_mark bad lacks a =
    ap (λ l. x.is_kind bad (first l)) a.is
    ∙ false_of (x.is_kind bad a.token.kind) (λ e. let same : k.Mark a.mark ≡ k.Mark bad = sym a.is_mark ∙ kind_is bad a.token.kind e in let q = sym a.fine ∙ marked same ∙ lacks in absurd cc)
  where
    of_mark : TokenKind → Bool
    of_mark (k.Mark mark) = after_mark mark
    of_mark _ = false

    marked : k.Mark a.mark ≡ k.Mark bad → after_mark a.mark ≡ after_mark bad
    marked e = ap of_mark e

pub after_no_name : {ts : Tokens} → After ts → is_name ts ≡ false
unfolding is_name name_first
after_no_name a = ap (λ l. is_some (x.name_kind (first l))) a.is ∙ ap (λ kind. is_some (x.name_kind kind)) a.is_mark

pub after_comma : (t : Token) (rest : Tokens) → separates Comma t.kind ≡ true → After (t ∷ rest)
after_comma t rest e = after_by m.Comma t rest (comma_of t.kind e) refl

pub more_after : {A : Type 0} {I : Tokens → A → Type 0} {ts : Tokens} {xs : List A} → MoreOf Comma I ts xs → (rest : Tokens) → After rest → After (ts ++ rest)
more_after no_item rest a = a
more_after (next_item {ts = ts} {us = us} t e one more) rest a = after_comma t ((ts ++ us) ++ rest) e

-- ---- parts

pub flag_complete : {word : Word} {ts : Tokens} {y : Bool} → MaybeWord word ts y → (rest : Tokens) → is_word word rest ≡ false → r.flag word (ts ++ rest) ≡ Some (y, rest)
unfolding r.flag
flag_complete no_word rest lacks = rw lacks refl
flag_complete {word = word} (one_word t is) rest lacks = rw (at_word word t rest is) refl

pub first_by_reads : {A : Type 0} (f : TokenKind → Option A) (t : Token) (a : A) (rest : Tokens) → f t.kind ≡ Some a → r.first_by f (t ∷ rest) ≡ Some (a, rest)
unfolding r.first_by
first_by_reads f t a rest e = rw e refl

path_complete : {ts : Tokens} {y : Path} → Reference ts y → (rest : Tokens) → is_at m.Scope rest ≡ false → r.path (ts ++ rest) ≡ Some (y, rest)
unfolding r.path x.reference
path_complete (alone {name = name} v is) rest lacks = rw (name_taken v name rest is, lacks) refl
path_complete (scoped {scope = scope} {name = name} p q v ep eq ev) rest lacks = rw (name_taken p scope (q ∷ v ∷ rest) ep, at_mark m.Scope q (v ∷ rest) eq, name_some v rest name ev) refl

with_complete : {ts : Tokens} {y : Option Path} → With ts y → (rest : Tokens) → is_word w.With rest ≡ false → is_at m.Scope rest ≡ false → r.maybe_with (ts ++ rest) ≡ Some (y, rest)
unfolding r.maybe_with
with_complete no_resolver rest lacks f = rw lacks refl
with_complete (with_resolver {ts = ts} t is one) rest lacks f = rw (at_word w.With t (ts ++ rest) is, path_complete one rest f) refl

lifetime_complete : {ts : Tokens} {y : Bool} → Lifetime ts y → (rest : Tokens) → lifetime_of (first rest) ≡ None → r.lifetime (ts ++ rest) ≡ Some (y, rest)
unfolding r.lifetime
lifetime_complete no_lifetime rest lacks = rw lacks refl
lifetime_complete (lifetime t is) rest lacks = rw is refl

dynamic_complete : {ts : Tokens} {y : Bool} → Dynamic ts y → (rest : Tokens) → is_at m.LeftBracket rest ≡ false → r.dynamic (ts ++ rest) ≡ Some (y, rest)
unfolding r.dynamic
dynamic_complete one_value rest lacks = rw lacks refl
dynamic_complete (many_values o c is_o is_c) rest lacks = rw (at_mark m.LeftBracket o (c ∷ rest) is_o, expect_mark m.RightBracket c rest is_c) refl

dynamic_no_dim : {ts : Tokens} {y : Bool} → Dynamic ts y → (rest : Tokens) → is_at m.LeftBracket rest ≡ false → u.dim_goes (ts ++ rest) ≡ false
dynamic_no_dim one_value rest lacks = no_dim rest lacks
dynamic_no_dim (many_values o c is_o is_c) rest lacks = empty_no_dim o c rest is_o is_c

-- ---- imports and interconnects

import_name_complete : {ts : Tokens} {y : Item} → ImportName ts y → (rest : Tokens) → r.import_name (ts ++ rest) ≡ Some (y, rest)
unfolding r.import_name r.imported
import_name_complete (import_one {scope = scope} {name = name} p q n is_p is_q is_n) rest =
    rw (name_taken p scope (q ∷ n ∷ rest) is_p, expect_mark m.Scope q (n ∷ rest) is_q, name_no_mark m.Star (name_by n rest name is_n), name_taken n name rest is_n) refl
import_name_complete (import_all {scope = scope} p q n is_p is_q is_n) rest = rw (name_taken p scope (q ∷ n ∷ rest) is_p, expect_mark m.Scope q (n ∷ rest) is_q, at_mark m.Star n rest is_n) refl

import_names_read : Reads Comma r.import_name ImportName (λ rest. Unit {0})
import_names_read = record { complete = λ one rest fit. import_name_complete one rest; parted = λ t rest e. tt }

pub imports_complete : {ts : Tokens} {y : List Item} → Import ts y → (rest : Tokens) → r.imports (ts ++ rest) ≡ Some (y, rest)
unfolding r.imports
imports_complete (imports {ts = ts} {xs = xs} t c is_t all is_c) rest =
    ap r.imports (ap (λ l. t ∷ l) (append_assoc ts (c ∷ []) rest))
    ∙ rw (expect_at w.Import t (ts ++ (c ∷ rest)) is_t, list_complete Comma r.import_name import_names_read all (c ∷ rest) tt (ap (separates Comma) is_c), expect_mark m.Semicolon c rest is_c) refl

link_name_complete : {ts : Tokens} {y : Item} → LinkName ts y → (rest : Tokens) → r.link_name (ts ++ rest) ≡ Some (y, rest)
unfolding r.link_name
link_name_complete (link_name {name = name} n is_n) rest = rw (name_taken n name rest is_n) refl

link_names_read : Reads Comma r.link_name LinkName (λ rest. Unit {0})
link_names_read = record { complete = λ one rest fit. link_name_complete one rest; parted = λ t rest e. tt }

-- ---- the words that types begin with are none of these

no_word_words : (word : Word) → r.begins_local (k.Word word) ≡ false → Elsewhere (is_word_kind word) false
no_word_words word lacks = elsewhere (is_word_kind word) false (by w.Logic refl) (by w.Reg refl) (by w.Bit refl) (by w.Byte refl) (by w.Shortint refl) (by w.Int refl) (by w.Longint refl) (by w.Integer refl) (by w.Time refl)
  where
    by : (v : Word) → r.begins_local (k.Word v) ≡ true → is_word_kind word (k.Word v) ≡ false
    by v has = false_of (is_word_kind word (k.Word v)) (λ e. let q = sym has ∙ ap r.begins_local (word_is word (k.Word v) e) ∙ lacks in absurd cc)

module _ (limit : ℕ) where
  bare_after : (n : Token) (ts : Tokens) (name : List ℕ) → n.kind ≡ k.Name name → After ts → Bare limit (n ∷ ts)
  bare_after n ts name e a = bare_by limit n ts name e (after_no_name a) (after_no_mark m.Scope refl a)

  type_no_word : (word : Word) → r.begins_local (k.Word word) ≡ false → {d : ℕ} {ts : Tokens} {y : TypeTree} → TypeIs limit d ts y → (rest : Tokens) → is_word word (ts ++ rest) ≡ false
  unfolding is_word
  type_no_word word lacks one rest =
      type_first limit (is_word_kind word) false (no_word_words word lacks) (λ n. refl)
      (false_of (is_word_kind word (k.Word w.Struct)) (λ e. let q : true ≡ false = ap r.begins_local (word_is word (k.Word w.Struct) e) ∙ lacks in absurd cc)) one rest

  pub dims_after : {d : ℕ} {ts : Tokens} {xs : List (Expr × Option Expr)} → Groups (Dim limit d) ts xs → (rest : Tokens) → After rest → After (ts ++ rest)
  dims_after no_group rest a = a
  dims_after (next_group (size {ts = ts} o c is_o one is_c) more) rest a = after_by m.LeftBracket o _ is_o refl
  dims_after (next_group (ends (range o q c is_o one is_q two is_c)) more) rest a = after_by m.LeftBracket o _ is_o refl

  -- what follows an initial value
  pub record Ended (rest : Tokens) : Type 0 where
    pub follow : Follow 11 rest
    pub no_assign : is_at m.Assign rest ≡ false

  ended_by : (mark : Mark) (c : Token) (rest : Tokens) → c.kind ≡ k.Mark mark → 11 < reach mark → x.same_mark mark m.Assign ≡ false → Ended (c ∷ rest)
  ended_by mark c rest e lt f = record { follow = follow_mark mark 11 c rest e lt; no_assign = at_other m.Assign mark c rest e f }

  ended_comma : (t : Token) (rest : Tokens) → separates Comma t.kind ≡ true → Ended (t ∷ rest)
  ended_comma t rest e = ended_by m.Comma t rest (comma_of t.kind e) (omega arith) refl

  start_complete : {ts : Tokens} {y : Option Expr} → Start limit ts y → (rest : Tokens) → Ended rest → r.maybe_start limit (ts ++ rest) ≡ Some (y, rest)
  unfolding r.maybe_start
  start_complete no_start rest f = rw f.no_assign refl
  start_complete (start_value {ts = ts} q is_q one) rest f = rw (at_mark m.Assign q (ts ++ rest) is_q, expression_complete limit one rest f.follow) refl

  start_after : {ts : Tokens} {y : Option Expr} → Start limit ts y → (rest : Tokens) → After rest → After (ts ++ rest)
  start_after no_start rest a = a
  start_after (start_value {ts = ts} q is_q one) rest a = after_by m.Assign q (ts ++ rest) is_q refl

  start_no_bracket : {ts : Tokens} {y : Option Expr} → Start limit ts y → (rest : Tokens) → is_at m.LeftBracket rest ≡ false → is_at m.LeftBracket (ts ++ rest) ≡ false
  start_no_bracket no_start rest lacks = lacks
  start_no_bracket (start_value {ts = ts} q is_q one) rest lacks = at_other m.LeftBracket m.Assign q (ts ++ rest) is_q refl

  -- ---- connections

  expression_no_mark : (mark : Mark) → opens_expression (k.Mark mark) ≡ false → {d : ℕ} {ts : Tokens} {y : Expr} → Expression limit d ts y → (rest : Tokens) → is_at mark (ts ++ rest) ≡ false
  expression_no_mark mark lacks one rest = no_mark opens_expression mark lacks (expression_opens limit one) rest

  named_conn_complete : {ts : Tokens} {y : Conn} → NamedConn limit ts y → (rest : Tokens) → is_at m.LeftParen rest ≡ false → r.named_conn limit (ts ++ rest) ≡ Some (y, rest)
  unfolding r.named_conn r.conn_named r.conn_value
  named_conn_complete (same_name {name = name} o n is_o is_n) rest lacks = rw (expect_mark m.Dot o (n ∷ rest) is_o, name_taken n name rest is_n, lacks) refl
  named_conn_complete (left_open {name = name} o n p c is_o is_n is_p is_c) rest lacks =
      rw (expect_mark m.Dot o (n ∷ p ∷ c ∷ rest) is_o, name_taken n name (p ∷ c ∷ rest) is_n, at_mark m.LeftParen p (c ∷ rest) is_p, at_mark m.RightParen c rest is_c) refl
  named_conn_complete (joined_to {name = name} {ts = ts} {x = v} o n p c is_o is_n is_p one is_c) rest lacks =
      ap (r.named_conn limit) (ap (λ l. o ∷ n ∷ p ∷ l) (append_assoc ts (c ∷ []) rest))
      ∙ rw (
        expect_mark m.Dot o (n ∷ p ∷ (ts ++ (c ∷ rest))) is_o,
        name_taken n name (p ∷ (ts ++ (c ∷ rest))) is_n,
        at_mark m.LeftParen p (ts ++ (c ∷ rest)) is_p,
        expression_no_mark m.RightParen refl one (c ∷ rest),
        expression_complete limit one (c ∷ rest) (follow_mark m.RightParen 11 c rest is_c (omega arith)),
        expect_mark m.RightParen c rest is_c,
      ) refl

  comma_no_paren : (t : Token) (rest : Tokens) → separates Comma t.kind ≡ true → is_at m.LeftParen (t ∷ rest) ≡ false
  comma_no_paren t rest e = at_other m.LeftParen m.Comma t rest (comma_of t.kind e) refl

  named_conns_read : Reads Comma (r.named_conn limit) (NamedConn limit) (λ rest. is_at m.LeftParen rest ≡ false)
  named_conns_read = record { complete = named_conn_complete; parted = comma_no_paren }

  named_conns_first : {ts : Tokens} {xs : List Conn} → ListOf Comma (NamedConn limit) ts xs → (rest : Tokens) → (is_at m.RightParen (ts ++ rest) ≡ false) × (is_at m.Dot (ts ++ rest) ≡ true)
  named_conns_first (listed (same_name o n is_o is_n) more) rest = (at_other m.RightParen m.Dot o _ is_o refl, at_mark m.Dot o _ is_o)
  named_conns_first (listed (left_open o n p c is_o is_n is_p is_c) more) rest = (at_other m.RightParen m.Dot o _ is_o refl, at_mark m.Dot o _ is_o)
  named_conns_first (listed (joined_to o n p c is_o is_n is_p one is_c) more) rest = (at_other m.RightParen m.Dot o _ is_o refl, at_mark m.Dot o _ is_o)

  -- what follows a connection by order
  record SlotEnd (rest : Tokens) : Type 0 where
    ends : r.slot_ends rest ≡ true
    follow : Follow 11 rest

  comma_ends : (t : Token) (rest : Tokens) → t.kind ≡ k.Mark m.Comma → SlotEnd (t ∷ rest)
  unfolding r.slot_ends
  comma_ends t rest e = record { ends = rw (at_mark m.Comma t rest e) refl; follow = follow_mark m.Comma 11 t rest e (omega arith) }

  paren_ends : (t : Token) (rest : Tokens) → t.kind ≡ k.Mark m.RightParen → SlotEnd (t ∷ rest)
  unfolding r.slot_ends
  paren_ends t rest e = record { ends = rw (at_other m.Comma m.RightParen t rest e refl, at_mark m.RightParen t rest e) refl; follow = follow_mark m.RightParen 11 t rest e (omega arith) }

  slot_no_end : {d : ℕ} {ts : Tokens} {y : Expr} → Expression limit d ts y → (rest : Tokens) → r.slot_ends (ts ++ rest) ≡ false
  unfolding r.slot_ends
  slot_no_end one rest = rw (expression_no_mark m.Comma refl one rest, expression_no_mark m.RightParen refl one rest) refl

  expression_start : {d : ℕ} {ts : Tokens} {y : Expr} → Expression limit d ts y → (rest : Tokens) → start (ts ++ rest) ≡ start ts
  expression_start one rest = start_append (expression_begins limit one) rest

  slot_complete : {ts : Tokens} {y : List Conn} → Slot limit ts y → (rest : Tokens) → SlotEnd rest → r.slot limit (ts ++ rest) ≡ Some (y, rest)
  unfolding r.slot
  slot_complete (hole t is_t) rest f = rw (expect_mark m.Comma t rest is_t, f.ends) refl
  slot_complete (filled {ts = ts} {x = v} t is_t one) rest f =
      rw (expect_mark m.Comma t (ts ++ rest) is_t, slot_no_end one rest, expression_complete limit one rest f.follow) (ap (λ at. Some (record { at = at; name = None; value = Some v } ∷ [], rest)) (expression_start one rest))

  slot_comma : {ts : Tokens} {y : List Conn} → Slot limit ts y → (rest : Tokens) → SlotEnd (ts ++ rest)
  slot_comma (hole t is_t) rest = comma_ends t rest is_t
  slot_comma (filled {ts = ts} t is_t one) rest = comma_ends t (ts ++ rest) is_t

  slot_opens : {ts : Tokens} {y : List Conn} → Slot limit ts y → (rest : Tokens) → r.slot_goes (ts ++ rest) ≡ true
  unfolding r.slot_goes
  slot_opens (hole t is_t) rest = at_mark m.Comma t rest is_t
  slot_opens (filled {ts = ts} t is_t one) rest = at_mark m.Comma t (ts ++ rest) is_t

  slot_longer : {ts : Tokens} {y : List Conn} → Slot limit ts y → 0 < length ts
  slot_longer (hole t is_t) = omega arith
  slot_longer (filled t is_t one) = omega arith

  slots_read : GroupReads r.slot_goes (r.slot limit) (Slot limit) SlotEnd
  slots_read = record { complete = slot_complete; opens = slot_opens; fits = slot_comma; longer = slot_longer }

  slots_end : {ts : Tokens} {ys : List Conn} → Groups (Slot limit) ts ys → (c : Token) (rest : Tokens) → c.kind ≡ k.Mark m.RightParen → SlotEnd (ts ++ (c ∷ rest))
  slots_end no_group c rest is_c = paren_ends c rest is_c
  slots_end (next_group {ts = ts} {us = us} one more) c rest is_c = let P : Tokens → Type 0 = SlotEnd in rw (append_assoc ts us (c ∷ rest)) (slot_comma one (us ++ (c ∷ rest)))

  paren_stops : (c : Token) (rest : Tokens) → c.kind ≡ k.Mark m.RightParen → r.slot_goes (c ∷ rest) ≡ false
  unfolding r.slot_goes
  paren_stops c rest is_c = at_other m.Comma m.RightParen c rest is_c refl

  slots_complete : {ts : Tokens} {ys : List Conn} → Groups (Slot limit) ts ys → (c : Token) (rest : Tokens) → c.kind ≡ k.Mark m.RightParen
      → groups_of r.slot_goes (r.slot limit) (length (ts ++ (c ∷ rest)) + 1) [] (ts ++ (c ∷ rest)) ≡ Some (ys, c ∷ rest)
  slots_complete {ts = ts} all c rest is_c =
      groups_complete r.slot_goes (r.slot limit) slots_read all [] (c ∷ rest) (length (ts ++ (c ∷ rest)) + 1) (longer limit ts (c ∷ rest)) (paren_ends c rest is_c) (paren_stops c rest is_c)

  slot_no_dot : {ts : Tokens} {y : List Conn} → Slot limit ts y → (rest : Tokens) → (is_at m.RightParen (ts ++ rest) ≡ false) × (is_at m.Dot (ts ++ rest) ≡ false) × (is_at m.Comma (ts ++ rest) ≡ true)
  slot_no_dot (hole t is_t) rest = (at_other m.RightParen m.Comma t rest is_t refl, at_other m.Dot m.Comma t rest is_t refl, at_mark m.Comma t rest is_t)
  slot_no_dot (filled {ts = ts} t is_t one) rest = (at_other m.RightParen m.Comma t (ts ++ rest) is_t refl, at_other m.Dot m.Comma t (ts ++ rest) is_t refl, at_mark m.Comma t (ts ++ rest) is_t)

  after_hole_reads : (at : Place) (xs ys : List Conn) (ts us vs rest : Tokens) → r.slot limit ts ≡ Some (xs, us) → groups_of r.slot_goes (r.slot limit) (length us + 1) [] us ≡ Some (ys, vs) → expect m.RightParen vs ≡ Some rest
      → r.after_hole limit at ts ≡ Some (r.hole at ∷ (xs ++ ys), rest)
  unfolding r.after_hole
  after_hole_reads at xs ys ts us vs rest g h j = rw (g, h, j) refl

  by_order_reads : (v : Expr) (ys : List Conn) (ts us vs rest : Tokens) → whole limit (below limit limit) ts ≡ Some (v, us) → groups_of r.slot_goes (r.slot limit) (length us + 1) [] us ≡ Some (ys, vs) → expect m.RightParen vs ≡ Some rest
      → r.by_order limit ts ≡ Some (record { at = start ts; name = None; value = Some v } ∷ ys, rest)
  unfolding r.by_order
  by_order_reads v ys ts us vs rest g h j = rw (g, h, j) refl

  by_name_reads : (ys : List Conn) (ts us rest : Tokens) → list_of Comma (r.named_conn limit) ts ≡ Some (ys, us) → expect m.RightParen us ≡ Some rest → r.by_name limit ts ≡ Some (ys, rest)
  unfolding r.by_name
  by_name_reads ys ts us rest g h = rw (g, h) refl

  conns_complete : {ts : Tokens} {y : List Conn} → Conns limit ts y → (rest : Tokens) → r.conns limit (ts ++ rest) ≡ Some (y, rest)
  unfolding r.conns r.conns_in
  conns_complete (no_conns o c is_o is_c) rest = rw (expect_mark m.LeftParen o (c ∷ rest) is_o, at_mark m.RightParen c rest is_c) refl
  conns_complete (by_order {ts = ts} {us = us} {x = v} {xs = xs} o c is_o one all is_c) rest =
      let tail : Tokens = us ++ (c ∷ rest) in
      ap (r.conns limit) (ap (λ l. o ∷ l) (append_assoc ts (us ++ c ∷ []) rest ∙ ap (λ l. ts ++ l) (append_assoc us (c ∷ []) rest)))
      ∙ rw (expect_mark m.LeftParen o (ts ++ tail) is_o, expression_no_mark m.RightParen refl one tail, expression_no_mark m.Dot refl one tail, expression_no_mark m.Comma refl one tail)
      (by_order_reads v xs (ts ++ tail) tail (c ∷ rest) rest (expression_complete limit one tail (slots_end all c rest is_c).follow) (slots_complete all c rest is_c) (expect_mark m.RightParen c rest is_c)
      ∙ ap (λ at. Some (record { at = at; name = None; value = Some v } ∷ xs, rest)) (expression_start one tail))
  conns_complete (after_hole {ts = ts} {us = us} {xs = xs} {ys = ys} o c is_o one all is_c) rest =
      let tail : Tokens = us ++ (c ∷ rest) in
      let n = slot_no_dot one tail in
      ap (r.conns limit) (ap (λ l. o ∷ l) (append_assoc ts (us ++ c ∷ []) rest ∙ ap (λ l. ts ++ l) (append_assoc us (c ∷ []) rest)))
      ∙ rw (expect_mark m.LeftParen o (ts ++ tail) is_o, n.0, n.1, n.2)
      (after_hole_reads o.at xs ys (ts ++ tail) tail (c ∷ rest) rest (slot_complete one tail (slots_end all c rest is_c)) (slots_complete all c rest is_c) (expect_mark m.RightParen c rest is_c))
  conns_complete (by_name {ts = ts} {xs = xs} o c is_o all is_c) rest =
      let n = named_conns_first all (c ∷ rest) in
      ap (r.conns limit) (ap (λ l. o ∷ l) (append_assoc ts (c ∷ []) rest))
      ∙ rw (expect_mark m.LeftParen o (ts ++ (c ∷ rest)) is_o, n.0, n.1)
      (by_name_reads xs (ts ++ (c ∷ rest)) (c ∷ rest) rest
      (list_complete Comma (r.named_conn limit) named_conns_read all (c ∷ rest) (at_other m.LeftParen m.RightParen c rest is_c refl) (ap (separates Comma) is_c)) (expect_mark m.RightParen c rest is_c))

  -- ---- functions

  result_first : {A : Type 0} (f : TokenKind → A) (a : A) → Elsewhere f a → ((name : List ℕ) → f (k.Name name) ≡ a) → f (k.Word w.Struct) ≡ a → f (k.Word w.Signed) ≡ a → f (k.Word w.Unsigned) ≡ a → f (k.Mark m.LeftBracket) ≡ a
      → f (k.Word w.Void) ≡ a → {ts : Tokens} {y : Option TypeTree} → Result limit ts y → (rest : Tokens) → NameFirst rest → f (first (ts ++ rest)) ≡ a
  result_first f a e g h i j l o (no_value v is) rest n = ap f is ∙ o
  result_first f a e g h i j l o (value_of one) rest n = maybe_type_first limit f a e g h i j l one rest n

  result_complete : {ts : Tokens} {y : Option TypeTree} → Result limit ts y → (rest : Tokens) → Bare limit rest → r.result limit (ts ++ rest) ≡ Some (y, rest)
  unfolding r.result is_word
  result_complete (no_value v is) rest b = rw (at_word w.Void v rest is) refl
  result_complete (value_of one) rest b =
      rw (maybe_type_first limit (is_word_kind w.Void) false (no_word_words w.Void refl) (λ n. refl) refl refl refl refl one rest b.first_one) (maybe_type_complete limit one rest b)

  comma_no_bracket : (t : Token) (rest : Tokens) → separates Comma t.kind ≡ true → is_at m.LeftBracket (t ∷ rest) ≡ false
  comma_no_bracket t rest e = at_other m.LeftBracket m.Comma t rest (comma_of t.kind e) refl

  argument_complete : {ts : Tokens} {y : TypeTree × Declared × Bool} → Argument limit ts y → (rest : Tokens) → is_at m.LeftBracket rest ≡ false → r.argument limit (ts ++ rest) ≡ Some (y, rest)
  unfolding r.argument
  argument_complete (argument {ts = ts} {us = us} {vs = vs} {ws = ws} i of what many) rest lacks =
      ap (r.argument limit) (append_assoc ts (us ++ (vs ++ ws)) rest ∙ ap (λ l. ts ++ l) (append_assoc us (vs ++ ws) rest ∙ ap (λ l. us ++ l) (append_assoc vs ws rest)))
      ∙ rw (
        flag_complete i (us ++ (vs ++ (ws ++ rest))) (type_no_word w.Input refl of (vs ++ (ws ++ rest))),
        type_complete limit of (vs ++ (ws ++ rest)) (named_first limit what (ws ++ rest)),
        named_complete limit what (ws ++ rest) (dynamic_no_dim many rest lacks),
        dynamic_complete many rest lacks,
      ) refl

  arguments_read : Reads Comma (r.argument limit) (Argument limit) (λ rest. is_at m.LeftBracket rest ≡ false)
  arguments_read = record { complete = argument_complete; parted = comma_no_bracket }

  argument_no_paren : {ts : Tokens} {y : TypeTree × Declared × Bool} → Argument limit ts y → (rest : Tokens) → is_at m.RightParen (ts ++ rest) ≡ false
  unfolding is_at
  argument_no_paren (argument {ts = ts} {us = us} {vs = vs} {ws = ws} no_word of what many) rest =
      ap (λ l. x.is_kind m.RightParen (first l)) (append_assoc us (vs ++ ws) rest)
      ∙ type_first limit (x.is_kind m.RightParen) false (elsewhere (x.is_kind m.RightParen) false refl refl refl refl refl refl refl refl refl) (λ n. refl) refl of ((vs ++ ws) ++ rest)
  argument_no_paren (argument {us = us} {vs = vs} {ws = ws} (one_word t is) of what many) rest = ap (x.is_kind m.RightParen) is

  arguments_no_paren : {ts : Tokens} {ys : List (TypeTree × Declared × Bool)} → ListOf Comma (Argument limit) ts ys → (rest : Tokens) → is_at m.RightParen (ts ++ rest) ≡ false
  arguments_no_paren (listed {ts = ts} {us = us} one more) rest = ap (is_at m.RightParen) (append_assoc ts us rest) ∙ argument_no_paren one (us ++ rest)

  arguments_complete : {ts : Tokens} {y : List (TypeTree × Declared × Bool)} → Arguments limit ts y → (rest : Tokens) → r.arguments limit (ts ++ rest) ≡ Some (y, rest)
  unfolding r.arguments r.arguments_in
  arguments_complete (no_arguments o c is_o is_c) rest = rw (expect_mark m.LeftParen o (c ∷ rest) is_o, at_mark m.RightParen c rest is_c) refl
  arguments_complete (arguments {ts = ts} o c is_o all is_c) rest =
      ap (r.arguments limit) (ap (λ l. o ∷ l) (append_assoc ts (c ∷ []) rest))
      ∙ rw (
        expect_mark m.LeftParen o (ts ++ (c ∷ rest)) is_o,
        arguments_no_paren all (c ∷ rest),
        list_complete Comma (r.argument limit) arguments_read all (c ∷ rest) (at_other m.LeftBracket m.RightParen c rest is_c refl) (ap (separates Comma) is_c),
        expect_mark m.RightParen c rest is_c,
      ) refl

  arguments_bare : (n : Token) (name : List ℕ) {ts : Tokens} {y : List (TypeTree × Declared × Bool)} → n.kind ≡ k.Name name → Arguments limit ts y → (rest : Tokens) → Bare limit (n ∷ (ts ++ rest))
  arguments_bare n name e (no_arguments o c is_o is_c) rest = bare_mark limit n o (c ∷ rest) name m.LeftParen e is_o refl
  arguments_bare n name e (arguments {ts = ts} o c is_o all is_c) rest = bare_mark limit n o ((ts ++ c ∷ []) ++ rest) name m.LeftParen e is_o refl

  -- ---- variables of functions

  -- `automatic` is no word that a type begins with
  type_not_automatic : {d : ℕ} {ts : Tokens} {y : TypeTree} → TypeIs limit d ts y → (rest : Tokens) → is_word w.Automatic (ts ++ rest) ≡ false
  unfolding is_word
  type_not_automatic one rest = type_first limit (is_word_kind w.Automatic) false (elsewhere (is_word_kind w.Automatic) false refl refl refl refl refl refl refl refl refl) (λ n. refl) refl one rest

  local_var_complete : {ts : Tokens} {y : List (TypeTree × Declared)} → Local limit ts y → (rest : Tokens) → r.local_var limit (ts ++ rest) ≡ Some (y, rest)
  unfolding r.local_var
  local_var_complete (local_var {ts = ts} {us = us} {vs = vs} {ws = ws} c a of what v is_c) rest =
      ap (r.local_var limit) (append_assoc ts (us ++ (vs ++ (ws ++ c ∷ []))) rest ∙ ap (λ l. ts ++ l) (append_assoc us (vs ++ (ws ++ c ∷ [])) rest ∙ ap (λ l. us ++ l) (append_assoc vs (ws ++ c ∷ []) rest ∙ ap (λ l. vs ++ l) (append_assoc ws (c ∷ []) rest))))
      ∙ rw (
        flag_complete a (us ++ (vs ++ (ws ++ (c ∷ rest)))) (type_not_automatic of (vs ++ (ws ++ (c ∷ rest)))),
        type_complete limit of (vs ++ (ws ++ (c ∷ rest))) (named_first limit what (ws ++ (c ∷ rest))),
        named_complete limit what (ws ++ (c ∷ rest)) (no_dim (ws ++ (c ∷ rest)) (start_no_bracket v (c ∷ rest) (at_other m.LeftBracket m.Semicolon c rest is_c refl))),
        start_complete v (c ∷ rest) (ended_by m.Semicolon c rest is_c (omega arith) refl),
        expect_mark m.Semicolon c rest is_c,
      ) refl

  local_by : (ts : Tokens) → r.begins_local (first ts) ≡ true → r.local_goes ts ≡ true
  unfolding r.local_goes
  local_by ts e = rw e refl

  -- a name that is a type begins a variable
  two_names_go : (v : Token) (rest : Tokens) (name : List ℕ) → v.kind ≡ k.Name name → NameFirst rest → r.local_goes (v ∷ rest) ≡ true
  unfolding r.local_goes r.named_type is_name name_first
  two_names_go v rest name is n = rw (is, name_no_mark m.Scope n, name_kind (λ kind. is_some (x.name_kind kind)) n) refl

  scoped_goes : (p q v : Token) (rest : Tokens) (scope name : List ℕ) → p.kind ≡ k.Name scope → q.kind ≡ k.Mark m.Scope → v.kind ≡ k.Name name → NameFirst rest → r.local_goes (p ∷ q ∷ v ∷ rest) ≡ true
  unfolding r.local_goes r.named_type is_name name_first
  scoped_goes p q v rest scope name ep eq ev n = rw (ep, at_mark m.Scope q (v ∷ rest) eq, ev, name_kind (λ kind. is_some (x.name_kind kind)) n) refl

  type_goes : {d : ℕ} {ts : Tokens} {y : TypeTree} → TypeIs limit d ts y → (rest : Tokens) → NameFirst rest → r.local_goes (ts ++ rest) ≡ true
  type_goes (plain_type (vector {word = word} {ts = ts} {us = us} v is one two)) rest n = local_by (v ∷ ((ts ++ us) ++ rest)) (vectors v.kind word is)
    where
      vectors : (kind : TokenKind) (word : IntWord) → vector_of kind ≡ Some word → r.begins_local kind ≡ true
      vectors (k.Word w.Logic) word e = refl
      vectors (k.Word w.Reg) word e = refl
      vectors (k.Word w.Bit) word e = refl
      vectors _ word e = absurd cc
  type_goes (plain_type (atom {word = word} {ts = ts} v is one)) rest n = local_by (v ∷ (ts ++ rest)) (atoms v.kind word is)
    where
      atoms : (kind : TokenKind) (word : IntWord) → atom_of kind ≡ Some word → r.begins_local kind ≡ true
      atoms (k.Word w.Byte) word e = refl
      atoms (k.Word w.Shortint) word e = refl
      atoms (k.Word w.Int) word e = refl
      atoms (k.Word w.Longint) word e = refl
      atoms (k.Word w.Integer) word e = refl
      atoms (k.Word w.Time) word e = refl
      atoms _ word e = absurd cc
  type_goes (plain_type (known (alone {name = name} v is))) rest n = two_names_go v rest name is n
  type_goes (plain_type (known (scoped {scope = scope} {name = name} p q v ep eq ev))) rest n = scoped_goes p q v rest scope name ep eq ev n
  type_goes (struct_type (structure {ts = ts} s o c is_s is_o one is_c)) rest n = local_by (s ∷ o ∷ ((ts ++ c ∷ []) ++ rest)) (ap r.begins_local is_s)

  local_opens : {ts : Tokens} {y : List (TypeTree × Declared)} → Local limit ts y → (rest : Tokens) → r.local_goes (ts ++ rest) ≡ true
  local_opens (local_var {us = us} {vs = vs} {ws = ws} c no_word of what v is_c) rest =
      ap r.local_goes (append_assoc us (vs ++ (ws ++ c ∷ [])) rest) ∙ type_goes of ((vs ++ (ws ++ c ∷ [])) ++ rest) (let P : Tokens → Type 0 = NameFirst in rw (append_assoc vs (ws ++ c ∷ []) rest) (named_first limit what ((ws ++ c ∷ []) ++ rest)))
  local_opens (local_var {us = us} {vs = vs} {ws = ws} c (one_word t is) of what v is_c) rest = local_by (t ∷ ((us ++ (vs ++ (ws ++ c ∷ []))) ++ rest)) (ap r.begins_local is)

  local_longer : {ts : Tokens} {y : List (TypeTree × Declared)} → Local limit ts y → 0 < length ts
  local_longer (local_var {ts = ts} {us = us} {vs = vs} {ws = ws} c a of what v is_c) =
      omega (arith, length-append ts (us ++ (vs ++ (ws ++ c ∷ []))), length-append us (vs ++ (ws ++ c ∷ [])), length-append vs (ws ++ c ∷ []), length-append ws (c ∷ []))

  locals_read : GroupReads r.local_goes (r.local_var limit) (Local limit) (λ rest. Unit {0})
  locals_read = record { complete = λ one rest fit. local_var_complete one rest; opens = local_opens; fits = λ one rest. tt; longer = local_longer }

  -- ---- statements of functions, which begin no variable

  -- a mark that does not go on with a name
  record Marks (zs : Tokens) : Type 0 where
    token : Token
    others : Tokens
    mark : Mark
    is_mark : token.kind ≡ k.Mark mark
    is : zs ≡ token ∷ others
    other : x.same_mark mark m.Scope ≡ false

  marks_by : (mark : Mark) (t : Token) (ts : Tokens) → t.kind ≡ k.Mark mark → x.same_mark mark m.Scope ≡ false → Marks (t ∷ ts)
  marks_by mark t ts e f = record { token = t; others = ts; mark = mark; is_mark = e; is = refl; other = f }

  marks_no_scope : {zs : Tokens} → Marks zs → is_at m.Scope zs ≡ false
  marks_no_scope z = ap (is_at m.Scope) z.is ∙ at_other m.Scope z.mark z.token z.others z.is_mark z.other

  marks_no_name : {zs : Tokens} → Marks zs → is_name zs ≡ false
  marks_no_name z = ap is_name z.is ∙ mark_no_name z.mark z.token z.others z.is_mark

  reference_not_local : {ts : Tokens} {y : Path} → Reference ts y → (zs : Tokens) → Marks zs → r.local_goes (ts ++ zs) ≡ false
  unfolding r.local_goes r.named_type
  reference_not_local (alone {name = name} v is) zs z = rw (ap r.begins_local is, is_a_name v zs name is, marks_no_scope z, marks_no_name z) refl
  reference_not_local (scoped {scope = scope} {name = name} p q v ep eq ev) zs z =
      rw (ap r.begins_local ep, is_a_name p (q ∷ v ∷ zs) scope ep, at_mark m.Scope q (v ∷ zs) eq, is_a_name v zs name ev, marks_no_name z) refl

  select_marks : {d : ℕ} {free : Bool} {at : Place} {y z : Expr} {ts : Tokens} → Select limit d free at y ts z → (zs : Tokens) → Marks (ts ++ zs)
  select_marks (member o t eo et f) zs = marks_by m.Dot o _ eo refl
  select_marks (item o c eo y ec) zs = marks_by m.LeftBracket o _ eo refl
  select_marks (part o q c eo y eq z ec) zs = marks_by m.LeftBracket o _ eo refl
  select_marks (indexed mark up o q c eo y eq eu z ec) zs = marks_by m.LeftBracket o _ eo refl

  left_not_local : {d n : ℕ} {free : Bool} {ts : Tokens} {y : Expr} → Left limit d free n ts y → (zs : Tokens) → Marks zs → r.local_goes (ts ++ zs) ≡ false
  left_not_local (named_left p) zs z = reference_not_local p zs z
  left_not_local (selected {ts = ts} {us = us} l s) zs z = ap r.local_goes (append_assoc ts us zs) ∙ left_not_local l (us ++ zs) (select_marks s zs)

  compound_no_scope : (mark : Mark) (op : Binary) → compound_of mark ≡ Some op → x.same_mark mark m.Scope ≡ false
  compound_no_scope m.Scope op e = absurd cc
  compound_no_scope _ op e = refl

  step_no_scope : (mark : Mark) (op : Binary) → step_of mark ≡ Some op → x.same_mark mark m.Scope ≡ false
  step_no_scope m.Scope op e = absurd cc
  step_no_scope _ op e = refl

  value_marks : {d : ℕ} {at : Place} {y z : Expr} {ts : Tokens} → Value limit d at y ts z → (zs : Tokens) → Marks (ts ++ zs)
  value_marks (given t is inner) zs = marks_by m.Assign t _ is refl
  value_marks (compound mark op t q is f is_q inner) zs = marks_by mark t _ is (compound_no_scope mark op f)
  value_marks (stepped mark op t is f) zs = marks_by mark t _ is (step_no_scope mark op f)

  -- what a first token alone rules out
  not_local_by : (t : Token) (ts : Tokens) → r.begins_local t.kind ≡ false → is_name (t ∷ ts) ≡ false → r.local_goes (t ∷ ts) ≡ false
  unfolding r.local_goes r.named_type
  not_local_by t ts e f = rw (e, f) refl

  not_local_mark : (mark : Mark) (t : Token) (ts : Tokens) → t.kind ≡ k.Mark mark → r.local_goes (t ∷ ts) ≡ false
  not_local_mark mark t ts e = not_local_by t ts (ap r.begins_local e) (mark_no_name mark t ts e)

  not_local_word : (word : Word) (t : Token) (ts : Tokens) → t.kind ≡ k.Word word → r.begins_local (k.Word word) ≡ false → r.local_goes (t ∷ ts) ≡ false
  not_local_word word t ts e f = not_local_by t ts (ap r.begins_local e ∙ f) (word_no_name word t ts e)

  not_local_system : (name : List ℕ) (t : Token) (ts : Tokens) → t.kind ≡ k.System name → r.local_goes (t ∷ ts) ≡ false
  unfolding is_name name_first
  not_local_system name t ts e = not_local_by t ts (ap r.begins_local e) (ap (λ kind. is_some (x.name_kind kind)) e)

  simple_not_local : {d : ℕ} {ts : Tokens} {y : Stmt} → Simple limit d ts y → (rest : Tokens) → r.local_goes (ts ++ rest) ≡ false
  simple_not_local (null t e) rest = not_local_mark m.Semicolon t rest e
  simple_not_local (assign {ts = ts} {us = us} c l le v ec) rest =
      ap r.local_goes (append_assoc (ts ++ us) (c ∷ []) rest ∙ append_assoc ts us (c ∷ rest)) ∙ left_not_local l (us ++ (c ∷ rest)) (value_marks v (c ∷ rest))
  simple_not_local (nonblocking {ts = ts} {us = us} t c l le et y ec) rest =
      ap r.local_goes (append_assoc (ts ++ t ∷ us) (c ∷ []) rest ∙ append_assoc ts (t ∷ us) (c ∷ rest)) ∙ left_not_local l (t ∷ (us ++ (c ∷ rest))) (marks_by m.LessEqual t _ et refl)
  simple_not_local (called {ts = ts} {us = us} o p c ref eo xs ep ec) rest =
      ap r.local_goes (append_assoc (ts ++ o ∷ us) (p ∷ c ∷ []) rest ∙ append_assoc ts (o ∷ us) (p ∷ c ∷ rest)) ∙ reference_not_local ref (o ∷ (us ++ (p ∷ c ∷ rest))) (marks_by m.LeftParen o _ eo refl)
  simple_not_local (called_none {ts = ts} o p c ref eo ep ec) rest = ap r.local_goes (append_assoc ts (o ∷ p ∷ c ∷ []) rest) ∙ reference_not_local ref (o ∷ p ∷ c ∷ rest) (marks_by m.LeftParen o _ eo refl)
  simple_not_local (return_none t c et ec) rest = not_local_word w.Return t _ et refl
  simple_not_local (return_of t c et y ec) rest = not_local_word w.Return t _ et refl
  simple_not_local (break t c et ec) rest = not_local_word w.Break t _ et refl
  simple_not_local (continue t c et ec) rest = not_local_word w.Continue t _ et refl
  simple_not_local (display_none {name = name} t c et e ec) rest = not_local_system name t _ et
  simple_not_local (display_empty {name = name} t o p c et e eo ep ec) rest = not_local_system name t _ et
  simple_not_local (display_of {name = name} t o y p c et e eo ey xs ep ec) rest = not_local_system name t _ et
  simple_not_local (finish_none {name = name} t c et e ec) rest = not_local_system name t _ et
  simple_not_local (finish_empty {name = name} t o p c et e eo ep ec) rest = not_local_system name t _ et
  simple_not_local (finish_of {name = name} t o y p c et e eo ey ep ec) rest = not_local_system name t _ et

  -- what stands before a statement inside begins with a word or a mark
  lead_not_local : {d : ℕ} {ts : Tokens} {y : _} → Leads limit d ts y → (rest : Tokens) → r.local_goes (ts ++ rest) ≡ false
  lead_not_local (while_of t e y) rest = not_local_word w.While t _ e refl
  lead_not_local (repeat_of t e y) rest = not_local_word w.Repeat t _ e refl
  lead_not_local (wait_of t e y) rest = not_local_word w.Wait t _ e refl
  lead_not_local (forever_of t e) rest = not_local_word w.Forever t _ e refl
  lead_not_local (foreach_of t o z b j c p e eo ez eb ej ec ep) rest = not_local_word w.Foreach t _ e refl
  lead_not_local (for_of t o c p q e eo y ec z ep v eq) rest = not_local_word w.For t _ e refl
  lead_not_local (delay_number t n e en) rest = not_local_mark m.Hash t _ e
  lead_not_local (delay_name t e ref) rest = not_local_mark m.Hash t _ e
  lead_not_local (delay_of t e y) rest = not_local_mark m.Hash t _ e
  lead_not_local (event_name t n e en) rest = not_local_mark m.At t _ e
  lead_not_local (event_of t o c e eo ys ec) rest = not_local_mark m.At t _ e
  lead_not_local (event_any t z e ez) rest = not_local_mark m.At t _ e
  lead_not_local (event_any_in t o z c e eo ez ec) rest = not_local_mark m.At t _ e

  statement_not_local : {d n : ℕ} {o : Bool} {ts : Tokens} {y : Stmt} → Statement limit d o n ts y → (rest : Tokens) → r.local_goes (ts ++ rest) ≡ false
  statement_not_local (simple a) rest = simple_not_local a rest
  statement_not_local (block b c eb l xs ec ms) rest = not_local_word w.Begin b _ eb refl
  statement_not_local (led {ts = ts} {us = us} y z le) rest = ap r.local_goes (append_assoc ts us rest) ∙ lead_not_local y (us ++ rest)
  statement_not_local (if_only a e y z le) rest = not_local_word w.If a _ e refl
  statement_not_local (if_else a c e y z le ec v) rest = not_local_word w.If a _ e refl
  statement_not_local (case_of c g e y arms other eg) rest = not_local_word w.Case c _ e refl

  -- what follows a statement
  pub record Done (rest : Tokens) : Type 0 where
    pub no_else : is_word w.Else rest ≡ false
    pub no_colon : is_at m.Colon rest ≡ false

  body_complete : {ts : Tokens} {y : List Stmt} → Body limit ts y → (rest : Tokens) → Done rest → r.body limit (ts ++ rest) ≡ Some (y, rest)
  unfolding r.body
  body_complete (body one le) rest f = rw (statement_complete limit one (suc limit) rest (omega arith) (record { shut = λ _. f.no_else; colon = f.no_colon })) refl

  body_opens : {ts : Tokens} {y : List Stmt} → Body limit ts y → (rest : Tokens) → r.body_goes (ts ++ rest) ≡ true
  unfolding r.body_goes
  body_opens (body one le) rest = ap not (not_word opens_statement w.EndFunction refl (statement_opens limit one) rest)

  body_done : {ts : Tokens} {y : List Stmt} → Body limit ts y → (rest : Tokens) → Done (ts ++ rest)
  body_done (body one le) rest = record { no_else = not_word opens_statement w.Else refl (statement_opens limit one) rest; no_colon = no_mark opens_statement m.Colon refl (statement_opens limit one) rest }

  body_longer : {ts : Tokens} {y : List Stmt} → Body limit ts y → 0 < length ts
  body_longer (body one le) = let o = statement_opens limit one in omega (arith, ap length o.is)

  bodies_read : GroupReads r.body_goes (r.body limit) (Body limit) Done
  bodies_read = record { complete = body_complete; opens = body_opens; fits = body_done; longer = body_longer }

  bodies_not_local : {ts : Tokens} {ys : List Stmt} → Groups (Body limit) ts ys → (g : Token) (rest : Tokens) → g.kind ≡ k.Word w.EndFunction → r.local_goes (ts ++ (g ∷ rest)) ≡ false
  bodies_not_local no_group g rest is_g = not_local_word w.EndFunction g rest is_g refl
  bodies_not_local (next_group {ts = ts} {us = us} (body one le) more) g rest is_g = ap r.local_goes (append_assoc ts us (g ∷ rest)) ∙ statement_not_local one (us ++ (g ∷ rest))

  end_stops : (g : Token) (rest : Tokens) → g.kind ≡ k.Word w.EndFunction → r.body_goes (g ∷ rest) ≡ false
  unfolding r.body_goes
  end_stops g rest is_g = ap not (at_word w.EndFunction g rest is_g)

  function_body_complete : {ts : Tokens} {y : List (TypeTree × Declared) × List Stmt} → FunctionBody limit ts y → (rest : Tokens) → is_at m.Colon rest ≡ false → r.function_body limit (ts ++ rest) ≡ Some (y, rest)
  unfolding r.function_body
  function_body_complete (function_body {ts = ts} {us = us} {ms = ms} g variables all is_g label) rest lacks =
      let tail : Tokens = g ∷ (ms ++ rest) in
      ap (r.function_body limit) (append_assoc ts (us ++ (g ∷ ms)) rest ∙ ap (λ l. ts ++ l) (append_assoc us (g ∷ ms) rest))
      ∙ rw (
        groups_complete r.local_goes (r.local_var limit) locals_read variables [] (us ++ tail) (length (ts ++ (us ++ tail)) + 1) (longer limit ts (us ++ tail)) tt (bodies_not_local all g (ms ++ rest) is_g),
        groups_complete r.body_goes (r.body limit) bodies_read all [] tail (length (us ++ tail) + 1) (longer limit us tail) (record { no_else = other_word w.Else w.EndFunction g (ms ++ rest) is_g refl; no_colon = word_no_mark m.Colon w.EndFunction g (ms ++ rest) is_g }) (end_stops g (ms ++ rest) is_g),
        expect_at w.EndFunction g (ms ++ rest) is_g,
        label_complete label rest lacks,
      ) refl

  named_function_complete : {own : Bool} {of : Option TypeTree} {ts : Tokens} {y : FunctionItem} → NamedFunction limit own of ts y → (rest : Tokens) → is_at m.Colon rest ≡ false → r.function_named limit own of (ts ++ rest) ≡ Some (y, rest)
  unfolding r.function_named
  named_function_complete {own = own} {of = of} (named_function {name = name} {ts = ts} {us = us} n c is_n args is_c inside_one) rest lacks =
      ap (r.function_named limit own of) (ap (λ l. n ∷ l) (append_assoc ts (c ∷ us) rest))
      ∙ rw (name_taken n name (ts ++ (c ∷ (us ++ rest))) is_n, arguments_complete args (c ∷ (us ++ rest)), expect_mark m.Semicolon c (us ++ rest) is_c, function_body_complete inside_one rest lacks) refl

  named_function_bare : {own : Bool} {of : Option TypeTree} {ts : Tokens} {y : FunctionItem} → NamedFunction limit own of ts y → (rest : Tokens) → Bare limit (ts ++ rest)
  named_function_bare (named_function {name = name} {ts = ts} {us = us} n c is_n args is_c inside_one) rest =
      let P : Tokens → Type 0 = Bare limit in rw (append_assoc ts (c ∷ us) rest) (arguments_bare n name is_n args (c ∷ (us ++ rest)))

  function_complete : {ts : Tokens} {y : FunctionItem} → Function limit ts y → (rest : Tokens) → is_at m.Colon rest ≡ false → r.function limit (ts ++ rest) ≡ Some (y, rest)
  unfolding r.function
  function_complete (function {own = own} {of = of} {ts = ts} {us = us} {vs = vs} f is_f life res one) rest lacks =
      let b = named_function_bare one rest in
      ap (r.function limit) (ap (λ l. f ∷ l) (append_assoc ts (us ++ vs) rest ∙ ap (λ l. ts ++ l) (append_assoc us vs rest)))
      ∙ rw (
        expect_at w.Function f (ts ++ (us ++ (vs ++ rest))) is_f,
        lifetime_complete life (us ++ (vs ++ rest)) (result_first lifetime_of None (elsewhere lifetime_of None refl refl refl refl refl refl refl refl refl) (λ n. refl) refl refl refl refl refl res (vs ++ rest) b.first_one),
        result_complete res (vs ++ rest) b,
      ) (named_function_complete one rest lacks)

  -- ---- what packages and modules have

  param_name_complete : {own : Bool} {of : Option TypeTree} {ts : Tokens} {y : Item} → ParamName limit own of ts y → (rest : Tokens) → Follow 11 rest → r.param_name limit own of (ts ++ rest) ≡ Some (y, rest)
  unfolding r.param_name
  param_name_complete (param_name {name = name} {ts = ts} n q is_n is_q one) rest fo = rw (name_taken n name (q ∷ (ts ++ rest)) is_n, expect_mark m.Assign q (ts ++ rest) is_q, expression_complete limit one rest fo) refl

  param_names_read : (own : Bool) (of : Option TypeTree) → Reads Comma (r.param_name limit own of) (ParamName limit own of) (Follow 11)
  param_names_read own of = record { complete = param_name_complete; parted = parted Comma }

  param_names_bare : {own : Bool} {of : Option TypeTree} {ts : Tokens} {ys : List Item} → ListOf Comma (ParamName limit own of) ts ys → (rest : Tokens) → Bare limit (ts ++ rest)
  param_names_bare (listed (param_name {name = name} n q is_n is_q one) more) rest = bare_mark limit n q _ name m.Assign is_n is_q refl

  params_complete : {ts : Tokens} {y : List Item} → Params limit ts y → (rest : Tokens) → r.params limit (ts ++ rest) ≡ Some (y, rest)
  unfolding r.params
  params_complete (params {own = own} {of = of} {ts = ts} {us = us} t c is_t kind all is_c) rest =
      ap (r.params limit) (ap (λ l. t ∷ l) (append_assoc ts (us ++ c ∷ []) rest ∙ ap (λ l. ts ++ l) (append_assoc us (c ∷ []) rest)))
      ∙ rw (
        first_by_reads param_of t own (ts ++ (us ++ (c ∷ rest))) is_t,
        maybe_type_complete limit kind (us ++ (c ∷ rest)) (param_names_bare all (c ∷ rest)),
        list_complete Comma (r.param_name limit own of) (param_names_read own of) all (c ∷ rest) (follow_mark m.Semicolon 11 c rest is_c (omega arith)) (ap (separates Comma) is_c),
        expect_mark m.Semicolon c rest is_c,
      ) refl

  typedef_complete : {ts : Tokens} {y : List Item} → Typedef limit ts y → (rest : Tokens) → r.typedef limit (ts ++ rest) ≡ Some (y, rest)
  unfolding r.typedef
  typedef_complete (typedef {ts = ts} {us = us} t c is_t of what is_c) rest =
      ap (r.typedef limit) (ap (λ l. t ∷ l) (append_assoc ts (us ++ c ∷ []) rest ∙ ap (λ l. ts ++ l) (append_assoc us (c ∷ []) rest)))
      ∙ rw (
        expect_at w.Typedef t (ts ++ (us ++ (c ∷ rest))) is_t,
        type_complete limit of (us ++ (c ∷ rest)) (named_first limit what (c ∷ rest)),
        named_complete limit what (c ∷ rest) (mark_no_dim m.Semicolon c rest is_c refl),
        expect_mark m.Semicolon c rest is_c,
      ) refl

  nettype_complete : {ts : Tokens} {y : List Item} → Nettype limit ts y → (rest : Tokens) → r.nettype limit (ts ++ rest) ≡ Some (y, rest)
  unfolding r.nettype
  nettype_complete (nettype {name = name} {ts = ts} {us = us} t n c is_t of is_n res is_c) rest =
      ap (r.nettype limit) (ap (λ l. t ∷ l) (append_assoc ts (n ∷ (us ++ c ∷ [])) rest ∙ ap (λ l. ts ++ l) (ap (λ l. n ∷ l) (append_assoc us (c ∷ []) rest))))
      ∙ rw (
        expect_at w.Nettype t (ts ++ (n ∷ (us ++ (c ∷ rest)))) is_t,
        type_complete limit of (n ∷ (us ++ (c ∷ rest))) (name_by n (us ++ (c ∷ rest)) name is_n),
        name_taken n name (us ++ (c ∷ rest)) is_n,
        with_complete res (c ∷ rest) (mark_no_word w.With m.Semicolon c rest is_c) (at_other m.Scope m.Semicolon c rest is_c refl),
        expect_mark m.Semicolon c rest is_c,
      ) refl

  -- an item of this form, which packages and modules read alike
  record Shared (ts : Tokens) (ys : List Item) : Type 0 where
    form : Form
    alike : (zs : Tokens) → r.module_by limit form zs ≡ r.package_by limit form zs
    is : (rest : Tokens) → r.form_of (ts ++ rest) ≡ form
    reads : (rest : Tokens) → Done rest → r.package_by limit form (ts ++ rest) ≡ Some (ys, rest)

  form_at : (t : Token) (ts : Tokens) (kind : TokenKind) → t.kind ≡ kind → r.form_of (t ∷ ts) ≡ r.form_by kind (t ∷ ts)
  unfolding r.form_of
  form_at t ts kind e = ap (λ kind. r.form_by kind (t ∷ ts)) e

  param_form : (t : Token) (ts : Tokens) (own : Bool) (kind : TokenKind) → t.kind ≡ kind → param_of kind ≡ Some own → r.form_of (t ∷ ts) ≡ form.Params
  param_form t ts own (k.Word w.Parameter) e f = form_at t ts (k.Word w.Parameter) e
  param_form t ts own (k.Word w.Localparam) e f = form_at t ts (k.Word w.Localparam) e
  param_form t ts own _ e f = absurd cc

  one_function_complete : {ts : Tokens} {y : FunctionItem} → Function limit ts y → (rest : Tokens) → is_at m.Colon rest ≡ false → r.one_function limit (ts ++ rest) ≡ Some (i.Function y ∷ [], rest)
  unfolding r.one_function
  one_function_complete one rest lacks = rw (function_complete one rest lacks) refl

  shared : {ts : Tokens} {ys : List Item} → PackageItem limit ts ys → Shared ts ys
  shared (is_import (imports t c is_t all is_c)) =
      record { form = form.Import; alike = λ zs. refl; is = λ rest. form_at t _ (k.Word w.Import) is_t; reads = λ rest f. imports_complete (imports t c is_t all is_c) rest }
  shared (is_params (params {own = own} t c is_t kind all is_c)) =
      record { form = form.Params; alike = λ zs. refl; is = λ rest. param_form t _ own t.kind refl is_t; reads = λ rest f. params_complete (params t c is_t kind all is_c) rest }
  shared (is_typedef (typedef t c is_t of what is_c)) =
      record { form = form.Typedef; alike = λ zs. refl; is = λ rest. form_at t _ (k.Word w.Typedef) is_t; reads = λ rest f. typedef_complete (typedef t c is_t of what is_c) rest }
  shared (is_nettype (nettype t n c is_t of is_n res is_c)) =
      record { form = form.Nettype; alike = λ zs. refl; is = λ rest. form_at t _ (k.Word w.Nettype) is_t; reads = λ rest f. nettype_complete (nettype t n c is_t of is_n res is_c) rest }
  shared (is_function (function f is_f life res one)) =
      record { form = form.Function; alike = λ zs. refl; is = λ rest. form_at f _ (k.Word w.Function) is_f; reads = λ rest d. one_function_complete (function f is_f life res one) rest d.no_colon }

  pub package_item_complete : {ts : Tokens} {y : List Item} → PackageItem limit ts y → (rest : Tokens) → Done rest → r.package_item limit (ts ++ rest) ≡ Some (y, rest)
  unfolding r.package_item
  package_item_complete {ts = ts} one rest f = let v = shared one in ap (λ g. r.package_by limit g (ts ++ rest)) (v.is rest) ∙ v.reads rest f

  -- ---- what modules alone have

  wire_name_complete : {of : Option TypeTree} {ts : Tokens} {y : Item} → WireName limit of ts y → (rest : Tokens) → Ended rest → r.wire_name limit of (ts ++ rest) ≡ Some (y, rest)
  unfolding r.wire_name
  wire_name_complete (wire_name {name = name} {ts = ts} n is_n v) rest f = rw (name_taken n name (ts ++ rest) is_n, start_complete v rest f) refl

  wire_names_read : (of : Option TypeTree) → Reads Comma (r.wire_name limit of) (WireName limit of) Ended
  wire_names_read of = record { complete = wire_name_complete; parted = ended_comma }

  wire_names_bare : {of : Option TypeTree} {ts : Tokens} {ys : List Item} → ListOf Comma (WireName limit of) ts ys → (rest : Tokens) → After rest → Bare limit (ts ++ rest)
  wire_names_bare (listed {us = us} (wire_name {name = name} {ts = ts} n is_n v) more) rest a =
      let P : Tokens → Type 0 = Bare limit in rw (append_assoc ts us rest) (bare_after n (ts ++ (us ++ rest)) name is_n (start_after v (us ++ rest) (more_after more rest a)))

  wires_reads : {of : Option TypeTree} {ts us : Tokens} {xs : List Item} (c : Token) → MaybeType limit limit ts of → ListOf Comma (WireName limit of) us xs → c.kind ≡ k.Mark m.Semicolon → (rest : Tokens)
      → r.wires limit ((ts ++ (us ++ c ∷ [])) ++ rest) ≡ Some (xs, rest)
  unfolding r.wires
  wires_reads {of = of} {ts = ts} {us = us} c kind all is_c rest =
      ap (r.wires limit) (append_assoc ts (us ++ c ∷ []) rest ∙ ap (λ l. ts ++ l) (append_assoc us (c ∷ []) rest))
      ∙ rw (
        maybe_type_complete limit kind (us ++ (c ∷ rest)) (wire_names_bare all (c ∷ rest) (after_by m.Semicolon c rest is_c refl)),
        list_complete Comma (r.wire_name limit of) (wire_names_read of) all (c ∷ rest) (ended_by m.Semicolon c rest is_c (omega arith) refl) (ap (separates Comma) is_c),
        expect_mark m.Semicolon c rest is_c,
      ) refl

  links_reads : {ts : Tokens} {xs : List Item} (t c : Token) → t.kind ≡ k.Word w.Interconnect → ListOf Comma LinkName ts xs → c.kind ≡ k.Mark m.Semicolon → (rest : Tokens) → r.links (t ∷ ((ts ++ c ∷ []) ++ rest)) ≡ Some (xs, rest)
  unfolding r.links
  links_reads {ts = ts} t c is_t all is_c rest =
      ap r.links (ap (λ l. t ∷ l) (append_assoc ts (c ∷ []) rest))
      ∙ rw (expect_at w.Interconnect t (ts ++ (c ∷ rest)) is_t, list_complete Comma r.link_name link_names_read all (c ∷ rest) tt (ap (separates Comma) is_c), expect_mark m.Semicolon c rest is_c) refl

  nets_complete : {ts : Tokens} {y : List Item} → Nets limit ts y → (rest : Tokens) → r.nets limit (ts ++ rest) ≡ Some (y, rest)
  unfolding r.nets
  nets_complete (wires t c is_t kind all is_c) rest = rw is_t (wires_reads c kind all is_c rest)
  nets_complete (links t c is_t all is_c) rest = rw (ap wire_of is_t) (links_reads t c is_t all is_c rest)

  var_name_complete : {of : TypeTree} {ts : Tokens} {y : Item} → VarName limit of ts y → (rest : Tokens) → Ended rest × (is_at m.LeftBracket rest ≡ false) → r.var_name limit of (ts ++ rest) ≡ Some (y, rest)
  unfolding r.var_name
  var_name_complete {of = of} (var_name {ts = ts} {us = us} what v) rest f =
      ap (r.var_name limit of) (append_assoc ts us rest) ∙ rw (named_complete limit what (us ++ rest) (no_dim (us ++ rest) (start_no_bracket v rest f.1)), start_complete v rest f.0) refl

  var_names_read : (of : TypeTree) → Reads Comma (r.var_name limit of) (VarName limit of) (λ rest. Ended rest × (is_at m.LeftBracket rest ≡ false))
  var_names_read of = record { complete = var_name_complete; parted = λ t rest e. (ended_comma t rest e, comma_no_bracket t rest e) }

  -- the first of the names, and what follows it
  record Named_first (ts : Tokens) : Type 0 where
    name_first_one : NameFirst ts
    after : After name_first_one.others

  var_names_first : {of : TypeTree} {ts : Tokens} {ys : List Item} → ListOf Comma (VarName limit of) ts ys → (rest : Tokens) → After rest → Named_first (ts ++ rest)
  var_names_first (listed {us = more_tokens} (var_name {us = us} (named_ctor {name = name} {ts = ts} n is_n dims) v) more) rest a =
      let P : Tokens → Type 0 = Named_first in
      rw (append_assoc (ts ++ us) more_tokens rest ∙ append_assoc ts us (more_tokens ++ rest)) (record {
        name_first_one = record { token = n; others = ts ++ (us ++ (more_tokens ++ rest)); name = name; is_named = is_n; is = refl };
        after = dims_after dims (us ++ (more_tokens ++ rest)) (start_after v (more_tokens ++ rest) (more_after more rest a));
      })

  vars_complete : {ts : Tokens} {y : List Item} → Vars limit ts y → (rest : Tokens) → r.vars limit (ts ++ rest) ≡ Some (y, rest)
  unfolding r.vars
  vars_complete (vars {of = of} {ts = ts} {us = us} {vs = vs} c v kind all is_c) rest =
      ap (r.vars limit) (append_assoc ts (us ++ (vs ++ c ∷ [])) rest ∙ ap (λ l. ts ++ l) (append_assoc us (vs ++ c ∷ []) rest ∙ ap (λ l. us ++ l) (append_assoc vs (c ∷ []) rest)))
      ∙ rw (
        flag_complete v (us ++ (vs ++ (c ∷ rest))) (type_no_word w.Var refl kind (vs ++ (c ∷ rest))),
        type_complete limit kind (vs ++ (c ∷ rest)) (var_names_first all (c ∷ rest) (after_by m.Semicolon c rest is_c refl)).name_first_one,
        list_complete Comma (r.var_name limit of) (var_names_read of) all (c ∷ rest) (ended_by m.Semicolon c rest is_c (omega arith) refl, at_other m.LeftBracket m.Semicolon c rest is_c refl) (ap (separates Comma) is_c),
        expect_mark m.Semicolon c rest is_c,
      ) refl

  set_complete : {ts : Tokens} {y : Item} → Set limit ts y → (rest : Tokens) → Follow 11 rest → r.set limit (ts ++ rest) ≡ Some (y, rest)
  unfolding r.set
  set_complete (set {ts = ts} {us = us} {x = v} {y = z} q l le is_q one) rest fo =
      ap (r.set limit) (append_assoc ts (q ∷ us) rest)
      ∙ rw (left_side_complete limit l le (q ∷ (us ++ rest)) (follow_mark m.Assign 0 q (us ++ rest) is_q (omega arith)), expect_mark m.Assign q (us ++ rest) is_q, expression_complete limit one rest fo)
      (ap (λ at. Some (i.Assign at v z, rest)) (start_append (left_begins limit l) (q ∷ (us ++ rest))))

  sets_read : Reads Comma (r.set limit) (Set limit) (Follow 11)
  sets_read = record { complete = set_complete; parted = parted Comma }

  assigns_complete : {ts : Tokens} {y : List Item} → Assigns limit ts y → (rest : Tokens) → r.assigns limit (ts ++ rest) ≡ Some (y, rest)
  unfolding r.assigns
  assigns_complete (assigns {ts = ts} t c is_t all is_c) rest =
      ap (r.assigns limit) (ap (λ l. t ∷ l) (append_assoc ts (c ∷ []) rest))
      ∙ rw (
        expect_at w.Assign t (ts ++ (c ∷ rest)) is_t,
        list_complete Comma (r.set limit) sets_read all (c ∷ rest) (follow_mark m.Semicolon 11 c rest is_c (omega arith)) (ap (separates Comma) is_c),
        expect_mark m.Semicolon c rest is_c,
      ) refl

  instance_name_complete : {at : Place} {of : List ℕ} {ps : List Conn} {ts : Tokens} {y : Item} → InstanceName limit at of ps ts y → (rest : Tokens) → r.instance_name limit at of ps (ts ++ rest) ≡ Some (y, rest)
  unfolding r.instance_name
  instance_name_complete (instance_name {name = name} {ts = ts} n is_n one) rest = rw (name_taken n name (ts ++ rest) is_n, conns_complete one rest) refl

  instance_names_read : (at : Place) (of : List ℕ) (ps : List Conn) → Reads Comma (r.instance_name limit at of ps) (InstanceName limit at of ps) (λ rest. Unit {0})
  instance_names_read at of ps = record { complete = λ one rest fit. instance_name_complete one rest; parted = λ t rest e. tt }

  conns_paren : {ts : Tokens} {y : List Conn} → Conns limit ts y → (rest : Tokens) → is_at m.LeftParen (ts ++ rest) ≡ true
  conns_paren (no_conns o c is_o is_c) rest = at_mark m.LeftParen o _ is_o
  conns_paren (by_order o c is_o one all is_c) rest = at_mark m.LeftParen o _ is_o
  conns_paren (after_hole o c is_o one all is_c) rest = at_mark m.LeftParen o _ is_o
  conns_paren (by_name o c is_o all is_c) rest = at_mark m.LeftParen o _ is_o

  -- the first instance: a name and a bracket
  record Called_first (ts : Tokens) : Type 0 where
    name_first_one : NameFirst ts
    paren : is_at m.LeftParen name_first_one.others ≡ true

  instance_names_first : {at : Place} {of : List ℕ} {ps : List Conn} {ts : Tokens} {ys : List Item} → ListOf Comma (InstanceName limit at of ps) ts ys → (rest : Tokens) → Called_first (ts ++ rest)
  instance_names_first (listed {us = us} (instance_name {name = name} {ts = ts} n is_n one) more) rest =
      let P : Tokens → Type 0 = Called_first in rw (append_assoc ts us rest) (record { name_first_one = record { token = n; others = ts ++ (us ++ rest); name = name; is_named = is_n; is = refl }; paren = conns_paren one (us ++ rest) })

  maybe_params_complete : {ts : Tokens} {y : List Conn} → MaybeParams limit ts y → (rest : Tokens) → is_at m.Hash rest ≡ false → r.maybe_params limit (ts ++ rest) ≡ Some (y, rest)
  unfolding r.maybe_params
  maybe_params_complete no_params rest lacks = rw lacks refl
  maybe_params_complete (with_params {ts = ts} t is_t one) rest lacks = rw (at_mark m.Hash t (ts ++ rest) is_t) (conns_complete one rest)

  instances_complete : {ts : Tokens} {y : List Item} → Instances limit ts y → (rest : Tokens) → r.instances limit (ts ++ rest) ≡ Some (y, rest)
  unfolding r.instances
  instances_complete (instances {of = of} {ps = ps} {ts = ts} {us = us} n c is_n params_one all is_c) rest =
      ap (r.instances limit) (ap (λ l. n ∷ l) (append_assoc ts (us ++ c ∷ []) rest ∙ ap (λ l. ts ++ l) (append_assoc us (c ∷ []) rest)))
      ∙ rw (
        name_taken n of (ts ++ (us ++ (c ∷ rest))) is_n,
        maybe_params_complete params_one (us ++ (c ∷ rest)) (name_no_mark m.Hash (instance_names_first all (c ∷ rest)).name_first_one),
        list_complete Comma (r.instance_name limit n.at of ps) (instance_names_read n.at of ps) all (c ∷ rest) tt (ap (separates Comma) is_c),
        expect_mark m.Semicolon c rest is_c,
      ) refl

  procedure_complete : {ts : Tokens} {y : List Item} → Procedure limit ts y → (rest : Tokens) → Done rest → r.procedure limit (ts ++ rest) ≡ Some (y, rest)
  unfolding r.procedure
  procedure_complete (procedure {kind = kind} {ts = ts} t is_t one le) rest f =
      rw (first_by_reads proc_of t kind (ts ++ rest) is_t, statement_complete limit one (suc limit) rest (omega arith) (record { shut = λ _. f.no_else; colon = f.no_colon })) refl

  -- ---- the forms of these

  wire_form : (t : Token) (ts : Tokens) (kind : TokenKind) → t.kind ≡ kind → wire_of kind ≡ true → r.form_of (t ∷ ts) ≡ form.Nets
  wire_form t ts (k.Word w.Wire) e f = form_at t ts (k.Word w.Wire) e
  wire_form t ts (k.Word w.Tri) e f = form_at t ts (k.Word w.Tri) e
  wire_form t ts _ e f = absurd cc

  proc_form : (t : Token) (ts : Tokens) (p : ProcKind) (kind : TokenKind) → t.kind ≡ kind → proc_of kind ≡ Some p → r.form_of (t ∷ ts) ≡ form.Procedure
  proc_form t ts p (k.Word w.Initial) e f = form_at t ts (k.Word w.Initial) e
  proc_form t ts p (k.Word w.Always) e f = form_at t ts (k.Word w.Always) e
  proc_form t ts p (k.Word w.AlwaysComb) e f = form_at t ts (k.Word w.AlwaysComb) e
  proc_form t ts p (k.Word w.AlwaysFf) e f = form_at t ts (k.Word w.AlwaysFf) e
  proc_form t ts p _ e f = absurd cc

  hash_form : (n t : Token) (ts : Tokens) (name : List ℕ) → n.kind ≡ k.Name name → t.kind ≡ k.Mark m.Hash → r.form_of (n ∷ t ∷ ts) ≡ form.Instances
  unfolding r.instance_goes
  hash_form n t ts name e f = form_at n (t ∷ ts) (k.Name name) e ∙ rw (at_mark m.Hash t ts f) refl

  called_form : (n : Token) (ts : Tokens) (name : List ℕ) → n.kind ≡ k.Name name → (v : Called_first ts) → r.form_of (n ∷ ts) ≡ form.Instances
  unfolding r.instance_goes is_name name_first
  called_form n ts name e v =
      let g = v.name_first_one in
      form_at n ts (k.Name name) e ∙ rw (name_no_mark m.Hash g, name_kind (λ kind. is_some (x.name_kind kind)) g, ap (λ l. is_at m.LeftParen (drop 1 l)) g.is, v.paren) refl

  instances_form : {ts : Tokens} {y : List Item} → Instances limit ts y → (rest : Tokens) → r.form_of (ts ++ rest) ≡ form.Instances
  instances_form (instances {of = of} {us = us} n c is_n no_params all is_c) rest =
      called_form n ((us ++ c ∷ []) ++ rest) of is_n (let P : Tokens → Type 0 = Called_first in rw (append_assoc us (c ∷ []) rest) (instance_names_first all (c ∷ rest)))
  instances_form (instances {of = of} n c is_n (with_params t is_t one) all is_c) rest = hash_form n t _ of is_n is_t

  -- a type that is a name begins no instance
  alone_form : (v : Token) (ts : Tokens) (name : List ℕ) → v.kind ≡ k.Name name → (g : Named_first ts) → r.form_of (v ∷ ts) ≡ form.Vars
  unfolding r.instance_goes is_name name_first
  alone_form v ts name e g =
      let n = g.name_first_one in
      form_at v ts (k.Name name) e
      ∙ rw (name_no_mark m.Hash n, name_kind (λ kind. is_some (x.name_kind kind)) n, ap (λ l. is_at m.LeftParen (drop 1 l)) n.is, after_no_mark m.LeftParen refl g.after) refl

  scoped_form : (p q : Token) (ts : Tokens) (name : List ℕ) → p.kind ≡ k.Name name → q.kind ≡ k.Mark m.Scope → r.form_of (p ∷ q ∷ ts) ≡ form.Vars
  unfolding r.instance_goes
  scoped_form p q ts name e f = form_at p (q ∷ ts) (k.Name name) e ∙ rw (at_other m.Hash m.Scope q ts f refl, mark_no_name m.Scope q ts f) refl

  type_form : {d : ℕ} {ts : Tokens} {y : TypeTree} → TypeIs limit d ts y → (rest : Tokens) → Named_first rest → r.form_of (ts ++ rest) ≡ form.Vars
  unfolding r.form_of
  type_form (plain_type (vector {word = word} {ts = ts} {us = us} v is one two)) rest g = vectors v.kind word is
    where
      vectors : (kind : TokenKind) (word : IntWord) → vector_of kind ≡ Some word → r.form_by kind (v ∷ ((ts ++ us) ++ rest)) ≡ form.Vars
      vectors (k.Word w.Logic) word e = refl
      vectors (k.Word w.Reg) word e = refl
      vectors (k.Word w.Bit) word e = refl
      vectors _ word e = absurd cc
  type_form (plain_type (atom {word = word} {ts = ts} v is one)) rest g = atoms v.kind word is
    where
      atoms : (kind : TokenKind) (word : IntWord) → atom_of kind ≡ Some word → r.form_by kind (v ∷ (ts ++ rest)) ≡ form.Vars
      atoms (k.Word w.Byte) word e = refl
      atoms (k.Word w.Shortint) word e = refl
      atoms (k.Word w.Int) word e = refl
      atoms (k.Word w.Longint) word e = refl
      atoms (k.Word w.Integer) word e = refl
      atoms (k.Word w.Time) word e = refl
      atoms _ word e = absurd cc
  type_form (plain_type (known (alone {name = name} v is))) rest g = alone_form v rest name is g
  type_form (plain_type (known (scoped {scope = scope} p q v ep eq ev))) rest g = scoped_form p q (v ∷ rest) scope ep eq
  type_form (struct_type (structure {ts = ts} s o c is_s is_o one is_c)) rest g = form_at s (o ∷ ((ts ++ c ∷ []) ++ rest)) (k.Word w.Struct) is_s

  vars_form : {ts : Tokens} {y : List Item} → Vars limit ts y → (rest : Tokens) → r.form_of (ts ++ rest) ≡ form.Vars
  vars_form (vars {us = us} {vs = vs} c no_word kind all is_c) rest =
      ap r.form_of (append_assoc us (vs ++ c ∷ []) rest ∙ ap (λ l. us ++ l) (append_assoc vs (c ∷ []) rest)) ∙ type_form kind (vs ++ (c ∷ rest)) (var_names_first all (c ∷ rest) (after_by m.Semicolon c rest is_c refl))
  vars_form (vars c (one_word t is_t) kind all is_c) rest = form_at t _ (k.Word w.Var) is_t

  pub module_item_complete : {ts : Tokens} {y : List Item} → ModuleItem limit ts y → (rest : Tokens) → Done rest → r.module_item limit (ts ++ rest) ≡ Some (y, rest)
  unfolding r.module_item
  module_item_complete {ts = ts} (is_shared one) rest f = let v = shared one in ap (λ g. r.module_by limit g (ts ++ rest)) (v.is rest) ∙ v.alike (ts ++ rest) ∙ v.reads rest f
  module_item_complete {ts = all_tokens} (is_nets (wires {ts = ts} {us = us} t c is_t kind all is_c)) rest f =
      ap (λ g. r.module_by limit g (all_tokens ++ rest)) (wire_form t ((ts ++ (us ++ c ∷ [])) ++ rest) t.kind refl is_t) ∙ nets_complete (wires t c is_t kind all is_c) rest
  module_item_complete {ts = all_tokens} (is_nets (links {ts = ts} t c is_t all is_c)) rest f =
      ap (λ g. r.module_by limit g (all_tokens ++ rest)) (form_at t ((ts ++ c ∷ []) ++ rest) (k.Word w.Interconnect) is_t) ∙ nets_complete (links t c is_t all is_c) rest
  module_item_complete {ts = ts} (is_vars one) rest f = ap (λ g. r.module_by limit g (ts ++ rest)) (vars_form one rest) ∙ vars_complete one rest
  module_item_complete {ts = all_tokens} (is_assigns (assigns {ts = ts} t c is_t all is_c)) rest f =
      ap (λ g. r.module_by limit g (all_tokens ++ rest)) (form_at t ((ts ++ c ∷ []) ++ rest) (k.Word w.Assign) is_t) ∙ assigns_complete (assigns t c is_t all is_c) rest
  module_item_complete {ts = ts} (is_instances one) rest f = ap (λ g. r.module_by limit g (ts ++ rest)) (instances_form one rest) ∙ instances_complete one rest
  module_item_complete {ts = all_tokens} (is_procedure (procedure {kind = kind} {ts = ts} t is_t one le)) rest f =
      ap (λ g. r.module_by limit g (all_tokens ++ rest)) (proc_form t (ts ++ rest) kind t.kind refl is_t) ∙ procedure_complete (procedure t is_t one le) rest f
