-- What the grammar derives as a module, a package or a file is read, before what may follow it.
use Rattle.std.proofs.Common.{◌≡◌, ℕ, ◌+◌, ◌<◌, Bool, true, false, not, List, [], ◌∷◌, ◌++◌, length, Option, Some, None, refl, sym, ap, ◌∙◌, arith, append_assoc}
use Rattle.nt_value.specs.declared.kind.ProcKind.{ProcKind}
use Rattle.nt_ast.specs.declared.path.Declared.{Declared}
use Rattle.nt_ast.specs.declared.types.TypeTree.{TypeTree}
use Rattle.nt_items.specs.declared.item.Way.{Way}
use Rattle.nt_items.specs.declared.item.PortKind.{PortKind}
use Rattle.nt_items.specs.declared.item.Port.{Port}
use Rattle.nt_items.specs.declared.item.Item.{Item}
use Rattle.nt_items.specs.declared.item.Item.TheVariants as i
use Rattle.nt_lexer.specs.declared.kinds.Mark.{Mark}
use Rattle.nt_lexer.specs.declared.kinds.Mark.TheVariants as m
use Rattle.nt_lexer.specs.declared.kinds.Word.{Word}
use Rattle.nt_lexer.specs.declared.kinds.Word.TheVariants as w
use Rattle.nt_lexer.specs.declared.kinds.TokenKind.{TokenKind}
use Rattle.nt_lexer.specs.declared.kinds.TokenKind.TheVariants as k
use Rattle.nt_lexer.specs.declared.kinds.Token.{Token}
use Rattle.nt_read_expr.specs.declared.list.Separator.TheVariants.{Comma}
use Rattle.nt_read_expr.specs.Tables.{Tokens, separates}
use Rattle.nt_read_expr.specs.Lists.{MoreOf, no_item, next_item, ListOf, listed}
use Rattle.nt_read_expr.specs.Reader as x
use Rattle.nt_read_expr.specs.Reader.{Read, ◌>>=◌, either, first, is_at, expect, below, whole, list_of, is_some}
use Rattle.nt_read_stmt.specs.Statements.{Label}
use Rattle.nt_read_stmt.specs.Reader.{is_word_kind, is_word}
use Rattle.nt_read_unit.specs.Groups.{Groups}
use Rattle.nt_read_unit.specs.Types.{Named, MaybeType}
use Rattle.nt_read_item.specs.Tables.{param_of, wire_of, proc_of}
use Rattle.nt_read_item.specs.Parts.{no_word, one_word}
use Rattle.nt_read_item.specs.Items.{Import, PackageItem, ModuleItem}
use Rattle.nt_read_item.specs.Reader as ir
use Rattle.nt_read_module.specs.declared.carried.PortText.{PortText}
use Rattle.nt_read_module.specs.declared.carried.ParamText.{ParamText}
use Rattle.nt_read_module.specs.declared.carried.Head.{Head}
use Rattle.nt_read_module.specs.Tables.{way_of, net_of}
use Rattle.nt_read_module.specs.Carried.{ports_from}
use Rattle.nt_read_module.specs.Units.{MaybeBy, not_written, written, PortIs, port, ParamIs, param, ParamList, no_param_list, param_list, PortList, no_port_list, no_ports, port_list, HeadIs, head, UnitIs, is_module, is_package, is_item, Source}
use Rattle.nt_read_module.specs.Reader as r
use Rattle.nt_read_expr.proofs.Follows.{Follow, at_mark, at_other, expect_mark, follow_mark, false_of, kind_is}
use Rattle.nt_read_expr.proofs.Lists.{Reads, comma_of, list_complete}
use Rattle.nt_read_expr.proofs.Complete.{parted, expression_complete, longer}
use Rattle.nt_read_stmt.proofs.Firsts.{at_word, other_word, mark_no_word, word_no_mark, word_is, expect_at}
use Rattle.nt_read_stmt.proofs.Pieces.{label_complete}
use Rattle.nt_read_item.specs.Items.{imports, params, typedef, nettype, is_import, is_params, is_typedef, is_nettype, is_function, wires, links, vars, assigns, instances, procedure, is_shared, is_nets, is_vars, is_assigns, is_instances, is_procedure}
use Rattle.nt_read_item.specs.Functions.{function}
use Rattle.nt_read_unit.specs.Types.{named as named_ctor}
use Rattle.nt_read_unit.proofs.GroupLaws.{Reads as GroupReads, groups_complete}
use Rattle.nt_read_unit.proofs.Complete.{name_taken, NameFirst, name_by, no_dim, elsewhere, named_complete, type_first, maybe_type_first, Bare, bare_by, bare_mark, maybe_type_complete}
use Rattle.nt_read_item.proofs.Complete.{After, after_by, after_no_mark, after_no_name, after_comma, dims_after, flag_complete, imports_complete, Done, package_item_complete, module_item_complete}

-- ---- what items and units begin with

abbrev item_begins : TokenKind → Bool
item_begins (k.Word w.Import) = true
item_begins (k.Word w.Parameter) = true
item_begins (k.Word w.Localparam) = true
item_begins (k.Word w.Typedef) = true
item_begins (k.Word w.Nettype) = true
item_begins (k.Word w.Function) = true
item_begins (k.Word w.Wire) = true
item_begins (k.Word w.Tri) = true
item_begins (k.Word w.Interconnect) = true
item_begins (k.Word w.Var) = true
item_begins (k.Word w.Struct) = true
item_begins (k.Word w.Logic) = true
item_begins (k.Word w.Reg) = true
item_begins (k.Word w.Bit) = true
item_begins (k.Word w.Byte) = true
item_begins (k.Word w.Shortint) = true
item_begins (k.Word w.Int) = true
item_begins (k.Word w.Longint) = true
item_begins (k.Word w.Integer) = true
item_begins (k.Word w.Time) = true
item_begins (k.Word w.Assign) = true
item_begins (k.Word w.Initial) = true
item_begins (k.Word w.Always) = true
item_begins (k.Word w.AlwaysComb) = true
item_begins (k.Word w.AlwaysFf) = true
item_begins (k.Name name) = true
item_begins _ = false

abbrev unit_begins : TokenKind → Bool
unit_begins (k.Word w.Module) = true
unit_begins (k.Word w.Package) = true
unit_begins kind = item_begins kind

-- of what a test holds of the first token, no word or mark is that it does not hold of
tested_no_word : (test : TokenKind → Bool) (word : Word) → test (k.Word word) ≡ false → (s : Tokens) → test (first s) ≡ true → is_word word s ≡ false
unfolding is_word
tested_no_word test word lacks s has = false_of (is_word_kind word (first s)) (λ e. let q : true ≡ false = sym has ∙ ap test (word_is word (first s) e) ∙ lacks in absurd cc)

tested_no_mark : (test : TokenKind → Bool) (mark : Mark) → test (k.Mark mark) ≡ false → (s : Tokens) → test (first s) ≡ true → is_at mark s ≡ false
unfolding is_at
tested_no_mark test mark lacks s has = false_of (x.is_kind mark (first s)) (λ e. let q : true ≡ false = sym has ∙ ap test (kind_is mark (first s) e) ∙ lacks in absurd cc)

tested_longer : (test : TokenKind → Bool) → test k.End ≡ false → (s : Tokens) → test (first (s ++ [])) ≡ true → 0 < length s
tested_longer test lacks [] has = absurd (let q : true ≡ false = sym has ∙ lacks in cc)
tested_longer test lacks (t ∷ ts) has = omega arith

param_begins : (kind : TokenKind) (own : Bool) → param_of kind ≡ Some own → item_begins kind ≡ true
param_begins (k.Word w.Parameter) own e = refl
param_begins (k.Word w.Localparam) own e = refl
param_begins _ own e = absurd cc

wire_begins : (kind : TokenKind) → wire_of kind ≡ true → item_begins kind ≡ true
wire_begins (k.Word w.Wire) e = refl
wire_begins (k.Word w.Tri) e = refl
wire_begins _ e = absurd cc

proc_begins : (kind : TokenKind) (p : ProcKind) → proc_of kind ≡ Some p → item_begins kind ≡ true
proc_begins (k.Word w.Initial) p e = refl
proc_begins (k.Word w.Always) p e = refl
proc_begins (k.Word w.AlwaysComb) p e = refl
proc_begins (k.Word w.AlwaysFf) p e = refl
proc_begins _ p e = absurd cc

module _ (limit : ℕ) where
  package_item_begins : {ts : Tokens} {ys : List Item} → PackageItem limit ts ys → (rest : Tokens) → item_begins (first (ts ++ rest)) ≡ true
  package_item_begins (is_import (imports t c is_t all is_c)) rest = ap item_begins is_t
  package_item_begins (is_params (params {own = own} t c is_t kind all is_c)) rest = param_begins t.kind own is_t
  package_item_begins (is_typedef (typedef t c is_t of what is_c)) rest = ap item_begins is_t
  package_item_begins (is_nettype (nettype t n c is_t of is_n res is_c)) rest = ap item_begins is_t
  package_item_begins (is_function (function f is_f life res one)) rest = ap item_begins is_f

  module_item_begins : {ts : Tokens} {ys : List Item} → ModuleItem limit ts ys → (rest : Tokens) → item_begins (first (ts ++ rest)) ≡ true
  module_item_begins (is_shared one) rest = package_item_begins one rest
  module_item_begins (is_nets (wires t c is_t kind all is_c)) rest = wire_begins t.kind is_t
  module_item_begins (is_nets (links t c is_t all is_c)) rest = ap item_begins is_t
  module_item_begins (is_vars (vars {us = us} {vs = vs} c no_word kind all is_c)) rest =
      ap (λ l. item_begins (first l)) (append_assoc us (vs ++ c ∷ []) rest) ∙ type_first limit item_begins true (elsewhere item_begins true refl refl refl refl refl refl refl refl refl) (λ n. refl) refl kind ((vs ++ c ∷ []) ++ rest)
  module_item_begins (is_vars (vars c (one_word t is_t) kind all is_c)) rest = ap item_begins is_t
  module_item_begins (is_assigns (assigns t c is_t all is_c)) rest = ap item_begins is_t
  module_item_begins (is_instances (instances n c is_n params_one all is_c)) rest = ap item_begins is_n
  module_item_begins (is_procedure (procedure {kind = kind} t is_t one le)) rest = proc_begins t.kind kind is_t

  done_by : (test : TokenKind → Bool) → test (k.Word w.Else) ≡ false → test (k.Mark m.Colon) ≡ false → (s : Tokens) → test (first s) ≡ true → Done limit s
  done_by test e f s has = record { no_else = tested_no_word test w.Else e s has; no_colon = tested_no_mark test m.Colon f s has }

  -- ---- heads

  maybe_by_complete : {A : Type 0} {f : TokenKind → Option A} {ts : Tokens} {y : Option A} → MaybeBy f ts y → (rest : Tokens) → f (first rest) ≡ None → r.maybe_by f (ts ++ rest) ≡ Some (y, rest)
  unfolding r.maybe_by
  maybe_by_complete not_written rest lacks = rw lacks refl
  maybe_by_complete (written t is) rest lacks = rw is refl

  net_no_way : (kind : TokenKind) (p : PortKind) → net_of kind ≡ Some p → way_of kind ≡ None
  net_no_way (k.Word w.Wire) p e = refl
  net_no_way (k.Word w.Tri) p e = refl
  net_no_way (k.Word w.Var) p e = refl
  net_no_way (k.Word w.Interconnect) p e = refl
  net_no_way _ p e = absurd cc

  type_no_way : {ts : Tokens} {y : Option TypeTree} → MaybeType limit limit ts y → (rest : Tokens) → NameFirst rest → way_of (first (ts ++ rest)) ≡ None
  type_no_way one rest n = maybe_type_first limit way_of None (elsewhere way_of None refl refl refl refl refl refl refl refl refl) (λ n. refl) refl refl refl refl one rest n

  type_no_net : {ts : Tokens} {y : Option TypeTree} → MaybeType limit limit ts y → (rest : Tokens) → NameFirst rest → net_of (first (ts ++ rest)) ≡ None
  type_no_net one rest n = maybe_type_first limit net_of None (elsewhere net_of None refl refl refl refl refl refl refl refl refl) (λ n. refl) refl refl refl refl one rest n

  kind_no_way : {ts us : Tokens} {p : Option PortKind} {y : Option TypeTree} → MaybeBy net_of ts p → MaybeType limit limit us y → (rest : Tokens) → NameFirst rest → way_of (first (ts ++ (us ++ rest))) ≡ None
  kind_no_way not_written one rest n = type_no_way one rest n
  kind_no_way (written {a = p} t is) one rest n = net_no_way t.kind p is

  -- what follows a port: a comma or a bracket
  record PortEnd (rest : Tokens) : Type 0 where
    after : After rest
    no_bracket : is_at m.LeftBracket rest ≡ false

  named_bare : {ts : Tokens} {y : Declared} → Named limit limit ts y → (rest : Tokens) → After rest → Bare limit (ts ++ rest)
  named_bare (named_ctor {name = name} {ts = ts} n is_n dims) rest a =
      let b = dims_after limit dims rest a in bare_by limit n (ts ++ rest) name is_n (after_no_name b) (after_no_mark m.Scope refl b)

  port_complete : {ts : Tokens} {y : PortText} → PortIs limit ts y → (rest : Tokens) → PortEnd rest → r.port limit (ts ++ rest) ≡ Some (y, rest)
  unfolding r.port
  port_complete (port {ts = ts} {us = us} {vs = vs} {ws = ws} way kind of what) rest f =
      let b = named_bare what rest f.after in
      ap (r.port limit) (append_assoc ts (us ++ (vs ++ ws)) rest ∙ ap (λ l. ts ++ l) (append_assoc us (vs ++ ws) rest ∙ ap (λ l. us ++ l) (append_assoc vs ws rest)))
      ∙ rw (
        maybe_by_complete way (us ++ (vs ++ (ws ++ rest))) (kind_no_way kind of (ws ++ rest) b.first_one),
        maybe_by_complete kind (vs ++ (ws ++ rest)) (type_no_net of (ws ++ rest) b.first_one),
        maybe_type_complete limit of (ws ++ rest) b,
        named_complete limit what rest (no_dim rest f.no_bracket),
      ) refl

  ports_read : Reads Comma (r.port limit) (PortIs limit) PortEnd
  ports_read = record { complete = port_complete; parted = λ t rest e. record { after = after_comma t rest e; no_bracket = at_other m.LeftBracket m.Comma t rest (comma_of t.kind e) refl } }

  param_complete : {ts : Tokens} {y : ParamText} → ParamIs limit ts y → (rest : Tokens) → Follow 11 rest → r.param limit (ts ++ rest) ≡ Some (y, rest)
  unfolding r.param is_word
  param_complete (param {name = name} {ts = ts} {us = us} {vs = vs} n q word of is_n is_q one) rest fo =
      let tail : Tokens = n ∷ q ∷ (vs ++ rest) in
      ap (r.param limit) (append_assoc ts (us ++ (n ∷ q ∷ vs)) rest ∙ ap (λ l. ts ++ l) (append_assoc us (n ∷ q ∷ vs) rest))
      ∙ rw (
        flag_complete word (us ++ tail) (maybe_type_first limit (is_word_kind w.Parameter) false (elsewhere (is_word_kind w.Parameter) false refl refl refl refl refl refl refl refl refl) (λ n. refl) refl refl refl refl of tail (name_by n (q ∷ (vs ++ rest)) name is_n)),
        maybe_type_complete limit of tail (bare_mark limit n q (vs ++ rest) name m.Assign is_n is_q refl),
        name_taken n name (q ∷ (vs ++ rest)) is_n,
        expect_mark m.Assign q (vs ++ rest) is_q,
        expression_complete limit one rest fo,
      ) refl

  params_read : Reads Comma (r.param limit) (ParamIs limit) (Follow 11)
  params_read = record { complete = param_complete; parted = parted Comma }

  param_list_complete : {ts : Tokens} {y : List (Option TypeTree × Declared)} → ParamList limit ts y → (rest : Tokens) → is_at m.Hash rest ≡ false → r.param_list limit (ts ++ rest) ≡ Some (y, rest)
  unfolding r.param_list r.params_in
  param_list_complete no_param_list rest lacks = rw lacks refl
  param_list_complete (param_list {ts = ts} h o c is_h is_o all is_c) rest lacks =
      ap (r.param_list limit) (ap (λ l. h ∷ o ∷ l) (append_assoc ts (c ∷ []) rest))
      ∙ rw (
        at_mark m.Hash h (o ∷ (ts ++ (c ∷ rest))) is_h,
        expect_mark m.LeftParen o (ts ++ (c ∷ rest)) is_o,
        list_complete Comma (r.param limit) params_read all (c ∷ rest) (follow_mark m.RightParen 11 c rest is_c (omega arith)) (ap (separates Comma) is_c),
        expect_mark m.RightParen c rest is_c,
      ) refl

  word_no_paren : (kind : TokenKind) (p : Way) → way_of kind ≡ Some p → x.is_kind m.RightParen kind ≡ false
  word_no_paren (k.Word _) p e = refl
  word_no_paren _ p e = absurd cc

  net_no_paren : (kind : TokenKind) (p : PortKind) → net_of kind ≡ Some p → x.is_kind m.RightParen kind ≡ false
  net_no_paren (k.Word _) p e = refl
  net_no_paren _ p e = absurd cc

  port_no_paren : {ts : Tokens} {y : PortText} → PortIs limit ts y → (rest : Tokens) → PortEnd rest → is_at m.RightParen (ts ++ rest) ≡ false
  unfolding is_at
  port_no_paren (port {us = us} {vs = vs} {ws = ws} (written {a = p} t is) kind of what) rest f = word_no_paren t.kind p is
  port_no_paren (port {vs = vs} {ws = ws} not_written (written {a = p} t is) of what) rest f = net_no_paren t.kind p is
  port_no_paren (port {vs = vs} {ws = ws} not_written not_written of what) rest f =
      let b = named_bare what rest f.after in
      ap (λ l. x.is_kind m.RightParen (first l)) (append_assoc vs ws rest)
      ∙ maybe_type_first limit (x.is_kind m.RightParen) false (elsewhere (x.is_kind m.RightParen) false refl refl refl refl refl refl refl refl refl) (λ n. refl) refl refl refl refl of (ws ++ rest) b.first_one

  -- a list of ports is no bracket alone
  ports_no_paren : {ts : Tokens} {ys : List PortText} → ListOf Comma (PortIs limit) ts ys → (c : Token) (rest : Tokens) → c.kind ≡ k.Mark m.RightParen → is_at m.RightParen (ts ++ (c ∷ rest)) ≡ false
  ports_no_paren (listed {ts = ts} {us = us} one more) c rest is_c =
      ap (is_at m.RightParen) (append_assoc ts us (c ∷ rest)) ∙ port_no_paren one (us ++ (c ∷ rest)) (more_end more c rest is_c)
    where
      more_end : {us : Tokens} {ys : List PortText} → MoreOf Comma (PortIs limit) us ys → (c : Token) (rest : Tokens) → c.kind ≡ k.Mark m.RightParen → PortEnd (us ++ (c ∷ rest))
      more_end no_item c rest is_c = record { after = after_by m.RightParen c rest is_c refl; no_bracket = at_other m.LeftBracket m.RightParen c rest is_c refl }
      more_end (next_item t e z zs) c rest is_c = record { after = after_comma t _ e; no_bracket = at_other m.LeftBracket m.Comma t _ (comma_of t.kind e) refl }

  some_ports_reads : {ts : Tokens} {ps : List PortText} (c : Token) → ListOf Comma (PortIs limit) ts ps → c.kind ≡ k.Mark m.RightParen → (rest : Tokens) → r.some_ports limit (ts ++ (c ∷ rest)) ≡ Some (ports_from None ps, rest)
  unfolding r.some_ports
  some_ports_reads c all is_c rest =
      rw (
        list_complete Comma (r.port limit) ports_read all (c ∷ rest) (record { after = after_by m.RightParen c rest is_c refl; no_bracket = at_other m.LeftBracket m.RightParen c rest is_c refl }) (ap (separates Comma) is_c),
        expect_mark m.RightParen c rest is_c,
      ) refl

  port_list_complete : {ts : Tokens} {y : List Port} → PortList limit ts y → (rest : Tokens) → is_at m.LeftParen rest ≡ false → r.port_list limit (ts ++ rest) ≡ Some (y, rest)
  unfolding r.port_list
  port_list_complete no_port_list rest lacks = rw lacks refl
  port_list_complete (no_ports o c is_o is_c) rest lacks = rw (at_mark m.LeftParen o (c ∷ rest) is_o, at_mark m.RightParen c rest is_c) refl
  port_list_complete (port_list {ts = ts} o c is_o all is_c) rest lacks =
      ap (r.port_list limit) (ap (λ l. o ∷ l) (append_assoc ts (c ∷ []) rest))
      ∙ rw (at_mark m.LeftParen o (ts ++ (c ∷ rest)) is_o, ports_no_paren all c rest is_c) (some_ports_reads c all is_c rest)

  -- after imports stand a `#`, a bracket or a semicolon
  tail_mark : {us vs : Tokens} {y : List (Option TypeTree × Declared)} {z : List Port} → ParamList limit us y → PortList limit vs z → (c : Token) (rest : Tokens) → c.kind ≡ k.Mark m.Semicolon
      → is_word w.Import (us ++ (vs ++ (c ∷ rest))) ≡ false
  tail_mark no_param_list no_port_list c rest is_c = mark_no_word w.Import m.Semicolon c rest is_c
  tail_mark no_param_list (no_ports o p is_o is_p) c rest is_c = mark_no_word w.Import m.LeftParen o _ is_o
  tail_mark no_param_list (port_list o p is_o all is_p) c rest is_c = mark_no_word w.Import m.LeftParen o _ is_o
  tail_mark (param_list h o p is_h is_o all is_p) ports_one c rest is_c = mark_no_word w.Import m.Hash h _ is_h

  ports_no_hash : {vs : Tokens} {z : List Port} → PortList limit vs z → (c : Token) (rest : Tokens) → c.kind ≡ k.Mark m.Semicolon → is_at m.Hash (vs ++ (c ∷ rest)) ≡ false
  ports_no_hash no_port_list c rest is_c = at_other m.Hash m.Semicolon c rest is_c refl
  ports_no_hash (no_ports o p is_o is_p) c rest is_c = at_other m.Hash m.LeftParen o _ is_o refl
  ports_no_hash (port_list o p is_o all is_p) c rest is_c = at_other m.Hash m.LeftParen o _ is_o refl

  import_opens : {ts : Tokens} {y : List Item} → Import ts y → (rest : Tokens) → r.import_goes (ts ++ rest) ≡ true
  unfolding r.import_goes
  import_opens (imports t c is_t all is_c) rest = at_word w.Import t _ is_t

  import_longer : {ts : Tokens} {y : List Item} → Import ts y → 0 < length ts
  import_longer (imports t c is_t all is_c) = omega arith

  all_imports_read : GroupReads r.import_goes ir.imports Import (λ rest. Unit {0})
  all_imports_read = record { complete = λ one rest fit. imports_complete one rest; opens = import_opens; fits = λ one rest. tt; longer = import_longer }

  no_import : (s : Tokens) → is_word w.Import s ≡ false → r.import_goes s ≡ false
  unfolding r.import_goes
  no_import s e = e

  head_complete : {ts : Tokens} {y : Head} → HeadIs limit ts y → (rest : Tokens) → r.head limit (ts ++ rest) ≡ Some (y, rest)
  unfolding r.head
  head_complete (head {name = name} {ts = ts} {us = us} {vs = vs} n c is_n all params_one ports_one is_c) rest =
      let last_part : Tokens = vs ++ (c ∷ rest) in
      ap (r.head limit) (ap (λ l. n ∷ l) (append_assoc ts (us ++ (vs ++ c ∷ [])) rest ∙ ap (λ l. ts ++ l) (append_assoc us (vs ++ c ∷ []) rest ∙ ap (λ l. us ++ l) (append_assoc vs (c ∷ []) rest))))
      ∙ rw (
        name_taken n name (ts ++ (us ++ last_part)) is_n,
        groups_complete r.import_goes ir.imports all_imports_read all [] (us ++ last_part) (length (ts ++ (us ++ last_part)) + 1) (longer limit ts (us ++ last_part)) tt (no_import (us ++ last_part) (tail_mark params_one ports_one c rest is_c)),
        param_list_complete params_one last_part (ports_no_hash ports_one c rest is_c),
        port_list_complete ports_one (c ∷ rest) (at_other m.LeftParen m.Semicolon c rest is_c refl),
        expect_mark m.Semicolon c rest is_c,
      ) refl

  -- ---- modules and packages

  module_item_opens : {ts : Tokens} {ys : List Item} → ModuleItem limit ts ys → (rest : Tokens) → r.module_goes (ts ++ rest) ≡ true
  unfolding r.module_goes
  module_item_opens {ts = ts} one rest = ap not (tested_no_word item_begins w.EndModule refl (ts ++ rest) (module_item_begins one rest))

  module_item_done : {ts : Tokens} {ys : List Item} → ModuleItem limit ts ys → (rest : Tokens) → Done limit (ts ++ rest)
  module_item_done {ts = ts} one rest = done_by item_begins refl refl (ts ++ rest) (module_item_begins one rest)

  module_item_longer : {ts : Tokens} {ys : List Item} → ModuleItem limit ts ys → 0 < length ts
  module_item_longer {ts = ts} one = tested_longer item_begins refl ts (module_item_begins one [])

  module_items_read : GroupReads r.module_goes (ir.module_item limit) (ModuleItem limit) (Done limit)
  module_items_read = record { complete = module_item_complete limit; opens = module_item_opens; fits = module_item_done; longer = module_item_longer }

  package_item_opens : {ts : Tokens} {ys : List Item} → PackageItem limit ts ys → (rest : Tokens) → r.package_goes (ts ++ rest) ≡ true
  unfolding r.package_goes
  package_item_opens {ts = ts} one rest = ap not (tested_no_word item_begins w.EndPackage refl (ts ++ rest) (package_item_begins one rest))

  package_item_done : {ts : Tokens} {ys : List Item} → PackageItem limit ts ys → (rest : Tokens) → Done limit (ts ++ rest)
  package_item_done {ts = ts} one rest = done_by item_begins refl refl (ts ++ rest) (package_item_begins one rest)

  package_item_longer : {ts : Tokens} {ys : List Item} → PackageItem limit ts ys → 0 < length ts
  package_item_longer {ts = ts} one = tested_longer item_begins refl ts (package_item_begins one [])

  package_items_read : GroupReads r.package_goes (ir.package_item limit) (PackageItem limit) (Done limit)
  package_items_read = record { complete = package_item_complete limit; opens = package_item_opens; fits = package_item_done; longer = package_item_longer }

  word_done : (word : Word) (t : Token) (rest : Tokens) → t.kind ≡ k.Word word → is_word_kind w.Else (k.Word word) ≡ false → Done limit (t ∷ rest)
  unfolding is_word
  word_done word t rest e f = record { no_else = ap (is_word_kind w.Else) e ∙ f; no_colon = word_no_mark m.Colon word t rest e }

  module_stops : (t : Token) (rest : Tokens) → t.kind ≡ k.Word w.EndModule → r.module_goes (t ∷ rest) ≡ false
  unfolding r.module_goes
  module_stops t rest e = ap not (at_word w.EndModule t rest e)

  package_stops : (t : Token) (rest : Tokens) → t.kind ≡ k.Word w.EndPackage → r.package_goes (t ∷ rest) ≡ false
  unfolding r.package_goes
  package_stops t rest e = ap not (at_word w.EndPackage t rest e)

  module_reads : {ts us ms : Tokens} {h : Head} {xs : List Item} (t e : Token) → t.kind ≡ k.Word w.Module → HeadIs limit ts h → Groups (ModuleItem limit) us xs → e.kind ≡ k.Word w.EndModule → Label ms
      → (rest : Tokens) → is_at m.Colon rest ≡ false → r.module_unit limit (t ∷ ((ts ++ (us ++ (e ∷ ms))) ++ rest)) ≡ Some (i.Module h.at h.name h.params h.ports (h.imports ++ xs) ∷ [], rest)
  unfolding r.module_unit
  module_reads {ts = ts} {us = us} {ms = ms} t e is_t h all is_e label rest lacks =
      let tail : Tokens = e ∷ (ms ++ rest) in
      ap (r.module_unit limit) (ap (λ l. t ∷ l) (append_assoc ts (us ++ (e ∷ ms)) rest ∙ ap (λ l. ts ++ l) (append_assoc us (e ∷ ms) rest)))
      ∙ rw (
        expect_at w.Module t (ts ++ (us ++ tail)) is_t,
        head_complete h (us ++ tail),
        groups_complete r.module_goes (ir.module_item limit) module_items_read all [] tail (length (us ++ tail) + 1) (longer limit us tail) (word_done w.EndModule e (ms ++ rest) is_e refl) (module_stops e (ms ++ rest) is_e),
        expect_at w.EndModule e (ms ++ rest) is_e,
        label_complete label rest lacks,
      ) refl

  package_reads : {name : List ℕ} {ts ms : Tokens} {xs : List Item} (t n c e : Token) → t.kind ≡ k.Word w.Package → n.kind ≡ k.Name name → c.kind ≡ k.Mark m.Semicolon → Groups (PackageItem limit) ts xs
      → e.kind ≡ k.Word w.EndPackage → Label ms → (rest : Tokens) → is_at m.Colon rest ≡ false → r.package_unit limit (t ∷ n ∷ c ∷ ((ts ++ (e ∷ ms)) ++ rest)) ≡ Some (i.Package n.at name xs ∷ [], rest)
  unfolding r.package_unit
  package_reads {name = name} {ts = ts} {ms = ms} t n c e is_t is_n is_c all is_e label rest lacks =
      let tail : Tokens = e ∷ (ms ++ rest) in
      ap (r.package_unit limit) (ap (λ l. t ∷ n ∷ c ∷ l) (append_assoc ts (e ∷ ms) rest))
      ∙ rw (
        expect_at w.Package t (n ∷ c ∷ (ts ++ tail)) is_t,
        name_taken n name (c ∷ (ts ++ tail)) is_n,
        expect_mark m.Semicolon c (ts ++ tail) is_c,
        groups_complete r.package_goes (ir.package_item limit) package_items_read all [] tail (length (ts ++ tail) + 1) (longer limit ts tail) (word_done w.EndPackage e (ms ++ rest) is_e refl) (package_stops e (ms ++ rest) is_e),
        expect_at w.EndPackage e (ms ++ rest) is_e,
        label_complete label rest lacks,
      ) refl

  unit_complete : {ts : Tokens} {ys : List Item} → UnitIs limit ts ys → (rest : Tokens) → Done limit rest → r.unit limit (ts ++ rest) ≡ Some (ys, rest)
  unfolding r.unit
  unit_complete (is_module {ts = ts} {us = us} {ms = ms} t e is_t h all is_e label) rest f = rw (at_word w.Module t ((ts ++ (us ++ (e ∷ ms))) ++ rest) is_t) (module_reads t e is_t h all is_e label rest f.no_colon)
  unit_complete (is_package {ts = ts} {ms = ms} t n c e is_t is_n is_c all is_e label) rest f =
      rw (other_word w.Module w.Package t (n ∷ c ∷ ((ts ++ (e ∷ ms)) ++ rest)) is_t refl, at_word w.Package t (n ∷ c ∷ ((ts ++ (e ∷ ms)) ++ rest)) is_t) (package_reads t n c e is_t is_n is_c all is_e label rest f.no_colon)
  unit_complete (is_item {ts = ts} one) rest f =
      rw (tested_no_word item_begins w.Module refl (ts ++ rest) (package_item_begins one rest), tested_no_word item_begins w.Package refl (ts ++ rest) (package_item_begins one rest)) (package_item_complete limit one rest f)

  item_unit : (kind : TokenKind) → item_begins kind ≡ true → unit_begins kind ≡ true
  item_unit (k.Word w.Module) e = refl
  item_unit (k.Word w.Package) e = refl
  item_unit _ e = e

  unit_first : {ts : Tokens} {ys : List Item} → UnitIs limit ts ys → (rest : Tokens) → unit_begins (first (ts ++ rest)) ≡ true
  unit_first (is_module t e is_t h all is_e label) rest = ap unit_begins is_t
  unit_first (is_package t n c e is_t is_n is_c all is_e label) rest = ap unit_begins is_t
  unit_first (is_item {ts = ts} one) rest = item_unit (first (ts ++ rest)) (package_item_begins one rest)

  not_end : (kind : TokenKind) → unit_begins kind ≡ true → r.is_end kind ≡ false
  not_end k.End e = absurd cc
  not_end _ e = refl

  unit_opens : {ts : Tokens} {ys : List Item} → UnitIs limit ts ys → (rest : Tokens) → r.unit_goes (ts ++ rest) ≡ true
  unfolding r.unit_goes
  unit_opens {ts = ts} one rest = ap not (not_end (first (ts ++ rest)) (unit_first one rest))

  units_read : GroupReads r.unit_goes (r.unit limit) (UnitIs limit) (Done limit)
  units_read = record {
    complete = unit_complete;
    opens = unit_opens;
    fits = λ {ts = ts} {xs = xs} one rest. done_by unit_begins refl refl (ts ++ rest) (unit_first one rest);
    longer = λ {ts = ts} {xs = xs} one. tested_longer unit_begins refl ts (unit_first one []);
  }

  end_done : (t : Token) (rest : Tokens) → t.kind ≡ k.End → Done limit (t ∷ rest)
  unfolding is_word is_at
  end_done t rest e = record { no_else = ap (is_word_kind w.Else) e; no_colon = ap (x.is_kind m.Colon) e }

  end_stops : (t : Token) (rest : Tokens) → t.kind ≡ k.End → r.unit_goes (t ∷ rest) ≡ false
  unfolding r.unit_goes
  end_stops t rest e = ap (λ kind. not (r.is_end kind)) e

  pub source_complete : {ts : Tokens} {ys : List Item} → Source limit ts ys → (t : Token) (rest : Tokens) → t.kind ≡ k.End → r.source limit (ts ++ (t ∷ rest)) ≡ Some (ys, t ∷ rest)
  unfolding r.source
  source_complete {ts = ts} all t rest is =
      groups_complete r.unit_goes (r.unit limit) units_read all [] (t ∷ rest) (length (ts ++ (t ∷ rest)) + 1) (longer limit ts (t ∷ rest)) (end_done t rest is) (end_stops t rest is)
