-- What is read as an item is derived by the grammar.
use Rattle.std.proofs.Common.{inl, inr, subst, ◌≡◌, ℕ, ◌+◌, Bool, true, false, List, [], ◌∷◌, ◌++◌, length, drop, Option, Some, None, refl, sym, ap, ◌∙◌}
use Rattle.nt_value.specs.declared.place.Place.{Place}
use Rattle.nt_ast.specs.declared.path.Path.{Path}
use Rattle.nt_ast.specs.declared.path.Declared.{Declared}
use Rattle.nt_ast.specs.declared.expr.Expr.{Expr}
use Rattle.nt_ast.specs.declared.stmt.Stmt.{Stmt}
use Rattle.nt_ast.specs.declared.types.TypeTree.{TypeTree}
use Rattle.nt_ast.specs.declared.types.TypeTree.TheVariants as t
use Rattle.nt_items.specs.declared.item.Conn.{Conn}
use Rattle.nt_items.specs.declared.item.FunctionItem.{FunctionItem}
use Rattle.nt_items.specs.declared.item.PortKind.TheVariants as port
use Rattle.nt_items.specs.declared.item.Item.{Item}
use Rattle.nt_items.specs.declared.item.Item.TheVariants as i
use Rattle.nt_lexer.specs.declared.kinds.Mark.TheVariants as m
use Rattle.nt_lexer.specs.declared.kinds.Word.{Word}
use Rattle.nt_lexer.specs.declared.kinds.Word.TheVariants as w
use Rattle.nt_lexer.specs.declared.kinds.TokenKind.{TokenKind}
use Rattle.nt_lexer.specs.declared.kinds.TokenKind.TheVariants as k
use Rattle.nt_lexer.specs.declared.kinds.Token.{Token}
use Rattle.nt_read_expr.specs.declared.list.Separator.TheVariants.{Comma}
use Rattle.nt_read_expr.specs.Tables.{Tokens, start}
use Rattle.nt_read_expr.specs.Derivation.{Reference, Expression}
use Rattle.nt_read_expr.specs.Lists.{ListOf}
use Rattle.nt_read_expr.specs.Reader as x
use Rattle.nt_read_expr.specs.Reader.{Read, ◌>>=◌, either, first, is_at, expect, name_first, below, whole, list_of, is_some}
use Rattle.nt_read_expr.specs.LeftSide.{left_side}
use Rattle.nt_read_stmt.specs.Reader.{is_word, expect_word, take_name, past_label}
use Rattle.nt_read_unit.specs.Groups.{Groups}
use Rattle.nt_read_unit.specs.Tables.{one_bit}
use Rattle.nt_read_unit.specs.Reader.{groups_of, named, type_in, maybe_type}
use Rattle.nt_read_item.specs.declared.front.Form.{Form}
use Rattle.nt_read_item.specs.declared.front.Form.TheVariants as form
use Rattle.nt_read_item.specs.Tables.{param_of, wire_of, proc_of, lifetime_of, type_at, plain_name, started, name_read}
use Rattle.nt_read_item.specs.Parts.{MaybeWord, no_word, one_word, With, no_resolver, with_resolver, Start, no_start, start_value, NamedConn, same_name, left_open, joined_to, Slot, hole, filled, Conns, no_conns, by_order, after_hole, by_name}
use Rattle.nt_read_item.specs.Functions.{Lifetime, no_lifetime, lifetime, Result, no_value, value_of, Dynamic, one_value, many_values, Argument, argument, Arguments, no_arguments, arguments, Local, local_var, Body, body, FunctionBody, function_body, NamedFunction, named_function, Function, function}
use Rattle.nt_read_item.specs.Items.{ImportName, import_one, import_all, Import, imports, ParamName, param_name, Params, params, Typedef, typedef, Nettype, nettype, PackageItem, is_import, is_params, is_typedef, is_nettype, is_function, WireName, wire_name, LinkName, link_name, Nets, wires, links, VarName, var_name, Vars, vars, Set, set, Assigns, assigns, InstanceName, instance_name, MaybeParams, no_params, with_params, Instances, instances, Procedure, procedure, ModuleItem, is_shared, is_nets, is_vars, is_assigns, is_instances, is_procedure}
use Rattle.nt_read_item.specs.Reader as r
use Rattle.nt_read_expr.proofs.Basics.{bind_some, some_is, if_cases, either_cases, Took, close, both, took_as}
use Rattle.nt_read_expr.proofs.Begins.{start_append, expression_begins}
use Rattle.nt_read_expr.proofs.Lists.{list_sound}
use Rattle.nt_read_expr.proofs.Sound.{front_of, expect_of, reference_sound, expression_sound}
use Rattle.nt_read_expr.proofs.LeftSide.{left_side_sound}
use Rattle.nt_read_expr.proofs.Begins.{left_begins}
use Rattle.nt_read_stmt.proofs.Sound.{word_of, expect_word_of, label_sound}
use Rattle.nt_read_stmt.proofs.Whole.{whole_sound}
use Rattle.nt_read_unit.proofs.GroupLaws.{groups_sound}
use Rattle.nt_read_unit.proofs.Sound.{name_of, first_is, type_sound, maybe_type_sound, named_sound}

-- ---- first tokens

-- a first token of which the function gives this
pub record FirstBy {A : Type 0} (f : TokenKind → Option A) (a : A) (s us : Tokens) : Type 0 where
  pub token : Token
  pub fits : f token.kind ≡ Some a
  pub is : s ≡ token ∷ us

pub first_by_is : {A : Type 0} (f : TokenKind → Option A) (a : A) (s us : Tokens) → f k.End ≡ None → r.first_by f s ≡ Some (a, us) → FirstBy f a s us
unfolding r.first_by
first_by_is f a s us n e =
    elim (either_cases (f (first s)) _ _ _ e) [
      | inl g ↦ let bad = g.1 in absurd cc
      | inr g ↦
          let p : (g.0, drop 1 s) ≡ (a, us) = some_is _ _ g.2 in
          let o = first_is f g.0 s n g.1 in
          record { token = o.token; fits = o.fits ∙ ap (λ q. Some q.0) p; is = o.is ∙ ap (λ q. o.token ∷ q.1) p }
    ]

pub flag_sound : (word : Word) (s us : Tokens) (y : Bool) → r.flag word s ≡ Some (y, us) → Took (λ p. MaybeWord word p y) s us
unfolding r.flag
flag_sound word s us y e =
    elim (if_cases (is_word word s) _ _ _ e) [
      | inl g ↦
          let o = word_of word s g.0 in
          took_as (λ z p. MaybeWord word p z) s (drop 1 s) us true y (some_is _ _ g.1) (record { front = o.token ∷ []; split = o.is; derives = one_word o.token o.is_word })
      | inr g ↦ took_as (λ z p. MaybeWord word p z) s s us false y (some_is _ _ g.1) (record { front = []; split = refl; derives = no_word })
    ]

path_sound : (s us : Tokens) (y : Path) → r.path s ≡ Some (y, us) → Took (λ p. Reference p y) s us
unfolding r.path
path_sound s us y e =
    let a = bind_some (take_name s) _ _ e in
    let o = name_of s a.0.1 a.0.0 a.1 in
    let w = reference_sound o.token a.0.0 a.0.1 us y o.is_name (ap (λ at. x.reference at a.0.0 a.0.1) (sym (ap start o.is)) ∙ a.2) in
    record { front = w.front; split = o.is ∙ w.split; derives = w.derives }

with_sound : (s us : Tokens) (y : Option Path) → r.maybe_with s ≡ Some (y, us) → Took (λ p. With p y) s us
unfolding r.maybe_with
with_sound s us y e =
    elim (if_cases (is_word w.With s) _ _ _ e) [
      | inl g ↦
          let o = word_of w.With s g.0 in
          let a = bind_some (r.path (drop 1 s)) _ _ g.1 in
          let i1 = path_sound (drop 1 s) a.0.1 a.0.0 a.1 in
          took_as (λ z p. With p z) s a.0.1 us (Some a.0.0) y (some_is _ _ a.2)
          (record { front = o.token ∷ i1.front; split = o.is ∙ ap (λ l. o.token ∷ l) i1.split; derives = with_resolver o.token o.is_word i1.derives })
      | inr g ↦ took_as (λ z p. With p z) s s us None y (some_is _ _ g.1) (record { front = []; split = refl; derives = no_resolver })
    ]

lifetime_sound : (s us : Tokens) (y : Bool) → r.lifetime s ≡ Some (y, us) → Took (λ p. Lifetime p y) s us
unfolding r.lifetime
lifetime_sound s us y e =
    elim (either_cases (lifetime_of (first s)) _ _ _ e) [
      | inl g ↦ took_as (λ z p. Lifetime p z) s s us false y (some_is _ _ g.1) (record { front = []; split = refl; derives = no_lifetime })
      | inr g ↦
          let f = first_is lifetime_of g.0 s refl g.1 in
          took_as (λ z p. Lifetime p z) s (drop 1 s) us g.0 y (some_is _ _ g.2) (record { front = f.token ∷ []; split = f.is; derives = lifetime f.token f.fits })
    ]

dynamic_sound : (s us : Tokens) (y : Bool) → r.dynamic s ≡ Some (y, us) → Took (λ p. Dynamic p y) s us
unfolding r.dynamic
dynamic_sound s us y e =
    elim (if_cases (is_at m.LeftBracket s) _ _ _ e) [
      | inl g ↦
          let o = front_of m.LeftBracket s g.0 in
          let a = bind_some (expect m.RightBracket (drop 1 s)) _ _ g.1 in
          let c = expect_of m.RightBracket (drop 1 s) a.0 a.1 in
          took_as (λ z p. Dynamic p z) s a.0 us true y (some_is _ _ a.2)
          (record { front = o.token ∷ c.token ∷ []; split = o.is ∙ ap (λ l. o.token ∷ l) c.is; derives = many_values o.token c.token o.is_mark c.is_mark })
      | inr g ↦ took_as (λ z p. Dynamic p z) s s us false y (some_is _ _ g.1) (record { front = []; split = refl; derives = one_value })
    ]

-- ---- imports and interconnects

imported_sound : (p q : Token) (scope : List ℕ) (s us : Tokens) (y : Item) → p.kind ≡ k.Name scope → q.kind ≡ k.Mark m.Scope → r.imported p.at scope s ≡ Some (y, us) → Took (λ l. ImportName l y) (p ∷ q ∷ s) us
unfolding r.imported
imported_sound p q scope s us y is_p is_q e =
    elim (if_cases (is_at m.Star s) _ _ _ e) [
      | inl g ↦
          let o = front_of m.Star s g.0 in
          took_as (λ z l. ImportName l z) (p ∷ q ∷ s) (drop 1 s) us (i.Import p.at scope None) y (some_is _ _ g.1)
          (record { front = p ∷ q ∷ o.token ∷ []; split = ap (λ l. p ∷ q ∷ l) o.is; derives = import_all p q o.token is_p is_q o.is_mark })
      | inr g ↦
          let a = bind_some (take_name s) _ _ g.1 in
          let o = name_of s a.0.1 a.0.0 a.1 in
          took_as (λ z l. ImportName l z) (p ∷ q ∷ s) a.0.1 us (i.Import p.at scope (Some a.0.0)) y (some_is _ _ a.2)
          (record { front = p ∷ q ∷ o.token ∷ []; split = ap (λ l. p ∷ q ∷ l) o.is; derives = import_one p q o.token is_p is_q o.is_name })
    ]

import_name_sound : (s us : Tokens) (y : Item) → r.import_name s ≡ Some (y, us) → Took (λ l. ImportName l y) s us
unfolding r.import_name
import_name_sound s us y e =
    let a = bind_some (take_name s) _ _ e in
    let o = name_of s a.0.1 a.0.0 a.1 in
    let b = bind_some (expect m.Scope a.0.1) _ _ a.2 in
    let q = expect_of m.Scope a.0.1 b.0 b.1 in
    let w = imported_sound o.token q.token a.0.0 b.0 us y o.is_name q.is_mark (ap (λ at. r.imported at a.0.0 b.0) (sym (ap start o.is)) ∙ b.2) in
    record { front = w.front; split = o.is ∙ ap (λ l. o.token ∷ l) q.is ∙ w.split; derives = w.derives }

pub imports_sound : (s us : Tokens) (y : List Item) → r.imports s ≡ Some (y, us) → Took (λ p. Import p y) s us
unfolding r.imports
imports_sound s us y e =
    let a1 = bind_some (expect_word w.Import s) _ _ e in
    let i1 = expect_word_of w.Import s a1.0 a1.1 in
    let a2 = bind_some (list_of Comma (r.import_name) (a1.0)) _ _ a1.2 in
    let i2 = list_sound Comma (r.import_name) (ImportName) (import_name_sound) (a1.0) a2.0.1 a2.0.0 a2.1 in
    let a3 = bind_some (expect m.Semicolon (a2.0.1)) _ _ a2.2 in
    let i3 = expect_of m.Semicolon (a2.0.1) a3.0 a3.1 in
    took_as (λ g p. Import p g) s (a3.0) us (a2.0.0) y (some_is _ _ a3.2)
    (record { front = i1.token ∷ (i2.front ++ (i3.token ∷ [])); split = i1.is ∙ ap (λ l. i1.token ∷ l) (both i2.front (i3.token ∷ []) (a1.0) (a2.0.1) (a3.0) i2.split (i3.is)); derives = imports i1.token i3.token i1.is_word i2.derives i3.is_mark })

link_name_sound : (s us : Tokens) (y : Item) → r.link_name s ≡ Some (y, us) → Took (λ p. LinkName p y) s us
unfolding r.link_name
link_name_sound s us y e =
    let a1 = bind_some (take_name s) _ _ e in
    let i1 = name_of s a1.0.1 a1.0.0 a1.1 in
    took_as (λ g p. LinkName p g) s (a1.0.1) us (i.Net (start s) port.Interconnect (one_bit (start s)) (plain_name (start s) a1.0.0 None)) y (some_is _ _ a1.2)
    (record { front = i1.token ∷ []; split = i1.is; derives = subst (λ at. LinkName (i1.token ∷ []) (i.Net at port.Interconnect (one_bit at) (plain_name at a1.0.0 None))) (sym (ap start i1.is)) (link_name i1.token i1.is_name) })

module _ (limit : ℕ) where
  start_sound : (s us : Tokens) (y : Option Expr) → r.maybe_start limit s ≡ Some (y, us) → Took (λ p. Start limit p y) s us
  unfolding r.maybe_start
  start_sound s us y e =
      elim (if_cases (is_at m.Assign s) _ _ _ e) [
        | inl g ↦
            let o = front_of m.Assign s g.0 in
            let a = bind_some (whole limit (below limit limit) (drop 1 s)) _ _ g.1 in
            let v = expression_sound limit limit (drop 1 s) a.0.1 a.0.0 a.1 in
            took_as (λ z p. Start limit p z) s a.0.1 us (Some a.0.0) y (some_is _ _ a.2)
            (record { front = o.token ∷ v.front; split = o.is ∙ ap (λ l. o.token ∷ l) v.split; derives = start_value o.token o.is_mark v.derives })
        | inr g ↦ took_as (λ z p. Start limit p z) s s us None y (some_is _ _ g.1) (record { front = []; split = refl; derives = no_start })
      ]

  -- ---- connections

  conn_value_sound : (o n p : Token) (name : List ℕ) (s us : Tokens) (y : Conn) → o.kind ≡ k.Mark m.Dot → n.kind ≡ k.Name name → p.kind ≡ k.Mark m.LeftParen
      → r.conn_value limit o.at name s ≡ Some (y, us) → Took (λ l. NamedConn limit l y) (o ∷ n ∷ p ∷ s) us
  unfolding r.conn_value
  conn_value_sound o n p name s us y is_o is_n is_p e =
      elim (if_cases (is_at m.RightParen s) _ _ _ e) [
        | inl g ↦
            let c = front_of m.RightParen s g.0 in
            took_as (λ z l. NamedConn limit l z) (o ∷ n ∷ p ∷ s) (drop 1 s) us (record { at = o.at; name = Some name; value = None }) y (some_is _ _ g.1)
            (record { front = o ∷ n ∷ p ∷ c.token ∷ []; split = ap (λ l. o ∷ n ∷ p ∷ l) c.is; derives = left_open o n p c.token is_o is_n is_p c.is_mark })
        | inr g ↦
            let a = bind_some (whole limit (below limit limit) s) _ _ g.1 in
            let v = expression_sound limit limit s a.0.1 a.0.0 a.1 in
            let b = bind_some (expect m.RightParen a.0.1) _ _ a.2 in
            let c = expect_of m.RightParen a.0.1 b.0 b.1 in
            took_as (λ z l. NamedConn limit l z) (o ∷ n ∷ p ∷ s) b.0 us (record { at = o.at; name = Some name; value = Some a.0.0 }) y (some_is _ _ b.2)
            (record {
              front = o ∷ n ∷ p ∷ (v.front ++ c.token ∷ []);
              split = ap (λ l. o ∷ n ∷ p ∷ l) (close v.front s a.0.1 b.0 c.token v.split c.is);
              derives = joined_to o n p c.token is_o is_n is_p v.derives c.is_mark;
            })
      ]

  conn_named_sound : (o n : Token) (name : List ℕ) (s us : Tokens) (y : Conn) → o.kind ≡ k.Mark m.Dot → n.kind ≡ k.Name name
      → r.conn_named limit o.at n.at name s ≡ Some (y, us) → Took (λ l. NamedConn limit l y) (o ∷ n ∷ s) us
  unfolding r.conn_named
  conn_named_sound o n name s us y is_o is_n e =
      elim (if_cases (is_at m.LeftParen s) _ _ _ e) [
        | inl g ↦
            let p = front_of m.LeftParen s g.0 in
            let w = conn_value_sound o n p.token name (drop 1 s) us y is_o is_n p.is_mark g.1 in
            record { front = w.front; split = ap (λ l. o ∷ n ∷ l) p.is ∙ w.split; derives = w.derives }
        | inr g ↦
            took_as (λ z l. NamedConn limit l z) (o ∷ n ∷ s) s us (record { at = o.at; name = Some name; value = Some (name_read n.at name) }) y (some_is _ _ g.1)
            (record { front = o ∷ n ∷ []; split = refl; derives = same_name o n is_o is_n })
      ]

  named_conn_sound : (s us : Tokens) (y : Conn) → r.named_conn limit s ≡ Some (y, us) → Took (λ l. NamedConn limit l y) s us
  unfolding r.named_conn
  named_conn_sound s us y e =
      let a = bind_some (expect m.Dot s) _ _ e in
      let o = expect_of m.Dot s a.0 a.1 in
      let b = bind_some (take_name a.0) _ _ a.2 in
      let n = name_of a.0 b.0.1 b.0.0 b.1 in
      let w = conn_named_sound o.token n.token b.0.0 b.0.1 us y o.is_mark n.is_name
      (ap (λ at. r.conn_named limit at n.token.at b.0.0 b.0.1) (sym (ap start o.is)) ∙ ap (λ at. r.conn_named limit (start s) at b.0.0 b.0.1) (sym (ap start n.is)) ∙ b.2) in
      record { front = w.front; split = o.is ∙ ap (λ l. o.token ∷ l) n.is ∙ w.split; derives = w.derives }

  expression_start : {ts : Tokens} {y : Expr} (s us : Tokens) → s ≡ ts ++ us → Expression limit limit ts y → start s ≡ start ts
  expression_start s us split v = ap start split ∙ start_append (expression_begins limit v) us

  slot_sound : (s us : Tokens) (y : List Conn) → r.slot limit s ≡ Some (y, us) → Took (λ l. Slot limit l y) s us
  unfolding r.slot
  slot_sound s us y e =
      let a = bind_some (expect m.Comma s) _ _ e in
      let o = expect_of m.Comma s a.0 a.1 in
      elim (if_cases (r.slot_ends a.0) _ _ _ a.2) [
        | inl g ↦
            took_as (λ z l. Slot limit l z) s a.0 us (r.hole (start s) ∷ []) y (some_is _ _ g.1)
            (record { front = o.token ∷ []; split = o.is; derives = subst (λ at. Slot limit (o.token ∷ []) (r.hole at ∷ [])) (sym (ap start o.is)) (hole o.token o.is_mark) })
        | inr g ↦
            let b = bind_some (whole limit (below limit limit) a.0) _ _ g.1 in
            let v = expression_sound limit limit a.0 b.0.1 b.0.0 b.1 in
            took_as (λ z l. Slot limit l z) s b.0.1 us (record { at = start a.0; name = None; value = Some b.0.0 } ∷ []) y (some_is _ _ b.2)
            (record {
              front = o.token ∷ v.front;
              split = o.is ∙ ap (λ l. o.token ∷ l) v.split;
              derives = subst (λ at. Slot limit (o.token ∷ v.front) (record { at = at; name = None; value = Some b.0.0 } ∷ [])) (sym (expression_start a.0 b.0.1 v.split v.derives)) (filled o.token o.is_mark v.derives);
            })
      ]

  slots_sound : (f : ℕ) (s us : Tokens) (y : List Conn) → groups_of r.slot_goes (r.slot limit) f [] s ≡ Some (y, us) → Took (λ p. Groups (Slot limit) p y) s us
  slots_sound f s us y e =
      let v = groups_sound r.slot_goes (r.slot limit) (Slot limit) slot_sound f [] s us y e in
      record { front = v.took.front; split = v.took.split; derives = subst (λ z. Groups (Slot limit) v.took.front z) (sym v.all) v.took.derives }

  by_name_sound : (o : Token) (s us : Tokens) (y : List Conn) → o.kind ≡ k.Mark m.LeftParen → r.by_name limit s ≡ Some (y, us) → Took (λ l. Conns limit l y) (o ∷ s) us
  unfolding r.by_name
  by_name_sound o s us y is_o e =
      let a = bind_some (list_of Comma (r.named_conn limit) s) _ _ e in
      let v = list_sound Comma (r.named_conn limit) (NamedConn limit) named_conn_sound s a.0.1 a.0.0 a.1 in
      let b = bind_some (expect m.RightParen a.0.1) _ _ a.2 in
      let c = expect_of m.RightParen a.0.1 b.0 b.1 in
      took_as (λ z l. Conns limit l z) (o ∷ s) b.0 us a.0.0 y (some_is _ _ b.2)
      (record { front = o ∷ (v.front ++ c.token ∷ []); split = ap (λ l. o ∷ l) (close v.front s a.0.1 b.0 c.token v.split c.is); derives = by_name o c.token is_o v.derives c.is_mark })

  after_hole_sound : (o : Token) (s us : Tokens) (y : List Conn) → o.kind ≡ k.Mark m.LeftParen → r.after_hole limit o.at s ≡ Some (y, us) → Took (λ l. Conns limit l y) (o ∷ s) us
  unfolding r.after_hole
  after_hole_sound o s us y is_o e =
      let a = bind_some (r.slot limit s) _ _ e in
      let v = slot_sound s a.0.1 a.0.0 a.1 in
      let b = bind_some (groups_of r.slot_goes (r.slot limit) (length a.0.1 + 1) [] a.0.1) _ _ a.2 in
      let z = slots_sound (length a.0.1 + 1) a.0.1 b.0.1 b.0.0 b.1 in
      let d = bind_some (expect m.RightParen b.0.1) _ _ b.2 in
      let c = expect_of m.RightParen b.0.1 d.0 d.1 in
      took_as (λ z l. Conns limit l z) (o ∷ s) d.0 us (r.hole o.at ∷ (a.0.0 ++ b.0.0)) y (some_is _ _ d.2)
      (record {
        front = o ∷ (v.front ++ (z.front ++ c.token ∷ []));
        split = ap (λ l. o ∷ l) (both v.front (z.front ++ c.token ∷ []) s a.0.1 d.0 v.split (close z.front a.0.1 b.0.1 d.0 c.token z.split c.is));
        derives = after_hole o c.token is_o v.derives z.derives c.is_mark;
      })

  by_order_sound : (o : Token) (s us : Tokens) (y : List Conn) → o.kind ≡ k.Mark m.LeftParen → r.by_order limit s ≡ Some (y, us) → Took (λ l. Conns limit l y) (o ∷ s) us
  unfolding r.by_order
  by_order_sound o s us y is_o e =
      let a = bind_some (whole limit (below limit limit) s) _ _ e in
      let v = expression_sound limit limit s a.0.1 a.0.0 a.1 in
      let b = bind_some (groups_of r.slot_goes (r.slot limit) (length a.0.1 + 1) [] a.0.1) _ _ a.2 in
      let z = slots_sound (length a.0.1 + 1) a.0.1 b.0.1 b.0.0 b.1 in
      let d = bind_some (expect m.RightParen b.0.1) _ _ b.2 in
      let c = expect_of m.RightParen b.0.1 d.0 d.1 in
      let front : Tokens = o ∷ (v.front ++ (z.front ++ c.token ∷ [])) in
      took_as (λ z l. Conns limit l z) (o ∷ s) d.0 us (record { at = start s; name = None; value = Some a.0.0 } ∷ b.0.0) y (some_is _ _ d.2)
      (record {
        front = front;
        split = ap (λ l. o ∷ l) (both v.front (z.front ++ c.token ∷ []) s a.0.1 d.0 v.split (close z.front a.0.1 b.0.1 d.0 c.token z.split c.is));
        derives = subst (λ at. Conns limit front (record { at = at; name = None; value = Some a.0.0 } ∷ b.0.0)) (sym (expression_start s a.0.1 v.split v.derives)) (by_order o c.token is_o v.derives z.derives c.is_mark);
      })

  conns_in_sound : (o : Token) (s us : Tokens) (y : List Conn) → o.kind ≡ k.Mark m.LeftParen → r.conns_in limit o.at s ≡ Some (y, us) → Took (λ l. Conns limit l y) (o ∷ s) us
  unfolding r.conns_in
  conns_in_sound o s us y is_o e =
      elim (if_cases (is_at m.RightParen s) _ _ _ e) [
        | inl g ↦
            let c = front_of m.RightParen s g.0 in
            took_as (λ z l. Conns limit l z) (o ∷ s) (drop 1 s) us [] y (some_is _ _ g.1)
            (record { front = o ∷ c.token ∷ []; split = ap (λ l. o ∷ l) c.is; derives = no_conns o c.token is_o c.is_mark })
        | inr g ↦
            elim (if_cases (is_at m.Dot s) _ _ _ g.1) [
              | inl h ↦ by_name_sound o s us y is_o h.1
              | inr h ↦
                  elim (if_cases (is_at m.Comma s) _ _ _ h.1) [
                    | inl j ↦ after_hole_sound o s us y is_o j.1
                    | inr j ↦ by_order_sound o s us y is_o j.1
                  ]
            ]
      ]

  conns_sound : (s us : Tokens) (y : List Conn) → r.conns limit s ≡ Some (y, us) → Took (λ l. Conns limit l y) s us
  unfolding r.conns
  conns_sound s us y e =
      let a = bind_some (expect m.LeftParen s) _ _ e in
      let o = expect_of m.LeftParen s a.0 a.1 in
      let w = conns_in_sound o.token a.0 us y o.is_mark (ap (λ at. r.conns_in limit at a.0) (sym (ap start o.is)) ∙ a.2) in
      record { front = w.front; split = o.is ∙ w.split; derives = w.derives }

  -- ---- functions

  result_sound : (s us : Tokens) (y : Option TypeTree) → r.result limit s ≡ Some (y, us) → Took (λ l. Result limit l y) s us
  unfolding r.result
  result_sound s us y e =
      elim (if_cases (is_word w.Void s) _ _ _ e) [
        | inl g ↦
            let o = word_of w.Void s g.0 in
            took_as (λ z l. Result limit l z) s (drop 1 s) us (Some (t.Void (start s))) y (some_is _ _ g.1)
            (record { front = o.token ∷ []; split = o.is; derives = subst (λ at. Result limit (o.token ∷ []) (Some (t.Void at))) (sym (ap start o.is)) (no_value o.token o.is_word) })
        | inr g ↦
            let v = maybe_type_sound limit limit s us y g.1 in
            record { front = v.front; split = v.split; derives = value_of v.derives }
      ]

  argument_sound : (s us : Tokens) (y : TypeTree × Declared × Bool) → r.argument limit s ≡ Some (y, us) → Took (λ p. Argument limit p y) s us
  unfolding r.argument
  argument_sound s us y e =
      let a1 = bind_some (r.flag w.Input s) _ _ e in
      let i1 = flag_sound w.Input s a1.0.1 a1.0.0 a1.1 in
      let a2 = bind_some (type_in limit limit (a1.0.1)) _ _ a1.2 in
      let i2 = type_sound limit limit (a1.0.1) a2.0.1 a2.0.0 a2.1 in
      let a3 = bind_some (named limit limit (a2.0.1)) _ _ a2.2 in
      let i3 = named_sound limit limit (a2.0.1) a3.0.1 a3.0.0 a3.1 in
      let a4 = bind_some (r.dynamic (a3.0.1)) _ _ a3.2 in
      let i4 = dynamic_sound (a3.0.1) a4.0.1 a4.0.0 a4.1 in
      took_as (λ g p. Argument limit p g) s (a4.0.1) us ((a2.0.0, a3.0.0, a4.0.0)) y (some_is _ _ a4.2)
      (record { front = i1.front ++ (i2.front ++ (i3.front ++ (i4.front))); split = both i1.front (i2.front ++ (i3.front ++ (i4.front))) s (a1.0.1) (a4.0.1) i1.split (both i2.front (i3.front ++ (i4.front)) (a1.0.1) (a2.0.1) (a4.0.1) i2.split (both i3.front (i4.front) (a2.0.1) (a3.0.1) (a4.0.1) i3.split (i4.split))); derives = argument i1.derives i2.derives i3.derives i4.derives })

  arguments_in_sound : (o : Token) (s us : Tokens) (y : List (TypeTree × Declared × Bool)) → o.kind ≡ k.Mark m.LeftParen → r.arguments_in limit s ≡ Some (y, us) → Took (λ l. Arguments limit l y) (o ∷ s) us
  unfolding r.arguments_in
  arguments_in_sound o s us y is_o e =
      elim (if_cases (is_at m.RightParen s) _ _ _ e) [
        | inl g ↦
            let c = front_of m.RightParen s g.0 in
            took_as (λ z l. Arguments limit l z) (o ∷ s) (drop 1 s) us [] y (some_is _ _ g.1)
            (record { front = o ∷ c.token ∷ []; split = ap (λ l. o ∷ l) c.is; derives = no_arguments o c.token is_o c.is_mark })
        | inr g ↦
            let a = bind_some (list_of Comma (r.argument limit) s) _ _ g.1 in
            let v = list_sound Comma (r.argument limit) (Argument limit) argument_sound s a.0.1 a.0.0 a.1 in
            let b = bind_some (expect m.RightParen a.0.1) _ _ a.2 in
            let c = expect_of m.RightParen a.0.1 b.0 b.1 in
            took_as (λ z l. Arguments limit l z) (o ∷ s) b.0 us a.0.0 y (some_is _ _ b.2)
            (record { front = o ∷ (v.front ++ c.token ∷ []); split = ap (λ l. o ∷ l) (close v.front s a.0.1 b.0 c.token v.split c.is); derives = arguments o c.token is_o v.derives c.is_mark })
      ]

  arguments_sound : (s us : Tokens) (y : List (TypeTree × Declared × Bool)) → r.arguments limit s ≡ Some (y, us) → Took (λ l. Arguments limit l y) s us
  unfolding r.arguments
  arguments_sound s us y e =
      let a = bind_some (expect m.LeftParen s) _ _ e in
      let o = expect_of m.LeftParen s a.0 a.1 in
      let w = arguments_in_sound o.token a.0 us y o.is_mark a.2 in
      record { front = w.front; split = o.is ∙ w.split; derives = w.derives }

  local_var_sound : (s us : Tokens) (y : List (TypeTree × Declared)) → r.local_var limit s ≡ Some (y, us) → Took (λ p. Local limit p y) s us
  unfolding r.local_var
  local_var_sound s us y e =
      let a1 = bind_some (r.flag w.Automatic s) _ _ e in
      let i1 = flag_sound w.Automatic s a1.0.1 a1.0.0 a1.1 in
      let a2 = bind_some (type_in limit limit (a1.0.1)) _ _ a1.2 in
      let i2 = type_sound limit limit (a1.0.1) a2.0.1 a2.0.0 a2.1 in
      let a3 = bind_some (named limit limit (a2.0.1)) _ _ a2.2 in
      let i3 = named_sound limit limit (a2.0.1) a3.0.1 a3.0.0 a3.1 in
      let a4 = bind_some (r.maybe_start limit (a3.0.1)) _ _ a3.2 in
      let i4 = start_sound (a3.0.1) a4.0.1 a4.0.0 a4.1 in
      let a5 = bind_some (expect m.Semicolon (a4.0.1)) _ _ a4.2 in
      let i5 = expect_of m.Semicolon (a4.0.1) a5.0 a5.1 in
      took_as (λ g p. Local limit p g) s (a5.0) us ((a2.0.0, started a3.0.0 a4.0.0) ∷ []) y (some_is _ _ a5.2)
      (record { front = i1.front ++ (i2.front ++ (i3.front ++ (i4.front ++ (i5.token ∷ [])))); split = both i1.front (i2.front ++ (i3.front ++ (i4.front ++ (i5.token ∷ [])))) s (a1.0.1) (a5.0) i1.split (both i2.front (i3.front ++ (i4.front ++ (i5.token ∷ []))) (a1.0.1) (a2.0.1) (a5.0) i2.split (both i3.front (i4.front ++ (i5.token ∷ [])) (a2.0.1) (a3.0.1) (a5.0) i3.split (both i4.front (i5.token ∷ []) (a3.0.1) (a4.0.1) (a5.0) i4.split (i5.is)))); derives = local_var i5.token i1.derives i2.derives i3.derives i4.derives i5.is_mark })

  locals_sound : (f : ℕ) (s us : Tokens) (y : List (TypeTree × Declared)) → groups_of r.local_goes (r.local_var limit) f [] s ≡ Some (y, us) → Took (λ p. Groups (Local limit) p y) s us
  locals_sound f s us y e =
      let v = groups_sound r.local_goes (r.local_var limit) (Local limit) local_var_sound f [] s us y e in
      record { front = v.took.front; split = v.took.split; derives = subst (λ z. Groups (Local limit) v.took.front z) (sym v.all) v.took.derives }

  body_sound : (s us : Tokens) (y : List Stmt) → r.body limit s ≡ Some (y, us) → Took (λ p. Body limit p y) s us
  unfolding r.body
  body_sound s us y e =
      let a = bind_some (r.statement limit s) _ _ e in
      let v = whole_sound limit limit s a.0.1 a.0.0 a.1 in
      took_as (λ z l. Body limit l z) s a.0.1 us (a.0.0 ∷ []) y (some_is _ _ a.2) (record { front = v.front; split = v.split; derives = body v.derives v.few })

  bodies_sound : (f : ℕ) (s us : Tokens) (y : List Stmt) → groups_of r.body_goes (r.body limit) f [] s ≡ Some (y, us) → Took (λ p. Groups (Body limit) p y) s us
  bodies_sound f s us y e =
      let v = groups_sound r.body_goes (r.body limit) (Body limit) body_sound f [] s us y e in
      record { front = v.took.front; split = v.took.split; derives = subst (λ z. Groups (Body limit) v.took.front z) (sym v.all) v.took.derives }

  function_body_sound : (s us : Tokens) (y : List (TypeTree × Declared) × List Stmt) → r.function_body limit s ≡ Some (y, us) → Took (λ p. FunctionBody limit p y) s us
  unfolding r.function_body
  function_body_sound s us y e =
      let a1 = bind_some (groups_of r.local_goes (r.local_var limit) (length s + 1) [] s) _ _ e in
      let i1 = locals_sound (length s + 1) s a1.0.1 a1.0.0 a1.1 in
      let a2 = bind_some (groups_of r.body_goes (r.body limit) (length a1.0.1 + 1) [] (a1.0.1)) _ _ a1.2 in
      let i2 = bodies_sound (length a1.0.1 + 1) (a1.0.1) a2.0.1 a2.0.0 a2.1 in
      let a3 = bind_some (expect_word w.EndFunction (a2.0.1)) _ _ a2.2 in
      let i3 = expect_word_of w.EndFunction (a2.0.1) a3.0 a3.1 in
      let a4 = bind_some (past_label (a3.0)) _ _ a3.2 in
      let i4 = label_sound (a3.0) a4.0 a4.1 in
      took_as (λ g p. FunctionBody limit p g) s (a4.0) us ((a1.0.0, a2.0.0)) y (some_is _ _ a4.2)
      (record { front = i1.front ++ (i2.front ++ (i3.token ∷ i4.front)); split = both i1.front (i2.front ++ (i3.token ∷ i4.front)) s (a1.0.1) (a4.0) i1.split (both i2.front (i3.token ∷ i4.front) (a1.0.1) (a2.0.1) (a4.0) i2.split (i3.is ∙ ap (λ l. i3.token ∷ l) (i4.split))); derives = function_body i3.token i1.derives i2.derives i3.is_word i4.derives })

  function_named_sound : (own : Bool) (of : Option TypeTree) (s us : Tokens) (y : FunctionItem) → r.function_named limit own of s ≡ Some (y, us) → Took (λ p. NamedFunction limit own of p y) s us
  unfolding r.function_named
  function_named_sound own of s us y e =
      let a1 = bind_some (take_name s) _ _ e in
      let i1 = name_of s a1.0.1 a1.0.0 a1.1 in
      let a2 = bind_some (r.arguments limit (a1.0.1)) _ _ a1.2 in
      let i2 = arguments_sound (a1.0.1) a2.0.1 a2.0.0 a2.1 in
      let a3 = bind_some (expect m.Semicolon (a2.0.1)) _ _ a2.2 in
      let i3 = expect_of m.Semicolon (a2.0.1) a3.0 a3.1 in
      let a4 = bind_some (r.function_body limit (a3.0)) _ _ a3.2 in
      let i4 = function_body_sound (a3.0) a4.0.1 a4.0.0 a4.1 in
      took_as (λ g p. NamedFunction limit own of p g) s (a4.0.1) us (record { at = (start s); automatic = own; result = type_at of (start s); name = a1.0.0; args = a2.0.0; locals = a4.0.0.0; body = a4.0.0.1 }) y (some_is _ _ a4.2)
      (record { front = i1.token ∷ (i2.front ++ (i3.token ∷ i4.front)); split = i1.is ∙ ap (λ l. i1.token ∷ l) (both i2.front (i3.token ∷ i4.front) (a1.0.1) (a2.0.1) (a4.0.1) i2.split (i3.is ∙ ap (λ l. i3.token ∷ l) (i4.split))); derives = subst (λ at. NamedFunction limit own of (i1.token ∷ (i2.front ++ (i3.token ∷ i4.front))) (record { at = at; automatic = own; result = type_at of at; name = a1.0.0; args = a2.0.0; locals = a4.0.0.0; body = a4.0.0.1 })) (sym (ap start i1.is)) (named_function i1.token i3.token i1.is_name i2.derives i3.is_mark i4.derives) })

  function_sound : (s us : Tokens) (y : FunctionItem) → r.function limit s ≡ Some (y, us) → Took (λ p. Function limit p y) s us
  unfolding r.function
  function_sound s us y e =
      let a1 = bind_some (expect_word w.Function s) _ _ e in
      let i1 = expect_word_of w.Function s a1.0 a1.1 in
      let a2 = bind_some (r.lifetime (a1.0)) _ _ a1.2 in
      let i2 = lifetime_sound (a1.0) a2.0.1 a2.0.0 a2.1 in
      let a3 = bind_some (r.result limit (a2.0.1)) _ _ a2.2 in
      let i3 = result_sound (a2.0.1) a3.0.1 a3.0.0 a3.1 in
      let i4 = function_named_sound a2.0.0 a3.0.0 (a3.0.1) us y a3.2 in
      record { front = i1.token ∷ (i2.front ++ (i3.front ++ (i4.front))); split = i1.is ∙ ap (λ l. i1.token ∷ l) (both i2.front (i3.front ++ (i4.front)) (a1.0) (a2.0.1) us i2.split (both i3.front (i4.front) (a2.0.1) (a3.0.1) us i3.split (i4.split))); derives = function i1.token i1.is_word i2.derives i3.derives i4.derives }

  -- ---- what packages and modules have

  param_name_sound : (own : Bool) (of : Option TypeTree) (s us : Tokens) (y : Item) → r.param_name limit own of s ≡ Some (y, us) → Took (λ p. ParamName limit own of p y) s us
  unfolding r.param_name
  param_name_sound own of s us y e =
      let a1 = bind_some (take_name s) _ _ e in
      let i1 = name_of s a1.0.1 a1.0.0 a1.1 in
      let a2 = bind_some (expect m.Assign (a1.0.1)) _ _ a1.2 in
      let i2 = expect_of m.Assign (a1.0.1) a2.0 a2.1 in
      let a3 = bind_some (whole limit (below limit limit) (a2.0)) _ _ a2.2 in
      let i3 = expression_sound limit limit (a2.0) a3.0.1 a3.0.0 a3.1 in
      took_as (λ g p. ParamName limit own of p g) s (a3.0.1) us (i.Param (start s) own of (plain_name (start s) a1.0.0 (Some a3.0.0))) y (some_is _ _ a3.2)
      (record { front = i1.token ∷ i2.token ∷ i3.front; split = i1.is ∙ ap (λ l. i1.token ∷ l) (i2.is ∙ ap (λ l. i2.token ∷ l) (i3.split)); derives = subst (λ at. ParamName limit own of (i1.token ∷ i2.token ∷ i3.front) (i.Param at own of (plain_name at a1.0.0 (Some a3.0.0)))) (sym (ap start i1.is)) (param_name i1.token i2.token i1.is_name i2.is_mark i3.derives) })

  params_sound : (s us : Tokens) (y : List Item) → r.params limit s ≡ Some (y, us) → Took (λ p. Params limit p y) s us
  unfolding r.params
  params_sound s us y e =
      let a1 = bind_some (r.first_by param_of s) _ _ e in
      let i1 = first_by_is param_of a1.0.0 s a1.0.1 refl a1.1 in
      let a2 = bind_some (maybe_type limit limit (a1.0.1)) _ _ a1.2 in
      let i2 = maybe_type_sound limit limit (a1.0.1) a2.0.1 a2.0.0 a2.1 in
      let a3 = bind_some (list_of Comma (r.param_name limit a1.0.0 a2.0.0) (a2.0.1)) _ _ a2.2 in
      let i3 = list_sound Comma (r.param_name limit a1.0.0 a2.0.0) (ParamName limit a1.0.0 a2.0.0) (param_name_sound a1.0.0 a2.0.0) (a2.0.1) a3.0.1 a3.0.0 a3.1 in
      let a4 = bind_some (expect m.Semicolon (a3.0.1)) _ _ a3.2 in
      let i4 = expect_of m.Semicolon (a3.0.1) a4.0 a4.1 in
      took_as (λ g p. Params limit p g) s (a4.0) us (a3.0.0) y (some_is _ _ a4.2)
      (record { front = i1.token ∷ (i2.front ++ (i3.front ++ (i4.token ∷ []))); split = i1.is ∙ ap (λ l. i1.token ∷ l) (both i2.front (i3.front ++ (i4.token ∷ [])) (a1.0.1) (a2.0.1) (a4.0) i2.split (both i3.front (i4.token ∷ []) (a2.0.1) (a3.0.1) (a4.0) i3.split (i4.is))); derives = params i1.token i4.token i1.fits i2.derives i3.derives i4.is_mark })

  typedef_sound : (s us : Tokens) (y : List Item) → r.typedef limit s ≡ Some (y, us) → Took (λ p. Typedef limit p y) s us
  unfolding r.typedef
  typedef_sound s us y e =
      let a1 = bind_some (expect_word w.Typedef s) _ _ e in
      let i1 = expect_word_of w.Typedef s a1.0 a1.1 in
      let a2 = bind_some (type_in limit limit (a1.0)) _ _ a1.2 in
      let i2 = type_sound limit limit (a1.0) a2.0.1 a2.0.0 a2.1 in
      let a3 = bind_some (named limit limit (a2.0.1)) _ _ a2.2 in
      let i3 = named_sound limit limit (a2.0.1) a3.0.1 a3.0.0 a3.1 in
      let a4 = bind_some (expect m.Semicolon (a3.0.1)) _ _ a3.2 in
      let i4 = expect_of m.Semicolon (a3.0.1) a4.0 a4.1 in
      took_as (λ g p. Typedef limit p g) s (a4.0) us (i.Typedef a3.0.0.at a2.0.0 a3.0.0 ∷ []) y (some_is _ _ a4.2)
      (record { front = i1.token ∷ (i2.front ++ (i3.front ++ (i4.token ∷ []))); split = i1.is ∙ ap (λ l. i1.token ∷ l) (both i2.front (i3.front ++ (i4.token ∷ [])) (a1.0) (a2.0.1) (a4.0) i2.split (both i3.front (i4.token ∷ []) (a2.0.1) (a3.0.1) (a4.0) i3.split (i4.is))); derives = typedef i1.token i4.token i1.is_word i2.derives i3.derives i4.is_mark })

  nettype_sound : (s us : Tokens) (y : List Item) → r.nettype limit s ≡ Some (y, us) → Took (λ p. Nettype limit p y) s us
  unfolding r.nettype
  nettype_sound s us y e =
      let a1 = bind_some (expect_word w.Nettype s) _ _ e in
      let i1 = expect_word_of w.Nettype s a1.0 a1.1 in
      let a2 = bind_some (type_in limit limit (a1.0)) _ _ a1.2 in
      let i2 = type_sound limit limit (a1.0) a2.0.1 a2.0.0 a2.1 in
      let a3 = bind_some (take_name (a2.0.1)) _ _ a2.2 in
      let i3 = name_of (a2.0.1) a3.0.1 a3.0.0 a3.1 in
      let a4 = bind_some (r.maybe_with (a3.0.1)) _ _ a3.2 in
      let i4 = with_sound (a3.0.1) a4.0.1 a4.0.0 a4.1 in
      let a5 = bind_some (expect m.Semicolon (a4.0.1)) _ _ a4.2 in
      let i5 = expect_of m.Semicolon (a4.0.1) a5.0 a5.1 in
      took_as (λ g p. Nettype limit p g) s (a5.0) us (i.Nettype (record { at = (start (a2.0.1)); base = a2.0.0; name = a3.0.0; resolver = a4.0.0 }) ∷ []) y (some_is _ _ a5.2)
      (record { front = i1.token ∷ (i2.front ++ (i3.token ∷ (i4.front ++ (i5.token ∷ [])))); split = i1.is ∙ ap (λ l. i1.token ∷ l) (both i2.front (i3.token ∷ (i4.front ++ (i5.token ∷ []))) (a1.0) (a2.0.1) (a5.0) i2.split (i3.is ∙ ap (λ l. i3.token ∷ l) (both i4.front (i5.token ∷ []) (a3.0.1) (a4.0.1) (a5.0) i4.split (i5.is)))); derives = subst (λ at. Nettype limit (i1.token ∷ (i2.front ++ (i3.token ∷ (i4.front ++ (i5.token ∷ []))))) (i.Nettype (record { at = at; base = a2.0.0; name = a3.0.0; resolver = a4.0.0 }) ∷ [])) (sym (ap start i3.is)) (nettype i1.token i3.token i5.token i1.is_word i2.derives i3.is_name i4.derives i5.is_mark) })

  package_by_sound : (f : Form) (s us : Tokens) (y : List Item) → r.package_by limit f s ≡ Some (y, us) → Took (λ l. PackageItem limit l y) s us
  unfolding r.one_function
  package_by_sound form.Import s us y e = let v = imports_sound s us y e in record { front = v.front; split = v.split; derives = is_import v.derives }
  package_by_sound form.Params s us y e = let v = params_sound s us y e in record { front = v.front; split = v.split; derives = is_params v.derives }
  package_by_sound form.Typedef s us y e = let v = typedef_sound s us y e in record { front = v.front; split = v.split; derives = is_typedef v.derives }
  package_by_sound form.Nettype s us y e = let v = nettype_sound s us y e in record { front = v.front; split = v.split; derives = is_nettype v.derives }
  package_by_sound form.Function s us y e =
      let a = bind_some (r.function limit s) _ _ e in
      let v = function_sound s a.0.1 a.0.0 a.1 in
      took_as (λ z l. PackageItem limit l z) s a.0.1 us (i.Function a.0.0 ∷ []) y (some_is _ _ a.2) (record { front = v.front; split = v.split; derives = is_function v.derives })
  package_by_sound form.Nets s us y e = absurd cc
  package_by_sound form.Vars s us y e = absurd cc
  package_by_sound form.Assigns s us y e = absurd cc
  package_by_sound form.Instances s us y e = absurd cc
  package_by_sound form.Procedure s us y e = absurd cc

  pub package_item_sound : (s us : Tokens) (y : List Item) → r.package_item limit s ≡ Some (y, us) → Took (λ l. PackageItem limit l y) s us
  unfolding r.package_item
  package_item_sound s us y e = package_by_sound (r.form_of s) s us y e

  -- ---- what modules alone have

  wire_name_sound : (of : Option TypeTree) (s us : Tokens) (y : Item) → r.wire_name limit of s ≡ Some (y, us) → Took (λ p. WireName limit of p y) s us
  unfolding r.wire_name
  wire_name_sound of s us y e =
      let a1 = bind_some (take_name s) _ _ e in
      let i1 = name_of s a1.0.1 a1.0.0 a1.1 in
      let a2 = bind_some (r.maybe_start limit (a1.0.1)) _ _ a1.2 in
      let i2 = start_sound (a1.0.1) a2.0.1 a2.0.0 a2.1 in
      took_as (λ g p. WireName limit of p g) s (a2.0.1) us (i.Net (start s) port.Wire (type_at of (start s)) (plain_name (start s) a1.0.0 a2.0.0)) y (some_is _ _ a2.2)
      (record { front = i1.token ∷ i2.front; split = i1.is ∙ ap (λ l. i1.token ∷ l) (i2.split); derives = subst (λ at. WireName limit of (i1.token ∷ i2.front) (i.Net at port.Wire (type_at of at) (plain_name at a1.0.0 a2.0.0))) (sym (ap start i1.is)) (wire_name i1.token i1.is_name i2.derives) })

  wires_sound : (w' : Token) (s us : Tokens) (y : List Item) → wire_of w'.kind ≡ true → r.wires limit s ≡ Some (y, us) → Took (λ l. Nets limit l y) (w' ∷ s) us
  unfolding r.wires
  wires_sound w' s us y is e =
      let a1 = bind_some (maybe_type limit limit s) _ _ e in
      let i1 = maybe_type_sound limit limit s a1.0.1 a1.0.0 a1.1 in
      let a2 = bind_some (list_of Comma (r.wire_name limit a1.0.0) a1.0.1) _ _ a1.2 in
      let i2 = list_sound Comma (r.wire_name limit a1.0.0) (WireName limit a1.0.0) (wire_name_sound a1.0.0) a1.0.1 a2.0.1 a2.0.0 a2.1 in
      let a3 = bind_some (expect m.Semicolon a2.0.1) _ _ a2.2 in
      let i3 = expect_of m.Semicolon a2.0.1 a3.0 a3.1 in
      took_as (λ z l. Nets limit l z) (w' ∷ s) a3.0 us a2.0.0 y (some_is _ _ a3.2)
      (record {
        front = w' ∷ (i1.front ++ (i2.front ++ i3.token ∷ []));
        split = ap (λ l. w' ∷ l) (both i1.front (i2.front ++ i3.token ∷ []) s a1.0.1 a3.0 i1.split (close i2.front a1.0.1 a2.0.1 a3.0 i3.token i2.split i3.is));
        derives = wires w' i3.token is i1.derives i2.derives i3.is_mark;
      })

  links_sound : (s us : Tokens) (y : List Item) → r.links s ≡ Some (y, us) → Took (λ p. Nets limit p y) s us
  unfolding r.links
  links_sound s us y e =
      let a1 = bind_some (expect_word w.Interconnect s) _ _ e in
      let i1 = expect_word_of w.Interconnect s a1.0 a1.1 in
      let a2 = bind_some (list_of Comma (r.link_name) (a1.0)) _ _ a1.2 in
      let i2 = list_sound Comma (r.link_name) (LinkName) (link_name_sound) (a1.0) a2.0.1 a2.0.0 a2.1 in
      let a3 = bind_some (expect m.Semicolon (a2.0.1)) _ _ a2.2 in
      let i3 = expect_of m.Semicolon (a2.0.1) a3.0 a3.1 in
      took_as (λ g p. Nets limit p g) s (a3.0) us (a2.0.0) y (some_is _ _ a3.2)
      (record { front = i1.token ∷ (i2.front ++ (i3.token ∷ [])); split = i1.is ∙ ap (λ l. i1.token ∷ l) (both i2.front (i3.token ∷ []) (a1.0) (a2.0.1) (a3.0) i2.split (i3.is)); derives = links i1.token i3.token i1.is_word i2.derives i3.is_mark })

  nets_sound : (s us : Tokens) (y : List Item) → r.nets limit s ≡ Some (y, us) → Took (λ l. Nets limit l y) s us
  unfolding r.nets
  nets_sound [] us y e = links_sound [] us y e
  nets_sound (v ∷ s) us y e =
      elim (if_cases (wire_of v.kind) _ _ _ e) [
        | inl g ↦ wires_sound v s us y g.0 g.1
        | inr g ↦ links_sound (v ∷ s) us y g.1
      ]

  var_name_sound : (of : TypeTree) (s us : Tokens) (y : Item) → r.var_name limit of s ≡ Some (y, us) → Took (λ p. VarName limit of p y) s us
  unfolding r.var_name
  var_name_sound of s us y e =
      let a1 = bind_some (named limit limit s) _ _ e in
      let i1 = named_sound limit limit s a1.0.1 a1.0.0 a1.1 in
      let a2 = bind_some (r.maybe_start limit (a1.0.1)) _ _ a1.2 in
      let i2 = start_sound (a1.0.1) a2.0.1 a2.0.0 a2.1 in
      took_as (λ g p. VarName limit of p g) s (a2.0.1) us (i.Var a1.0.0.at of (started a1.0.0 a2.0.0)) y (some_is _ _ a2.2)
      (record { front = i1.front ++ (i2.front); split = both i1.front (i2.front) s (a1.0.1) (a2.0.1) i1.split (i2.split); derives = var_name i1.derives i2.derives })

  vars_sound : (s us : Tokens) (y : List Item) → r.vars limit s ≡ Some (y, us) → Took (λ p. Vars limit p y) s us
  unfolding r.vars
  vars_sound s us y e =
      let a1 = bind_some (r.flag w.Var s) _ _ e in
      let i1 = flag_sound w.Var s a1.0.1 a1.0.0 a1.1 in
      let a2 = bind_some (type_in limit limit (a1.0.1)) _ _ a1.2 in
      let i2 = type_sound limit limit (a1.0.1) a2.0.1 a2.0.0 a2.1 in
      let a3 = bind_some (list_of Comma (r.var_name limit a2.0.0) (a2.0.1)) _ _ a2.2 in
      let i3 = list_sound Comma (r.var_name limit a2.0.0) (VarName limit a2.0.0) (var_name_sound a2.0.0) (a2.0.1) a3.0.1 a3.0.0 a3.1 in
      let a4 = bind_some (expect m.Semicolon (a3.0.1)) _ _ a3.2 in
      let i4 = expect_of m.Semicolon (a3.0.1) a4.0 a4.1 in
      took_as (λ g p. Vars limit p g) s (a4.0) us (a3.0.0) y (some_is _ _ a4.2)
      (record { front = i1.front ++ (i2.front ++ (i3.front ++ (i4.token ∷ []))); split = both i1.front (i2.front ++ (i3.front ++ (i4.token ∷ []))) s (a1.0.1) (a4.0) i1.split (both i2.front (i3.front ++ (i4.token ∷ [])) (a1.0.1) (a2.0.1) (a4.0) i2.split (both i3.front (i4.token ∷ []) (a2.0.1) (a3.0.1) (a4.0) i3.split (i4.is))); derives = vars i4.token i1.derives i2.derives i3.derives i4.is_mark })

  set_sound : (s us : Tokens) (y : Item) → r.set limit s ≡ Some (y, us) → Took (λ p. Set limit p y) s us
  unfolding r.set
  set_sound s us y e =
      let a1 = bind_some (left_side limit (below limit limit) s) _ _ e in
      let i1 = left_side_sound limit limit s a1.0.1 a1.0.0 a1.1 in
      let a2 = bind_some (expect m.Assign a1.0.1) _ _ a1.2 in
      let i2 = expect_of m.Assign a1.0.1 a2.0 a2.1 in
      let a3 = bind_some (whole limit (below limit limit) a2.0) _ _ a2.2 in
      let i3 = expression_sound limit limit a2.0 a3.0.1 a3.0.0 a3.1 in
      let starts : start s ≡ start i1.took.front = ap start i1.took.split ∙ start_append (left_begins limit i1.took.derives) a1.0.1 in
      let front : Tokens = i1.took.front ++ (i2.token ∷ i3.front) in
      took_as (λ g p. Set limit p g) s a3.0.1 us (i.Assign (start s) a1.0.0 a3.0.0) y (some_is _ _ a3.2)
      (record {
        front = front;
        split = both i1.took.front (i2.token ∷ i3.front) s a1.0.1 a3.0.1 i1.took.split (i2.is ∙ ap (λ l. i2.token ∷ l) i3.split);
        derives = subst (λ at. Set limit front (i.Assign at a1.0.0 a3.0.0)) (sym starts) (set i2.token i1.took.derives i1.few i2.is_mark i3.derives);
      })

  assigns_sound : (s us : Tokens) (y : List Item) → r.assigns limit s ≡ Some (y, us) → Took (λ p. Assigns limit p y) s us
  unfolding r.assigns
  assigns_sound s us y e =
      let a1 = bind_some (expect_word w.Assign s) _ _ e in
      let i1 = expect_word_of w.Assign s a1.0 a1.1 in
      let a2 = bind_some (list_of Comma (r.set limit) (a1.0)) _ _ a1.2 in
      let i2 = list_sound Comma (r.set limit) (Set limit) (set_sound) (a1.0) a2.0.1 a2.0.0 a2.1 in
      let a3 = bind_some (expect m.Semicolon (a2.0.1)) _ _ a2.2 in
      let i3 = expect_of m.Semicolon (a2.0.1) a3.0 a3.1 in
      took_as (λ g p. Assigns limit p g) s (a3.0) us (a2.0.0) y (some_is _ _ a3.2)
      (record { front = i1.token ∷ (i2.front ++ (i3.token ∷ [])); split = i1.is ∙ ap (λ l. i1.token ∷ l) (both i2.front (i3.token ∷ []) (a1.0) (a2.0.1) (a3.0) i2.split (i3.is)); derives = assigns i1.token i3.token i1.is_word i2.derives i3.is_mark })

  instance_name_sound : (at : Place) (of : List ℕ) (ps : List Conn) (s us : Tokens) (y : Item) → r.instance_name limit at of ps s ≡ Some (y, us) → Took (λ p. InstanceName limit at of ps p y) s us
  unfolding r.instance_name
  instance_name_sound at of ps s us y e =
      let a1 = bind_some (take_name s) _ _ e in
      let i1 = name_of s a1.0.1 a1.0.0 a1.1 in
      let a2 = bind_some (r.conns limit (a1.0.1)) _ _ a1.2 in
      let i2 = conns_sound (a1.0.1) a2.0.1 a2.0.0 a2.1 in
      took_as (λ g p. InstanceName limit at of ps p g) s (a2.0.1) us (i.Instance (start s) at of ps a1.0.0 a2.0.0) y (some_is _ _ a2.2)
      (record { front = i1.token ∷ i2.front; split = i1.is ∙ ap (λ l. i1.token ∷ l) (i2.split); derives = subst (λ here. InstanceName limit at of ps (i1.token ∷ i2.front) (i.Instance here at of ps a1.0.0 a2.0.0)) (sym (ap start i1.is)) (instance_name i1.token i1.is_name i2.derives) })

  maybe_params_sound : (s us : Tokens) (y : List Conn) → r.maybe_params limit s ≡ Some (y, us) → Took (λ l. MaybeParams limit l y) s us
  unfolding r.maybe_params
  maybe_params_sound s us y e =
      elim (if_cases (is_at m.Hash s) _ _ _ e) [
        | inl g ↦
            let o = front_of m.Hash s g.0 in
            let v = conns_sound (drop 1 s) us y g.1 in
            record { front = o.token ∷ v.front; split = o.is ∙ ap (λ l. o.token ∷ l) v.split; derives = with_params o.token o.is_mark v.derives }
        | inr g ↦ took_as (λ z l. MaybeParams limit l z) s s us [] y (some_is _ _ g.1) (record { front = []; split = refl; derives = no_params })
      ]

  -- the place of the module's name is the first token's
  instance_names_at : (s us : Tokens) (here at : Place) (of : List ℕ) (ps : List Conn) (y : List Item) → here ≡ at → Took (λ l. ListOf Comma (InstanceName limit here of ps) l y) s us
      → Took (λ l. ListOf Comma (InstanceName limit at of ps) l y) s us
  instance_names_at s us here at of ps y e v = subst (λ at. Took (λ l. ListOf Comma (InstanceName limit at of ps) l y) s us) e v

  instances_sound : (s us : Tokens) (y : List Item) → r.instances limit s ≡ Some (y, us) → Took (λ p. Instances limit p y) s us
  unfolding r.instances
  instances_sound s us y e =
      let a1 = bind_some (take_name s) _ _ e in
      let i1 = name_of s a1.0.1 a1.0.0 a1.1 in
      let a2 = bind_some (r.maybe_params limit (a1.0.1)) _ _ a1.2 in
      let i2 = maybe_params_sound (a1.0.1) a2.0.1 a2.0.0 a2.1 in
      let a3 = bind_some (list_of Comma (r.instance_name limit (start s) a1.0.0 a2.0.0) (a2.0.1)) _ _ a2.2 in
      let i3 = instance_names_at (a2.0.1) a3.0.1 (start s) i1.token.at a1.0.0 a2.0.0 a3.0.0 (ap start i1.is) (list_sound Comma (r.instance_name limit (start s) a1.0.0 a2.0.0) (InstanceName limit (start s) a1.0.0 a2.0.0) (instance_name_sound (start s) a1.0.0 a2.0.0) (a2.0.1) a3.0.1 a3.0.0 a3.1) in
      let a4 = bind_some (expect m.Semicolon (a3.0.1)) _ _ a3.2 in
      let i4 = expect_of m.Semicolon (a3.0.1) a4.0 a4.1 in
      took_as (λ g p. Instances limit p g) s (a4.0) us (a3.0.0) y (some_is _ _ a4.2)
      (record { front = i1.token ∷ (i2.front ++ (i3.front ++ (i4.token ∷ []))); split = i1.is ∙ ap (λ l. i1.token ∷ l) (both i2.front (i3.front ++ (i4.token ∷ [])) (a1.0.1) (a2.0.1) (a4.0) i2.split (both i3.front (i4.token ∷ []) (a2.0.1) (a3.0.1) (a4.0) i3.split (i4.is))); derives = instances i1.token i4.token i1.is_name i2.derives i3.derives i4.is_mark })

  procedure_sound : (s us : Tokens) (y : List Item) → r.procedure limit s ≡ Some (y, us) → Took (λ l. Procedure limit l y) s us
  unfolding r.procedure
  procedure_sound s us y e =
      let a1 = bind_some (r.first_by proc_of s) _ _ e in
      let i1 = first_by_is proc_of a1.0.0 s a1.0.1 refl a1.1 in
      let a2 = bind_some (r.statement limit a1.0.1) _ _ a1.2 in
      let i2 = whole_sound limit limit a1.0.1 a2.0.1 a2.0.0 a2.1 in
      let front : Tokens = i1.token ∷ i2.front in
      took_as (λ z l. Procedure limit l z) s a2.0.1 us (i.Procedure (record { at = start s; kind = a1.0.0; body = a2.0.0 }) ∷ []) y (some_is _ _ a2.2)
      (record {
        front = front;
        split = i1.is ∙ ap (λ l. i1.token ∷ l) i2.split;
        derives = subst (λ at. Procedure limit front (i.Procedure (record { at = at; kind = a1.0.0; body = a2.0.0 }) ∷ [])) (sym (ap start i1.is)) (procedure i1.token i1.fits i2.derives i2.few);
      })

  shared_sound : (f : Form) (s us : Tokens) (y : List Item) → r.package_by limit f s ≡ Some (y, us) → Took (λ l. ModuleItem limit l y) s us
  shared_sound f s us y e = let v = package_by_sound f s us y e in record { front = v.front; split = v.split; derives = is_shared v.derives }

  module_by_sound : (f : Form) (s us : Tokens) (y : List Item) → r.module_by limit f s ≡ Some (y, us) → Took (λ l. ModuleItem limit l y) s us
  module_by_sound form.Nets s us y e = let v = nets_sound s us y e in record { front = v.front; split = v.split; derives = is_nets v.derives }
  module_by_sound form.Vars s us y e = let v = vars_sound s us y e in record { front = v.front; split = v.split; derives = is_vars v.derives }
  module_by_sound form.Assigns s us y e = let v = assigns_sound s us y e in record { front = v.front; split = v.split; derives = is_assigns v.derives }
  module_by_sound form.Instances s us y e = let v = instances_sound s us y e in record { front = v.front; split = v.split; derives = is_instances v.derives }
  module_by_sound form.Procedure s us y e = let v = procedure_sound s us y e in record { front = v.front; split = v.split; derives = is_procedure v.derives }
  module_by_sound form.Import s us y e = shared_sound form.Import s us y e
  module_by_sound form.Params s us y e = shared_sound form.Params s us y e
  module_by_sound form.Typedef s us y e = shared_sound form.Typedef s us y e
  module_by_sound form.Nettype s us y e = shared_sound form.Nettype s us y e
  module_by_sound form.Function s us y e = shared_sound form.Function s us y e

  pub module_item_sound : (s us : Tokens) (y : List Item) → r.module_item limit s ≡ Some (y, us) → Took (λ l. ModuleItem limit l y) s us
  unfolding r.module_item
  module_item_sound s us y e = module_by_sound (r.form_of s) s us y e
