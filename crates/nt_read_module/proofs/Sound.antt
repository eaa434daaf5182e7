-- What is read as a module, a package or a file is derived by the grammar.
use Rattle.std.proofs.Common.{inl, inr, subst, ◌≡◌, ℕ, ◌+◌, if◌then◌else◌, List, [], ◌∷◌, ◌++◌, length, drop, Option, Some, None, refl, sym, ap, ◌∙◌}
use Rattle.nt_ast.specs.declared.path.Declared.{Declared}
use Rattle.nt_ast.specs.declared.types.TypeTree.{TypeTree}
use Rattle.nt_items.specs.declared.item.Port.{Port}
use Rattle.nt_items.specs.declared.item.Item.{Item}
use Rattle.nt_items.specs.declared.item.Item.TheVariants as i
use Rattle.nt_lexer.specs.declared.kinds.Mark.TheVariants as m
use Rattle.nt_lexer.specs.declared.kinds.Word.TheVariants as w
use Rattle.nt_lexer.specs.declared.kinds.TokenKind.{TokenKind}
use Rattle.nt_lexer.specs.declared.kinds.TokenKind.TheVariants as k
use Rattle.nt_lexer.specs.declared.kinds.Token.{Token}
use Rattle.nt_read_expr.specs.declared.list.Separator.TheVariants.{Comma}
use Rattle.nt_read_expr.specs.Tables.{Tokens, start}
use Rattle.nt_read_expr.specs.Reader.{first, is_at, expect, below, whole, list_of}
use Rattle.nt_read_stmt.specs.Reader.{is_word, expect_word, take_name, past_label}
use Rattle.nt_read_unit.specs.Groups.{Groups}
use Rattle.nt_read_unit.specs.Reader.{groups_of, named, maybe_type}
use Rattle.nt_read_item.specs.Tables.{plain_name}
use Rattle.nt_read_item.specs.Items.{Import, PackageItem, ModuleItem}
use Rattle.nt_read_item.specs.Reader as ir
use Rattle.nt_read_module.specs.declared.carried.PortText.{PortText}
use Rattle.nt_read_module.specs.declared.carried.ParamText.{ParamText}
use Rattle.nt_read_module.specs.declared.carried.Head.{Head}
use Rattle.nt_read_module.specs.Tables.{way_of, net_of}
use Rattle.nt_read_module.specs.Carried.{ports_from, params_from}
use Rattle.nt_read_module.specs.Units.{MaybeBy, not_written, written, PortIs, port, ParamIs, param, ParamList, no_param_list, param_list, PortList, no_port_list, no_ports, port_list, HeadIs, head, UnitIs, is_module, is_package, is_item, Source}
use Rattle.nt_read_module.specs.Reader as r
use Rattle.nt_read_expr.proofs.Basics.{bind_some, some_is, if_cases, either_cases, Took, close, both, took_as}
use Rattle.nt_read_expr.proofs.Lists.{list_sound}
use Rattle.nt_read_expr.proofs.Sound.{front_of, expect_of, expression_sound}
use Rattle.nt_read_stmt.proofs.Sound.{expect_word_of, label_sound}
use Rattle.nt_read_unit.proofs.GroupLaws.{groups_sound}
use Rattle.nt_read_unit.proofs.Sound.{name_of, first_is, maybe_type_sound, named_sound}
use Rattle.nt_read_item.proofs.Sound.{flag_sound, imports_sound, package_item_sound, module_item_sound}

maybe_by_sound : {A : Type 0} (f : TokenKind → Option A) → f k.End ≡ None → (s us : Tokens) (y : Option A) → r.maybe_by f s ≡ Some (y, us) → Took (λ p. MaybeBy f p y) s us
unfolding r.maybe_by
maybe_by_sound f n s us y e =
    elim (either_cases (f (first s)) _ _ _ e) [
      | inl g ↦ took_as (λ z p. MaybeBy f p z) s s us None y (some_is _ _ g.1) (record { front = []; split = refl; derives = not_written })
      | inr g ↦
          let v = first_is f g.0 s n g.1 in
          took_as (λ z p. MaybeBy f p z) s (drop 1 s) us (Some g.0) y (some_is _ _ g.2) (record { front = v.token ∷ []; split = v.is; derives = written v.token v.fits })
    ]

module _ (limit : ℕ) where
  port_sound : (s us : Tokens) (y : PortText) → r.port limit s ≡ Some (y, us) → Took (λ p. PortIs limit p y) s us
  unfolding r.port
  port_sound s us y e =
      let a1 = bind_some (r.maybe_by way_of s) _ _ e in
      let i1 = maybe_by_sound way_of refl s a1.0.1 a1.0.0 a1.1 in
      let a2 = bind_some (r.maybe_by net_of (a1.0.1)) _ _ a1.2 in
      let i2 = maybe_by_sound net_of refl (a1.0.1) a2.0.1 a2.0.0 a2.1 in
      let a3 = bind_some (maybe_type limit limit (a2.0.1)) _ _ a2.2 in
      let i3 = maybe_type_sound limit limit (a2.0.1) a3.0.1 a3.0.0 a3.1 in
      let a4 = bind_some (named limit limit (a3.0.1)) _ _ a3.2 in
      let i4 = named_sound limit limit (a3.0.1) a4.0.1 a4.0.0 a4.1 in
      took_as (λ g p. PortIs limit p g) s (a4.0.1) us (record { way = a1.0.0; kind = a2.0.0; of = a3.0.0; what = a4.0.0 }) y (some_is _ _ a4.2)
      (record { front = i1.front ++ (i2.front ++ (i3.front ++ (i4.front))); split = both i1.front (i2.front ++ (i3.front ++ (i4.front))) s (a1.0.1) (a4.0.1) i1.split (both i2.front (i3.front ++ (i4.front)) (a1.0.1) (a2.0.1) (a4.0.1) i2.split (both i3.front (i4.front) (a2.0.1) (a3.0.1) (a4.0.1) i3.split (i4.split))); derives = port i1.derives i2.derives i3.derives i4.derives })

  param_sound : (s us : Tokens) (y : ParamText) → r.param limit s ≡ Some (y, us) → Took (λ p. ParamIs limit p y) s us
  unfolding r.param
  param_sound s us y e =
      let a1 = bind_some (ir.flag w.Parameter s) _ _ e in
      let i1 = flag_sound w.Parameter s a1.0.1 a1.0.0 a1.1 in
      let a2 = bind_some (maybe_type limit limit (a1.0.1)) _ _ a1.2 in
      let i2 = maybe_type_sound limit limit (a1.0.1) a2.0.1 a2.0.0 a2.1 in
      let a3 = bind_some (take_name (a2.0.1)) _ _ a2.2 in
      let i3 = name_of (a2.0.1) a3.0.1 a3.0.0 a3.1 in
      let a4 = bind_some (expect m.Assign (a3.0.1)) _ _ a3.2 in
      let i4 = expect_of m.Assign (a3.0.1) a4.0 a4.1 in
      let a5 = bind_some (whole limit (below limit limit) (a4.0)) _ _ a4.2 in
      let i5 = expression_sound limit limit (a4.0) a5.0.1 a5.0.0 a5.1 in
      took_as (λ g p. ParamIs limit p g) s (a5.0.1) us (record { word = a1.0.0; of = a2.0.0; what = plain_name (start (a2.0.1)) a3.0.0 (Some a5.0.0) }) y (some_is _ _ a5.2)
      (record { front = i1.front ++ (i2.front ++ (i3.token ∷ i4.token ∷ i5.front)); split = both i1.front (i2.front ++ (i3.token ∷ i4.token ∷ i5.front)) s (a1.0.1) (a5.0.1) i1.split (both i2.front (i3.token ∷ i4.token ∷ i5.front) (a1.0.1) (a2.0.1) (a5.0.1) i2.split (i3.is ∙ ap (λ l. i3.token ∷ l) (i4.is ∙ ap (λ l. i4.token ∷ l) (i5.split)))); derives = subst (λ at. ParamIs limit (i1.front ++ (i2.front ++ (i3.token ∷ i4.token ∷ i5.front))) (record { word = a1.0.0; of = a2.0.0; what = plain_name at a3.0.0 (Some a5.0.0) })) (sym (ap start i3.is)) (param i3.token i4.token i1.derives i2.derives i3.is_name i4.is_mark i5.derives) })

  params_in_sound : (h : Token) (s us : Tokens) (y : List (Option TypeTree × Declared)) → h.kind ≡ k.Mark m.Hash → r.params_in limit s ≡ Some (y, us) → Took (λ p. ParamList limit p y) (h ∷ s) us
  unfolding r.params_in
  params_in_sound h s us y is_h e =
      let a1 = bind_some (expect m.LeftParen s) _ _ e in
      let i1 = expect_of m.LeftParen s a1.0 a1.1 in
      let a2 = bind_some (list_of Comma (r.param limit) a1.0) _ _ a1.2 in
      let i2 = list_sound Comma (r.param limit) (ParamIs limit) param_sound a1.0 a2.0.1 a2.0.0 a2.1 in
      let a3 = bind_some (expect m.RightParen a2.0.1) _ _ a2.2 in
      let i3 = expect_of m.RightParen a2.0.1 a3.0 a3.1 in
      took_as (λ g p. ParamList limit p g) (h ∷ s) a3.0 us (params_from None a2.0.0) y (some_is _ _ a3.2)
      (record {
        front = h ∷ i1.token ∷ (i2.front ++ i3.token ∷ []);
        split = ap (λ l. h ∷ l) (i1.is ∙ ap (λ l. i1.token ∷ l) (close i2.front a1.0 a2.0.1 a3.0 i3.token i2.split i3.is));
        derives = param_list h i1.token i3.token is_h i1.is_mark i2.derives i3.is_mark;
      })

  param_list_sound : (s us : Tokens) (y : List (Option TypeTree × Declared)) → r.param_list limit s ≡ Some (y, us) → Took (λ p. ParamList limit p y) s us
  unfolding r.param_list
  param_list_sound s us y e =
      elim (if_cases (is_at m.Hash s) _ _ _ e) [
        | inl g ↦
            let o = front_of m.Hash s g.0 in
            let v = params_in_sound o.token (drop 1 s) us y o.is_mark g.1 in
            record { front = v.front; split = o.is ∙ v.split; derives = v.derives }
        | inr g ↦ took_as (λ z p. ParamList limit p z) s s us [] y (some_is _ _ g.1) (record { front = []; split = refl; derives = no_param_list })
      ]

  some_ports_sound : (o : Token) (s us : Tokens) (y : List Port) → o.kind ≡ k.Mark m.LeftParen → r.some_ports limit s ≡ Some (y, us) → Took (λ p. PortList limit p y) (o ∷ s) us
  unfolding r.some_ports
  some_ports_sound o s us y is_o e =
      let a2 = bind_some (list_of Comma (r.port limit) s) _ _ e in
      let i2 = list_sound Comma (r.port limit) (PortIs limit) port_sound s a2.0.1 a2.0.0 a2.1 in
      let a3 = bind_some (expect m.RightParen a2.0.1) _ _ a2.2 in
      let i3 = expect_of m.RightParen a2.0.1 a3.0 a3.1 in
      took_as (λ g p. PortList limit p g) (o ∷ s) a3.0 us (ports_from None a2.0.0) y (some_is _ _ a3.2)
      (record { front = o ∷ (i2.front ++ i3.token ∷ []); split = ap (λ l. o ∷ l) (close i2.front s a2.0.1 a3.0 i3.token i2.split i3.is); derives = port_list o i3.token is_o i2.derives i3.is_mark })

  ports_by_sound : (o : Token) (s us : Tokens) (y : List Port) → o.kind ≡ k.Mark m.LeftParen → (if is_at m.RightParen s then Some ([], drop 1 s) else r.some_ports limit s) ≡ Some (y, us) → Took (λ p. PortList limit p y) (o ∷ s) us
  ports_by_sound o s us y is_o e =
      elim (if_cases (is_at m.RightParen s) _ _ _ e) [
        | inl g ↦
            let c = front_of m.RightParen s g.0 in
            took_as (λ z p. PortList limit p z) (o ∷ s) (drop 1 s) us [] y (some_is _ _ g.1) (record { front = o ∷ c.token ∷ []; split = ap (λ l. o ∷ l) c.is; derives = no_ports o c.token is_o c.is_mark })
        | inr g ↦ some_ports_sound o s us y is_o g.1
      ]

  port_list_sound : (s us : Tokens) (y : List Port) → r.port_list limit s ≡ Some (y, us) → Took (λ p. PortList limit p y) s us
  unfolding r.port_list is_at
  port_list_sound [] us y e = took_as (λ z p. PortList limit p z) [] [] us [] y (some_is _ _ e) (record { front = []; split = refl; derives = no_port_list })
  port_list_sound (t ∷ s) us y e =
      elim (if_cases (is_at m.LeftParen (t ∷ s)) _ _ _ e) [
        | inl g ↦
            let o = front_of m.LeftParen (t ∷ s) g.0 in
            let v = ports_by_sound o.token s us y o.is_mark g.1 in
            record { front = v.front; split = o.is ∙ v.split; derives = v.derives }
        | inr g ↦ took_as (λ z p. PortList limit p z) (t ∷ s) (t ∷ s) us [] y (some_is _ _ g.1) (record { front = []; split = refl; derives = no_port_list })
      ]

  all_imports_sound : (f : ℕ) (s us : Tokens) (y : List Item) → groups_of r.import_goes ir.imports f [] s ≡ Some (y, us) → Took (λ p. Groups Import p y) s us
  all_imports_sound f s us y e =
      let v = groups_sound r.import_goes ir.imports Import imports_sound f [] s us y e in
      record { front = v.took.front; split = v.took.split; derives = subst (λ z. Groups Import v.took.front z) (sym v.all) v.took.derives }

  module_items_sound : (f : ℕ) (s us : Tokens) (y : List Item) → groups_of r.module_goes (ir.module_item limit) f [] s ≡ Some (y, us) → Took (λ p. Groups (ModuleItem limit) p y) s us
  module_items_sound f s us y e =
      let v = groups_sound r.module_goes (ir.module_item limit) (ModuleItem limit) (module_item_sound limit) f [] s us y e in
      record { front = v.took.front; split = v.took.split; derives = subst (λ z. Groups (ModuleItem limit) v.took.front z) (sym v.all) v.took.derives }

  package_items_sound : (f : ℕ) (s us : Tokens) (y : List Item) → groups_of r.package_goes (ir.package_item limit) f [] s ≡ Some (y, us) → Took (λ p. Groups (PackageItem limit) p y) s us
  package_items_sound f s us y e =
      let v = groups_sound r.package_goes (ir.package_item limit) (PackageItem limit) (package_item_sound limit) f [] s us y e in
      record { front = v.took.front; split = v.took.split; derives = subst (λ z. Groups (PackageItem limit) v.took.front z) (sym v.all) v.took.derives }

  head_sound : (s us : Tokens) (y : Head) → r.head limit s ≡ Some (y, us) → Took (λ p. HeadIs limit p y) s us
  unfolding r.head
  head_sound s us y e =
      let a1 = bind_some (take_name s) _ _ e in
      let i1 = name_of s a1.0.1 a1.0.0 a1.1 in
      let a2 = bind_some (groups_of r.import_goes ir.imports (length a1.0.1 + 1) [] (a1.0.1)) _ _ a1.2 in
      let i2 = all_imports_sound (length a1.0.1 + 1) (a1.0.1) a2.0.1 a2.0.0 a2.1 in
      let a3 = bind_some (r.param_list limit (a2.0.1)) _ _ a2.2 in
      let i3 = param_list_sound (a2.0.1) a3.0.1 a3.0.0 a3.1 in
      let a4 = bind_some (r.port_list limit (a3.0.1)) _ _ a3.2 in
      let i4 = port_list_sound (a3.0.1) a4.0.1 a4.0.0 a4.1 in
      let a5 = bind_some (expect m.Semicolon (a4.0.1)) _ _ a4.2 in
      let i5 = expect_of m.Semicolon (a4.0.1) a5.0 a5.1 in
      took_as (λ g p. HeadIs limit p g) s (a5.0) us (record { at = (start s); name = a1.0.0; imports = a2.0.0; params = a3.0.0; ports = a4.0.0 }) y (some_is _ _ a5.2)
      (record { front = i1.token ∷ (i2.front ++ (i3.front ++ (i4.front ++ (i5.token ∷ [])))); split = i1.is ∙ ap (λ l. i1.token ∷ l) (both i2.front (i3.front ++ (i4.front ++ (i5.token ∷ []))) (a1.0.1) (a2.0.1) (a5.0) i2.split (both i3.front (i4.front ++ (i5.token ∷ [])) (a2.0.1) (a3.0.1) (a5.0) i3.split (both i4.front (i5.token ∷ []) (a3.0.1) (a4.0.1) (a5.0) i4.split (i5.is)))); derives = subst (λ at. HeadIs limit (i1.token ∷ (i2.front ++ (i3.front ++ (i4.front ++ (i5.token ∷ []))))) (record { at = at; name = a1.0.0; imports = a2.0.0; params = a3.0.0; ports = a4.0.0 })) (sym (ap start i1.is)) (head i1.token i5.token i1.is_name i2.derives i3.derives i4.derives i5.is_mark) })

  module_unit_sound : (s us : Tokens) (y : List Item) → r.module_unit limit s ≡ Some (y, us) → Took (λ p. UnitIs limit p y) s us
  unfolding r.module_unit
  module_unit_sound s us y e =
      let a1 = bind_some (expect_word w.Module s) _ _ e in
      let i1 = expect_word_of w.Module s a1.0 a1.1 in
      let a2 = bind_some (r.head limit (a1.0)) _ _ a1.2 in
      let i2 = head_sound (a1.0) a2.0.1 a2.0.0 a2.1 in
      let a3 = bind_some (groups_of r.module_goes (ir.module_item limit) (length a2.0.1 + 1) [] (a2.0.1)) _ _ a2.2 in
      let i3 = module_items_sound (length a2.0.1 + 1) (a2.0.1) a3.0.1 a3.0.0 a3.1 in
      let a4 = bind_some (expect_word w.EndModule (a3.0.1)) _ _ a3.2 in
      let i4 = expect_word_of w.EndModule (a3.0.1) a4.0 a4.1 in
      let a5 = bind_some (past_label (a4.0)) _ _ a4.2 in
      let i5 = label_sound (a4.0) a5.0 a5.1 in
      took_as (λ g p. UnitIs limit p g) s (a5.0) us (i.Module a2.0.0.at a2.0.0.name a2.0.0.params a2.0.0.ports (a2.0.0.imports ++ a3.0.0) ∷ []) y (some_is _ _ a5.2)
      (record { front = i1.token ∷ (i2.front ++ (i3.front ++ (i4.token ∷ i5.front))); split = i1.is ∙ ap (λ l. i1.token ∷ l) (both i2.front (i3.front ++ (i4.token ∷ i5.front)) (a1.0) (a2.0.1) (a5.0) i2.split (both i3.front (i4.token ∷ i5.front) (a2.0.1) (a3.0.1) (a5.0) i3.split (i4.is ∙ ap (λ l. i4.token ∷ l) (i5.split)))); derives = is_module i1.token i4.token i1.is_word i2.derives i3.derives i4.is_word i5.derives })

  package_unit_sound : (s us : Tokens) (y : List Item) → r.package_unit limit s ≡ Some (y, us) → Took (λ p. UnitIs limit p y) s us
  unfolding r.package_unit
  package_unit_sound s us y e =
      let a1 = bind_some (expect_word w.Package s) _ _ e in
      let i1 = expect_word_of w.Package s a1.0 a1.1 in
      let a2 = bind_some (take_name (a1.0)) _ _ a1.2 in
      let i2 = name_of (a1.0) a2.0.1 a2.0.0 a2.1 in
      let a3 = bind_some (expect m.Semicolon (a2.0.1)) _ _ a2.2 in
      let i3 = expect_of m.Semicolon (a2.0.1) a3.0 a3.1 in
      let a4 = bind_some (groups_of r.package_goes (ir.package_item limit) (length a3.0 + 1) [] (a3.0)) _ _ a3.2 in
      let i4 = package_items_sound (length a3.0 + 1) (a3.0) a4.0.1 a4.0.0 a4.1 in
      let a5 = bind_some (expect_word w.EndPackage (a4.0.1)) _ _ a4.2 in
      let i5 = expect_word_of w.EndPackage (a4.0.1) a5.0 a5.1 in
      let a6 = bind_some (past_label (a5.0)) _ _ a5.2 in
      let i6 = label_sound (a5.0) a6.0 a6.1 in
      took_as (λ g p. UnitIs limit p g) s (a6.0) us (i.Package (start (a1.0)) a2.0.0 a4.0.0 ∷ []) y (some_is _ _ a6.2)
      (record { front = i1.token ∷ (i2.token ∷ (i3.token ∷ (i4.front ++ (i5.token ∷ i6.front)))); split = i1.is ∙ ap (λ l. i1.token ∷ l) (i2.is ∙ ap (λ l. i2.token ∷ l) (i3.is ∙ ap (λ l. i3.token ∷ l) (both i4.front (i5.token ∷ i6.front) (a3.0) (a4.0.1) (a6.0) i4.split (i5.is ∙ ap (λ l. i5.token ∷ l) (i6.split))))); derives = subst (λ at. UnitIs limit (i1.token ∷ (i2.token ∷ (i3.token ∷ (i4.front ++ (i5.token ∷ i6.front))))) (i.Package at a2.0.0 a4.0.0 ∷ [])) (sym (ap start i2.is)) (is_package i1.token i2.token i3.token i5.token i1.is_word i2.is_name i3.is_mark i4.derives i5.is_word i6.derives) })

  unit_sound : (s us : Tokens) (y : List Item) → r.unit limit s ≡ Some (y, us) → Took (λ p. UnitIs limit p y) s us
  unfolding r.unit
  unit_sound s us y e =
      elim (if_cases (is_word w.Module s) _ _ _ e) [
        | inl g ↦ module_unit_sound s us y g.1
        | inr g ↦
            elim (if_cases (is_word w.Package s) _ _ _ g.1) [
              | inl h ↦ package_unit_sound s us y h.1
              | inr h ↦ let v = package_item_sound limit s us y h.1 in record { front = v.front; split = v.split; derives = is_item v.derives }
            ]
      ]

  pub source_sound : (s us : Tokens) (y : List Item) → r.source limit s ≡ Some (y, us) → Took (λ p. Source limit p y) s us
  unfolding r.source
  source_sound s us y e =
      let v = groups_sound r.unit_goes (r.unit limit) (UnitIs limit) unit_sound (length s + 1) [] s us y e in
      record { front = v.took.front; split = v.took.split; derives = subst (λ z. Source limit v.took.front z) (sym v.all) v.took.derives }
