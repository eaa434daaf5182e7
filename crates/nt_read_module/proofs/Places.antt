-- What is derived as a file from tokens in the order of their offsets has its places in that order.
use Rattle.std.proofs.Common.{◌≡◌, ℕ, ◌≤◌, Bool, true, false, List, [], ◌∷◌, ◌++◌, Option, Some, None, refl, arith}
use Rattle.nt_value.specs.declared.place.Place.{Place}
use Rattle.nt_ast.specs.declared.path.Declared.{Declared}
use Rattle.nt_ast.specs.declared.types.TypeTree.{TypeTree}
use Rattle.nt_ast.specs.declared.types.TypeTree.TheViews.{out-TypeTree}
use Rattle.nt_ast.specs.Places.{Within, some_in, no_dims, no_range, DeclaredPlaced, no_names, more_names, TypePlaced, integral_in}
use Rattle.nt_items.specs.declared.item.Way.{Way}
use Rattle.nt_items.specs.declared.item.PortKind.{PortKind}
use Rattle.nt_items.specs.declared.item.Port.{Port}
use Rattle.nt_items.specs.declared.item.Item.{Item}
use Rattle.nt_items.specs.Places.{TypeFor, before, unwritten, MaybeTypePlaced, no_type_in, type_in, PortsPlaced, no_ports_in, more_ports, ParamsPlaced, no_params_in, more_params, package_in, module_in, ItemsPlaced, no_items_in, more_items_in}
use Rattle.nt_items.proofs.Rolled.{package_placed, module_placed, items_lower, items_append}
use Rattle.nt_lexer.specs.Laws.{Ascending}
use Rattle.nt_read_expr.specs.declared.list.Separator.TheVariants.{Comma}
use Rattle.nt_read_expr.specs.Tables.{Tokens}
use Rattle.nt_read_expr.specs.Lists.{MoreOf, no_item, next_item, ListOf, listed}
use Rattle.nt_read_expr.proofs.Places.{spans, wider, halves, rest_of, front_of, first_in, from_first, expression_placed}
use Rattle.nt_read_unit.specs.Groups.{Groups, no_group, next_group}
use Rattle.nt_read_unit.specs.Tables.{one_bit}
use Rattle.nt_read_unit.specs.Types.{Named, named, MaybeType}
use Rattle.nt_read_unit.proofs.Places.{back_of, named_placed, maybe_type_placed, integral_placed}
use Rattle.nt_read_item.specs.Tables.{type_at, plain_name}
use Rattle.nt_read_item.specs.Items.{Import, PackageItem, ModuleItem}
use Rattle.nt_read_item.proofs.Places.{imports_placed, package_item_placed, module_item_placed}
use Rattle.nt_read_module.specs.declared.carried.PortText.{PortText}
use Rattle.nt_read_module.specs.declared.carried.ParamText.{ParamText}
use Rattle.nt_read_module.specs.declared.carried.Before.{Before}
use Rattle.nt_read_module.specs.declared.carried.Head.{Head}
use Rattle.nt_read_module.specs.Carried.{way_after, kind_after, is_bare_port, own_port, port_by, port_after, of_port, ports_from, param_type, params_from}
use Rattle.nt_read_module.specs.Units.{PortIs, port, ParamIs, param, ParamList, no_param_list, param_list, PortList, no_port_list, no_ports, port_list, HeadIs, head, UnitIs, is_module, is_package, is_item, Source}

module _ (file lo : ℕ) where
  -- a type that stands before all that begins at b or later
  abbrev Known : ℕ → TypeTree → Type 0
  Known b of = (g : ℕ) → b ≤ g → TypePlaced file lo g (out-TypeTree of)

  -- what may be taken over
  abbrev KnownBefore : ℕ → Option Before → Type 0
  KnownBefore b None = Unit {0}
  KnownBefore b (Some x) = Known b x.of

  later_before : {b c : ℕ} (x : Option Before) → b ≤ c → KnownBefore b x → KnownBefore c x
  later_before None le n = tt
  later_before (Some x) le n = λ g me. n g (omega arith)

  abbrev KnownType : ℕ → Option TypeTree → Type 0
  KnownType b None = Unit {0}
  KnownType b (Some x) = Known b x

  later_type : {b c : ℕ} (x : Option TypeTree) → b ≤ c → KnownType b x → KnownType c x
  later_type None le n = tt
  later_type (Some x) le n = λ g me. n g (omega arith)

  module _ (limit : ℕ) where
    higher : {i j h : ℕ} {ts : Tokens} → j ≤ h → Ascending file i j ts → Ascending file i h ts
    higher le a = wider file (omega arith) le a

    written_type : {i b : ℕ} {ts : Tokens} (of : Option TypeTree) → lo ≤ i → MaybeType limit limit ts of → Ascending file i b ts → KnownType b of
    written_type None le one a = tt
    written_type (Some x) le one a = λ g me. maybe_type_placed file limit one (wider file le me a)

    -- ---- ports

    -- one port: its type, and what the next may take over
    record Step (g h : ℕ) (q : Port) : Type 0 where
      kind : TypeFor file lo g q.at q.of
      own : q.at ≡ q.what.at
      what : DeclaredPlaced file g h (q.what ∷ [])
      next : Known h q.of

    bit_known : {h : ℕ} (at : Place) → Within file lo h at → Known h (one_bit at)
    bit_known at w = λ g le. integral_placed (integral_in (record { same = w.same; from = w.from; below = (let e = w.below in omega arith) }) (no_range (let e = w.below in omega arith)))

    own_by : {g h : ℕ} (of : Option TypeTree) (v : Way) (kind : PortKind) (what : Declared) → g ≤ h → KnownType g of → DeclaredPlaced file g h (what ∷ []) → Within file lo h what.at
        → Step g h (record { at = what.at; way = v; kind = kind; of = type_at of what.at; what = what })
    own_by None v kind what le n d w = record { kind = unwritten refl; own = refl; what = d; next = bit_known what.at w }
    own_by {g = g} (Some x) v kind what le n d w = record { kind = before (n g (omega arith)); own = refl; what = d; next = λ k me. n k (omega arith) }

    own_step : {g h : ℕ} (b : Option Before) (p : PortText) → g ≤ h → KnownType g p.of → DeclaredPlaced file g h (p.what ∷ []) → Within file lo h p.what.at → Step g h (own_port b p)
    own_step b p le n d w = own_by p.of (way_after b p.way) (kind_after p.kind (way_after b p.way) p.of) p.what le n d w

    step_by : {g h : ℕ} (bare : Bool) (b : Option Before) (p : PortText) → g ≤ h → KnownBefore g b → KnownType g p.of → DeclaredPlaced file g h (p.what ∷ []) → Within file lo h p.what.at → Step g h (port_by bare b p)
    step_by {g = g} true (Some x) p le m n d w = record { kind = before (m g (omega arith)); own = refl; what = d; next = λ k me. m k (omega arith) }
    step_by true None p le m n d w = own_step None p le n d w
    step_by false b p le m n d w = own_step b p le n d w

    -- one port as it is written, in its tokens
    record PortParts (i h : ℕ) (p : PortText) : Type 0 where
      at : ℕ
      from : i ≤ at
      below : at ≤ h
      of : KnownType at p.of
      what : DeclaredPlaced file at h (p.what ∷ [])
      own : Within file lo h p.what.at

    named_within : {i h : ℕ} {ts : Tokens} {y : Declared} → lo ≤ i → Named limit limit ts y → Ascending file i h ts → Within file lo h y.at
    named_within le (named n is_n dims) a = first_in file (wider file le (omega arith) a)

    port_parts : {i h : ℕ} {ts : Tokens} {p : PortText} → lo ≤ i → PortIs limit ts p → Ascending file i h ts → PortParts i h p
    port_parts le (port {of = of} {ts = ts} {us = us} {vs = vs} {ws = ws} way kind type_is what) a =
        let b = back_of file ts (us ++ (vs ++ ws)) a in
        let c = back_of file us (vs ++ ws) b in
        let f = halves file vs ws c in
        let s = spans file f.one in
        record {
          at = f.at;
          from = s;
          below = spans file f.two;
          of = written_type of le type_is f.one;
          what = named_placed file limit what f.two;
          own = named_within (omega arith) what f.two;
        }

    port_step : {i h : ℕ} {ts : Tokens} {p : PortText} (b : Option Before) → lo ≤ i → KnownBefore i b → PortIs limit ts p → Ascending file i h ts → (g : ℕ) × (i ≤ g) × Step g h (port_after b p)
    port_step {p = p} b le m one a =
        let v = port_parts le one a in
        let f = v.from in
        (v.at, f, step_by (is_bare_port p) b p v.below (later_before b f m) v.of v.what v.own)

    more_ports_placed : {ts : Tokens} {ps : List PortText} {i j : ℕ} (b : Option Before) → lo ≤ i → KnownBefore i b → MoreOf Comma (PortIs limit) ts ps → Ascending file i j ts → PortsPlaced file lo i j (ports_from b ps)
    unfolding ports_from
    more_ports_placed b le m no_item a = no_ports_in (spans file a)
    more_ports_placed b le m (next_item {ts = ts} {us = us} {x = p} t e one more) a =
        let h = halves file ts us (rest_of file a) in
        let v = port_step b le m one h.one in
        let s = spans file h.one in
        let n = v.2 in
        more_ports v.1 n.kind n.own n.what (more_ports_placed (Some (of_port (port_after b p))) (omega arith) n.next more h.two)

    some_ports_placed : {i j : ℕ} {ts : Tokens} {ps : List PortText} → lo ≤ i → ListOf Comma (PortIs limit) ts ps → Ascending file i j ts → PortsPlaced file lo i j (ports_from None ps)
    unfolding ports_from
    some_ports_placed le (listed {ts = ts} {us = us} {x = p} one more) a =
        let h = halves file ts us a in
        let v = port_step None le tt one h.one in
        let s = spans file h.one in
        let n = v.2 in
        more_ports v.1 n.kind n.own n.what (more_ports_placed (Some (of_port (port_after None p))) (omega arith) n.next more h.two)

    port_list_placed : {i j : ℕ} {ts : Tokens} {qs : List Port} → lo ≤ i → PortList limit ts qs → Ascending file i j ts → PortsPlaced file lo i j qs
    port_list_placed le no_port_list a = no_ports_in (spans file a)
    port_list_placed le (no_ports o c is_o is_c) a = no_ports_in (spans file a)
    port_list_placed le (port_list {ts = ts} o c is_o all is_c) a = some_ports_placed le all (front_of file ts (c ∷ []) (rest_of file a))

    -- ---- parameters

    maybe_known : {g : ℕ} (of : Option TypeTree) → KnownType g of → MaybeTypePlaced file lo g of
    maybe_known None n = no_type_in
    maybe_known {g = g} (Some x) n = type_in (n g (omega arith))

    taken_type : (g : ℕ) (word : Bool) (b of : Option TypeTree) (what : Declared) → KnownType g b → KnownType g of → KnownType g (param_type b (record { word = word; of = of; what = what }))
    taken_type g true b of what m n = n
    taken_type g false b None what m n = m
    taken_type g false b (Some x) what m n = n

    record ParamParts (i h : ℕ) (b : Option TypeTree) (p : ParamText) : Type 0 where
      at : ℕ
      from : i ≤ at
      below : at ≤ h
      of : KnownType at (param_type b p)
      what : DeclaredPlaced file at h (p.what ∷ [])

    param_parts : {i h : ℕ} {ts : Tokens} {p : ParamText} (b : Option TypeTree) → lo ≤ i → KnownType i b → ParamIs limit ts p → Ascending file i h ts → ParamParts i h b p
    param_parts b le m (param {word = word} {of = of} {name = name} {ts = ts} {us = us} {vs = vs} {x = v} n q word_is type_is is_n is_q one) a =
        let c = back_of file ts (us ++ (n ∷ q ∷ vs)) a in
        let f = halves file us (n ∷ q ∷ vs) c in
        let s = spans file f.one in
        record {
          at = f.at;
          from = s;
          below = spans file f.two;
          of = taken_type f.at word b of (plain_name n.at name (Some v)) (later_type b s m) (written_type of le type_is f.one);
          what = more_names (first_in file f.two) (no_dims (omega arith)) (some_in (expression_placed file limit one (rest_of file (rest_of file (from_first file f.two))))) (no_names (omega arith));
        }

    more_params_placed : {ts : Tokens} {ps : List ParamText} {i j : ℕ} (b : Option TypeTree) → lo ≤ i → KnownType i b → MoreOf Comma (ParamIs limit) ts ps → Ascending file i j ts → ParamsPlaced file lo i j (params_from b ps)
    unfolding params_from
    more_params_placed b le m no_item a = no_params_in (spans file a)
    more_params_placed b le m (next_item {ts = ts} {us = us} {x = p} t e one more) a =
        let h = halves file ts us (rest_of file a) in
        let v = param_parts b le m one h.one in
        let s = spans file h.one in
        more_params v.from (maybe_known (param_type b p) v.of) v.what (more_params_placed (param_type b p) (omega arith) (later_type (param_type b p) v.below v.of) more h.two)

    param_list_placed : {i j : ℕ} {ts : Tokens} {ps : List (Option TypeTree × Declared)} → lo ≤ i → ParamList limit ts ps → Ascending file i j ts → ParamsPlaced file lo i j ps
    unfolding params_from
    param_list_placed le no_param_list a = no_params_in (spans file a)
    param_list_placed le (param_list h' o c is_h is_o (listed {ts = ts} {us = us} {x = p} one more) is_c) a =
        let h = halves file ts us (front_of file (ts ++ us) (c ∷ []) (rest_of file (rest_of file a))) in
        let v = param_parts None le tt one h.one in
        let s = spans file h.one in
        more_params v.from (maybe_known (param_type None p) v.of) v.what (more_params_placed (param_type None p) (omega arith) (later_type (param_type None p) v.below v.of) more h.two)

module _ (file limit : ℕ) where
  -- groups of items in a row
  module _ (G : Tokens → List Item → Type 0) (lo : ℕ) (I : (i j : ℕ) (ts : Tokens) (xs : List Item) → G ts xs → Ascending file i j ts → lo ≤ i → ItemsPlaced file lo i j xs) where
    all_placed : {ts : Tokens} {xs : List Item} {i j : ℕ} → Groups G ts xs → Ascending file i j ts → lo ≤ i → ItemsPlaced file lo i j xs
    all_placed no_group a le = no_items_in (spans file a)
    all_placed (next_group {ts = ts} {us = us} one more) a le =
        let h = halves file ts us a in
        let s = spans file h.one in
        items_append (I _ _ _ _ one h.one le) (all_placed more h.two (omega arith))

  -- the head of a module: its parts, and where they end
  record HeadParts (i j : ℕ) (h : Head) : Type 0 where
    own : Within file i j h.at
    imports_to : ℕ
    imports_end : imports_to ≤ j
    imports : ItemsPlaced file h.at.offset h.at.offset imports_to h.imports
    params_to : ℕ
    params : ParamsPlaced file h.at.offset h.at.offset params_to h.params
    ports : PortsPlaced file h.at.offset params_to j h.ports

  lower_params : {lo i h j : ℕ} {ps : List (Option TypeTree × Declared)} → i ≤ h → ParamsPlaced file lo h j ps → ParamsPlaced file lo i j ps
  lower_params le (no_params_in e) = no_params_in (omega (arith, le, e))
  lower_params le (more_params a k d ps) = more_params (omega (arith, le, a)) k d ps

  head_parts : {i j : ℕ} {ts : Tokens} {h : Head} → HeadIs limit ts h → Ascending file i j ts → HeadParts i j h
  head_parts (head {ts = ts} {us = us} {vs = vs} n c is_n all params_one ports_one is_c) a =
      let b = rest_of file (from_first file a) in
      let f = halves file ts (us ++ (vs ++ c ∷ [])) b in
      let g = halves file us (vs ++ c ∷ []) f.two in
      let s = spans file f.one in
      let r = spans file g.one in
      record {
        own = first_in file a;
        imports_to = f.at;
        imports_end = spans file f.two;
        imports = all_placed Import n.at.offset (λ i j ts xs one a le. imports_placed file one a le) all f.one (omega arith);
        params_to = g.at;
        params = lower_params s (param_list_placed file n.at.offset limit s params_one g.one);
        ports = port_list_placed file n.at.offset limit (omega arith) ports_one (front_of file vs (c ∷ []) g.two);
      }

  unit_placed : {lo i j : ℕ} {ts : Tokens} {xs : List Item} → UnitIs limit ts xs → Ascending file i j ts → lo ≤ i → ItemsPlaced file lo i j xs
  unit_placed {i = i} (is_module {ts = ts} {us = us} {ms = ms} t e is_t one all is_e label) a le =
      let f = halves file ts (us ++ (e ∷ ms)) (rest_of file a) in
      let v = head_parts one f.one in
      let w = v.own in
      let s = v.imports_end in
      let z = spans file f.two in
      more_items_in le (omega arith)
      (module_placed (module_in (record { same = w.same; from = w.from; below = (let q = w.below in omega arith) }) v.params (ports_to z v.ports)
      (items_append v.imports (items_lower s (all_placed (ModuleItem limit) _ (λ i j ts xs one a le. module_item_placed file limit one a le) all (front_of file us (e ∷ ms) f.two) (let q = w.below in omega arith))))))
      (no_items_in (omega arith))
    where
      ports_to : {lo i h j : ℕ} {qs : List Port} → h ≤ j → PortsPlaced file lo i h qs → PortsPlaced file lo i j qs
      ports_to le (no_ports_in e) = no_ports_in (omega (arith, le, e))
      ports_to le (more_ports a k o d ps) = more_ports a k o d (ports_to le ps)
  unit_placed (is_package {ts = ts} {ms = ms} t n c e is_t is_n is_c all is_e label) a le =
      let b = rest_of file a in
      more_items_in le (omega arith)
      (package_placed (package_in (first_in file b) (all_placed (PackageItem limit) _ (λ i j ts xs one a le. package_item_placed file limit one a le) all (front_of file ts (e ∷ ms) (rest_of file (rest_of file (from_first file b)))) (omega arith))))
      (no_items_in (omega arith))
  unit_placed (is_item one) a le = package_item_placed file limit one a le

  pub source_placed : {i j : ℕ} {ts : Tokens} {xs : List Item} → Source limit ts xs → Ascending file i j ts → ItemsPlaced file i i j xs
  source_placed {i = i} all a = all_placed (UnitIs limit) i (λ i j ts xs one a le. unit_placed one a le) all a (omega arith)
