-- What is derived as a type or a declared name from tokens in the order of their offsets has its places in that order.
use Rattle.std.proofs.Common.{◌≡◌, ℕ, Bool, List, [], ◌∷◌, ◌++◌, map, Option, Some, None, refl, sym, ap, subst, arith}
use denote.Hole.Carrier.{roll}
use Rattle.nt_value.specs.declared.place.Place.{Place}
use Rattle.nt_ast.specs.declared.path.Path.{Path}
use Rattle.nt_ast.specs.declared.path.Declared.{Declared}
use Rattle.nt_ast.specs.declared.expr.Expr.{Expr}
use Rattle.nt_ast.specs.declared.types.IntWord.{IntWord}
use Rattle.nt_ast.specs.declared.types.TypeTree.{TypeTree}
use Rattle.nt_ast.specs.declared.types.TypeTree.TheVariants as t
use Rattle.nt_ast.specs.declared.types.TypeTree.TheOpen.{TypeTree-F}
use Rattle.nt_ast.specs.declared.types.TypeTree.TheViews.{out-TypeTree, roll-TypeTree, out-roll-TypeTree}
use Rattle.nt_ast.specs.Places.{Within, RangePlaced, no_range, range_in, none_in, some_in, DimsPlaced, no_dims, more_dims, DeclaredPlaced, no_names, more_names, TypePlaced, integral_in, struct_in, named_in, MembersPlaced, no_members, more_members}
use Rattle.nt_lexer.specs.Laws.{Ascending}
use Rattle.nt_read_expr.specs.declared.list.Separator.TheVariants.{Comma}
use Rattle.nt_read_expr.specs.Tables.{Tokens, start}
use Rattle.nt_read_expr.specs.Lists.{MoreOf, no_item, next_item, ListOf, listed}
use Rattle.nt_read_expr.proofs.Begins.{reference_begins}
use Rattle.nt_read_expr.proofs.Places.{spans, wider, halves, rest_of, front_of, first_in, start_in, from_first, from_its_start, path_in, expression_placed}
use Rattle.nt_read_unit.specs.Groups.{Groups, no_group, next_group}
use Rattle.nt_read_unit.specs.Types.{Range, range, MaybeRange, no_range as not_ranged, some_range, Dim, size, ends, Named, named, Plain, vector, atom, known, MemberName, member_name, Structure, structure, Members, no_member, next_member, member, MemberType, flat, inner, TypeIs, plain_type, struct_type, MaybeType, some_type, only_sign, only_range}

module _ {file i j : ℕ} where
  rolled : (n : TypeTree-F TypeTree) → TypePlaced file i j n → TypePlaced file i j (out-TypeTree (roll-TypeTree n))
  rolled n p = subst (λ (y : TypeTree-F TypeTree). TypePlaced file i j y) (sym (out-roll-TypeTree n)) p

  pub integral_placed : {at : Place} {word : IntWord} {s : Option Bool} {r : Option (Expr × Expr)} → TypePlaced file i j (TypeTree-F.Integral at word s r) → TypePlaced file i j (out-TypeTree (t.Integral at word s r))
  unfolding roll-TypeTree roll
  integral_placed {at = at} {word = word} {s = s} {r = r} p = rolled (TypeTree-F.Integral at word s r) p

  pub struct_placed : {at : Place} {ms : List (TypeTree × Declared)} → TypePlaced file i j (TypeTree-F.Struct at ms) → TypePlaced file i j (out-TypeTree (t.Struct at ms))
  unfolding roll-TypeTree roll
  struct_placed {at = at} {ms = ms} p = rolled (TypeTree-F.Struct at ms) p

  pub named_type_placed : {at : Place} {path : Path} → TypePlaced file i j (TypeTree-F.Named at path) → TypePlaced file i j (out-TypeTree (t.Named at path))
  unfolding roll-TypeTree roll
  named_type_placed {at = at} {path = path} p = rolled (TypeTree-F.Named at path) p

  pub void_placed : {at : Place} → TypePlaced file i j (TypeTree-F.Void at) → TypePlaced file i j (out-TypeTree (t.Void at))
  unfolding roll-TypeTree roll
  void_placed {at = at} p = rolled (TypeTree-F.Void at) p

module _ (file : ℕ) where
  -- the tokens behind the first parts
  pub back_of : {i j : ℕ} (ts us : Tokens) → Ascending file i j (ts ++ us) → Ascending file i j us
  back_of ts us a = let h = halves file ts us a in wider file (spans file h.one) (omega arith) h.two

  module _ (limit : ℕ) where
    range_placed : {d i j : ℕ} {ts : Tokens} {r : Expr × Expr} → Range limit d ts r → Ascending file i j ts → RangePlaced file i j (Some r)
    range_placed (range {ts = ts} {us = us} o q c is_o one is_q two is_c) a =
        let h = halves file ts (q ∷ (us ++ c ∷ [])) (rest_of file a) in
        range_in (expression_placed file limit one h.one) (expression_placed file limit two (front_of file us (c ∷ []) (rest_of file h.two)))

    maybe_range_placed : {d i j : ℕ} {ts : Tokens} {r : Option (Expr × Expr)} → MaybeRange limit d ts r → Ascending file i j ts → RangePlaced file i j r
    maybe_range_placed not_ranged a = no_range (spans file a)
    maybe_range_placed (some_range one) a = range_placed one a

    pub dims_placed : {d : ℕ} {ts : Tokens} {xs : List (Expr × Option Expr)} {i j : ℕ} → Groups (Dim limit d) ts xs → Ascending file i j ts → DimsPlaced file i j xs
    dims_placed no_group a = no_dims (spans file a)
    dims_placed (next_group {us = us} (size {ts = ts} o c is_o one is_c) more) a =
        let h = halves file (o ∷ (ts ++ c ∷ [])) us a in
        more_dims (expression_placed file limit one (front_of file ts (c ∷ []) (rest_of file h.one))) (none_in (omega arith)) (dims_placed more h.two)
    dims_placed (next_group {us = us} (ends (range {ts = ts} {us = es} o q c is_o one is_q two is_c)) more) a =
        let h = halves file (o ∷ (ts ++ (q ∷ (es ++ c ∷ [])))) us a in
        let g = halves file ts (q ∷ (es ++ c ∷ [])) (rest_of file h.one) in
        more_dims (expression_placed file limit one g.one) (some_in (expression_placed file limit two (front_of file es (c ∷ []) (rest_of file g.two)))) (dims_placed more h.two)

    -- one name
    pub named_placed : {d i j : ℕ} {ts : Tokens} {y : Declared} → Named limit d ts y → Ascending file i j ts → DeclaredPlaced file i j (y ∷ [])
    named_placed (named n is_n dims) a = more_names (first_in file a) (dims_placed dims (rest_of file (from_first file a))) (none_in (omega arith)) (no_names (omega arith))

    record NamesPlaced (i j : ℕ) (of : TypeTree) (xs : List (TypeTree × Declared)) : Type 0 where
      names : List Declared
      all : xs ≡ map (λ d. (of, d)) names
      placed : DeclaredPlaced file i j names

    more_names_placed : {d : ℕ} {of : TypeTree} {ts : Tokens} {xs : List (TypeTree × Declared)} {i j : ℕ} → MoreOf Comma (MemberName limit d of) ts xs → Ascending file i j ts → NamesPlaced i j of xs
    more_names_placed no_item a = record { names = []; all = refl; placed = no_names (spans file a) }
    more_names_placed {of = of} (next_item {ts = ts} {us = us} s is_s (member_name (named {name = name} {xs = xs} n is_n dims)) more) a =
        let h = halves file ts us (rest_of file a) in
        let v = more_names_placed more h.two in
        record {
          names = record { at = n.at; name = name; dims = xs; start = None } ∷ v.names;
          all = ap (λ l. (of, record { at = n.at; name = name; dims = xs; start = None }) ∷ l) v.all;
          placed = more_names (first_in file h.one) (dims_placed dims (rest_of file (from_first file h.one))) (none_in (omega arith)) v.placed;
        }

    names_placed : {d i j : ℕ} {of : TypeTree} {ts : Tokens} {xs : List (TypeTree × Declared)} → ListOf Comma (MemberName limit d of) ts xs → Ascending file i j ts → NamesPlaced i j of xs
    names_placed {of = of} (listed {ts = ts} {us = us} (member_name (named {name = name} {xs = xs} n is_n dims)) more) a =
        let h = halves file ts us a in
        let v = more_names_placed more h.two in
        record {
          names = record { at = n.at; name = name; dims = xs; start = None } ∷ v.names;
          all = ap (λ l. (of, record { at = n.at; name = name; dims = xs; start = None }) ∷ l) v.all;
          placed = more_names (first_in file h.one) (dims_placed dims (rest_of file (from_first file h.one))) (none_in (omega arith)) v.placed;
        }

    plain_placed : {d i j : ℕ} {ts : Tokens} {y : TypeTree} → Plain limit d ts y → Ascending file i j ts → TypePlaced file i j (out-TypeTree y)
    plain_placed (vector {ts = ts} {us = us} v is one two) a = integral_placed (integral_in (first_in file a) (maybe_range_placed two (back_of ts us (rest_of file (from_first file a)))))
    plain_placed (atom v is one) a = integral_placed (integral_in (first_in file a) (no_range (spans file (from_first file a))))
    plain_placed (known ref) a = named_type_placed (named_in (start_in file (reference_begins ref) a) (path_in file ref (from_its_start file (reference_begins ref) a)))

    mutual
      structure_placed : {d i j : ℕ} {ts : Tokens} {y : TypeTree} → Structure limit d ts y → Ascending file i j ts → TypePlaced file i j (out-TypeTree y)
      structure_placed (structure {ts = ts} s o c is_s is_o all is_c) a = struct_placed (struct_in (first_in file a) (members_placed all (front_of file ts (c ∷ []) (rest_of file (rest_of file (from_first file a))))))

      members_placed : {d i j : ℕ} {ts : Tokens} {xs : List (TypeTree × Declared)} → Members limit d ts xs → Ascending file i j ts → MembersPlaced file i j xs
      members_placed no_member a = no_members (spans file a)
      members_placed {i = i} {j = j} (next_member {ts = all_tokens} {us = vs} {ys = ys} (member {ts = ts} {us = us} {of = of} {xs = xs} c one names is_c) more) a =
          let h = halves file all_tokens vs a in
          let g = halves file ts (us ++ c ∷ []) h.one in
          let v = names_placed names (front_of file us (c ∷ []) g.two) in
          let P : List (TypeTree × Declared) → Type 0 = λ l. MembersPlaced file i j (l ++ ys) in
          subst P (sym v.all) (more_members of v.names (member_type_placed one g.one) v.placed (members_placed more h.two))

      member_type_placed : {d i j : ℕ} {ts : Tokens} {y : TypeTree} → MemberType limit d ts y → Ascending file i j ts → TypePlaced file i j (out-TypeTree y)
      member_type_placed (flat one) a = plain_placed one a
      member_type_placed (inner one) a = structure_placed one a

    pub type_placed : {d i j : ℕ} {ts : Tokens} {y : TypeTree} → TypeIs limit d ts y → Ascending file i j ts → TypePlaced file i j (out-TypeTree y)
    type_placed (plain_type one) a = plain_placed one a
    type_placed (struct_type one) a = structure_placed one a

    range_first : {d i j : ℕ} {ts : Tokens} {r : Expr × Expr} → Range limit d ts r → Ascending file i j ts → Within file i j (start ts)
    range_first (range o q c is_o one is_q two is_c) a = first_in file a

    range_from : {d i j : ℕ} {ts : Tokens} {r : Expr × Expr} → Range limit d ts r → Ascending file i j ts → Ascending file (start ts).offset j ts
    range_from (range o q c is_o one is_q two is_c) a = from_first file a

    pub maybe_type_placed : {d i j : ℕ} {ts : Tokens} {y : TypeTree} → MaybeType limit d ts (Some y) → Ascending file i j ts → TypePlaced file i j (out-TypeTree y)
    maybe_type_placed (some_type one) a = type_placed one a
    maybe_type_placed (only_sign v is one) a = integral_placed (integral_in (first_in file a) (maybe_range_placed one (rest_of file (from_first file a))))
    maybe_type_placed (only_range one) a = integral_placed (integral_in (range_first one a) (range_placed one (range_from one a)))
