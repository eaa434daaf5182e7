-- What is read is derived by the grammar.
use Rattle.std.proofs.Common.{◌⊎◌, inl, inr, subst, ◌≡◌, ℕ, zero, suc, ◌+◌, ◌<◌, ◌≤◌, Bool, true, false, List, [], ◌∷◌, ◌++◌, length, drop, Option, Some, None, refl, sym, ap, ◌∙◌, arith, append_assoc, append-nil}
use Rattle.std.specs.Prelude.{if◌then◌else◌, ◌&&◌, nat_lt}
use Rattle.std.proofs.lemmas.Bool.{ltb-true, eqb-true}
use Rattle.nt_value.specs.declared.place.Place.{Place}
use Rattle.nt_value.specs.declared.operator.Unary.{Unary}
use Rattle.nt_value.specs.declared.operator.Binary.{Binary}
use Rattle.nt_ast.specs.declared.path.Path.{Path}
use Rattle.nt_ast.specs.declared.expr.Key.{Key}
use Rattle.nt_ast.specs.declared.expr.Expr.{Expr}
use Rattle.nt_ast.specs.declared.expr.Expr.TheVariants as expr
use Rattle.nt_lexer.specs.declared.kinds.Mark.{Mark}
use Rattle.nt_lexer.specs.declared.kinds.Mark.TheVariants as m
use Rattle.nt_lexer.specs.declared.kinds.TokenKind.{TokenKind}
use Rattle.nt_lexer.specs.declared.kinds.TokenKind.TheVariants as k
use Rattle.nt_lexer.specs.declared.kinds.Token.{Token}
use Rattle.nt_read_expr.specs.declared.front.System.{System}
use Rattle.nt_read_expr.specs.declared.front.System.TheVariants.{Time, Sign}
use Rattle.nt_read_expr.specs.Tables.{Tokens, binary_of, level, unary_of, upward, system_of, is_size, is_member, key_of, start}
use Rattle.nt_read_expr.specs.Derivation.{Reference, alone, scoped, Expression, plain, choose, Chain, single, tighter, joined, Operand, literal, left, size, size_call, bracketed, prefixed, concat, repetition, pattern_of, call, call_none, now, signed, Left, named, selected, Select, member, item, part, indexed, Several, several, Others, last, another, Entry, keyless, keyed, Items, items, OtherItems, last_item, another_item}
use Rattle.nt_read_expr.specs.declared.list.Separator.TheVariants.{Comma}
use Rattle.nt_read_expr.specs.Lists.{MoreOf, no_item, next_item, ListOf, listed}
use Rattle.nt_read_expr.specs.Reader as r
use Rattle.nt_read_expr.specs.Reader.{Readers, Read, ◌>>=◌, either, below, first, same_mark, is_kind, is_at, expect, name_kind, name_first, binary_first, kept, dotted, key_first, is_some}
use Rattle.nt_read_expr.proofs.Basics.{bind_some, some_is, if_some, if_cases, either_cases, some_of, Took, close, both, took_as}
use Rattle.nt_read_expr.proofs.Follows.{kind_is}
use Rattle.nt_read_expr.proofs.Begins.{start_append, reference_begins, left_begins, chain_begins}
use Rattle.nt_read_expr.proofs.Complete.{regroup4}
use Rattle.nt_read_expr.proofs.Lists.{comma_of, more_sound as more_items_sound, list_sound}

-- ---- the first tokens

pub record Takes (mark : Mark) (s us : Tokens) : Type 0 where
  pub token : Token
  pub is_mark : token.kind ≡ k.Mark mark
  pub is : s ≡ token ∷ us

pub front_of : (mark : Mark) (s : Tokens) → is_at mark s ≡ true → Takes mark s (drop 1 s)
unfolding is_at
front_of mark [] e = absurd cc
front_of mark (t ∷ ts) e = record { token = t; is_mark = kind_is mark t.kind e; is = refl }

pub expect_of : (mark : Mark) (s us : Tokens) → expect mark s ≡ Some us → Takes mark s us
unfolding expect
expect_of mark s us e = let a = if_some (is_at mark s) (Some (drop 1 s)) us e in subst (Takes mark s) (some_is _ _ a.1) (front_of mark s a.0)

record Infixed (h : ℕ) (op : Binary) (s : Tokens) : Type 0 where
  mark : Mark
  takes : Takes mark s (drop 1 s)
  is_op : binary_of mark ≡ Some op
  is_level : level op ≡ h

of_level_is : (h : ℕ) (o : Option Binary) (op : Binary) → r.of_level h o ≡ Some op → (o ≡ Some op) × (level op ≡ h)
of_level_is h None op e = absurd cc
of_level_is h (Some a) op e =
    let c = if_some _ (Some a) op e in
    let same : a ≡ op = some_is _ _ c.1 in
    (ap Some same, ap level (sym same) ∙ eqb-true _ _ c.0)

binary_kind_is : (h : ℕ) (x : TokenKind) (op : Binary) → r.binary_kind h x ≡ Some op → (mark : Mark) × (x ≡ k.Mark mark) × (binary_of mark ≡ Some op) × (level op ≡ h)
binary_kind_is h (k.Mark n) op e = let c = of_level_is h (binary_of n) op e in (n, refl, c.0, c.1)
binary_kind_is h (k.Word n) op e = absurd cc
binary_kind_is h (k.Name n) op e = absurd cc
binary_kind_is h (k.System n) op e = absurd cc
binary_kind_is h (k.Number n) op e = absurd cc
binary_kind_is h (k.Text n) op e = absurd cc
binary_kind_is h k.End op e = absurd cc

binary_of_first : (h : ℕ) (s : Tokens) (op : Binary) → binary_first h s ≡ Some op → Infixed h op s
unfolding binary_first
binary_of_first h [] op e = absurd cc
binary_of_first h (t ∷ ts) op e =
    let c = binary_kind_is h t.kind op e in
    record { mark = c.0; takes = record { token = t; is_mark = c.1; is = refl }; is_op = c.2; is_level = c.3 }

pub name_kind_is : (x : TokenKind) (name : List ℕ) → name_kind x ≡ Some name → x ≡ k.Name name
name_kind_is (k.Name n) name e = ap k.Name (some_is n name e)
name_kind_is (k.Mark n) name e = absurd cc
name_kind_is (k.Word n) name e = absurd cc
name_kind_is (k.System n) name e = absurd cc
name_kind_is (k.Number n) name e = absurd cc
name_kind_is (k.Text n) name e = absurd cc
name_kind_is k.End name e = absurd cc

-- a mark and a name
record Marked (mark : Mark) (name : List ℕ) (s : Tokens) : Type 0 where
  one : Token
  two : Token
  is_mark : one.kind ≡ k.Mark mark
  is_name : two.kind ≡ k.Name name
  is : s ≡ one ∷ two ∷ drop 2 s

marked_of : (mark : Mark) (name : List ℕ) (s : Tokens) → is_at mark s ≡ true → name_first (drop 1 s) ≡ Some name → Marked mark name s
unfolding is_at name_first
marked_of mark name [] e f = absurd cc
marked_of mark name (o ∷ []) e f = absurd cc
marked_of mark name (o ∷ t ∷ ts) e f = record { one = o; two = t; is_mark = kind_is mark o.kind e; is_name = name_kind_is t.kind name f; is = refl }

kept_is : (test : List ℕ → Bool) (o : Option (List ℕ)) (name : List ℕ) → kept test o ≡ Some name → (o ≡ Some name) × (test name ≡ true)
kept_is test None name e = absurd cc
kept_is test (Some other) name e =
    let c = if_some (test other) (Some other) name e in
    let same : other ≡ name = some_is _ _ c.1 in
    (ap Some same, ap test (sym same) ∙ c.0)

dotted_of : (test : List ℕ → Bool) (s : Tokens) (name : List ℕ) → dotted test s ≡ Some name → Marked m.Dot name s × (test name ≡ true)
unfolding dotted
dotted_of test s name e =
    let c = if_some (is_at m.Dot s) _ name e in
    let q = kept_is test (name_first (drop 1 s)) name c.1 in
    (marked_of m.Dot name s c.0 q.0, q.1)

record KeyFirst (key : Key) (s : Tokens) : Type 0 where
  one : Token
  two : Token
  is_key : key_of one.kind ≡ Some key
  is_mark : two.kind ≡ k.Mark m.Colon
  is : s ≡ one ∷ two ∷ drop 2 s

key_first_of : (key : Key) (s : Tokens) → key_first s ≡ Some key → KeyFirst key s
unfolding key_first is_at
key_first_of key [] e = absurd cc
key_first_of key (t ∷ []) e = absurd cc
key_first_of key (t ∷ c ∷ ts) e =
    let q = if_some (is_kind m.Colon c.kind) (key_of t.kind) key e in
    record { one = t; two = c; is_key = q.1; is_mark = kind_is m.Colon c.kind q.0; is = refl }

-- empty parentheses
record Parens (s : Tokens) : Type 0 where
  one : Token
  two : Token
  opens : one.kind ≡ k.Mark m.LeftParen
  closes : two.kind ≡ k.Mark m.RightParen
  is : s ≡ one ∷ two ∷ r.past_parens s

and_true : (a b : Bool) → (a && b) ≡ true → (a ≡ true) × (b ≡ true)
and_true true b e = (refl, e)
and_true false b e = absurd cc

parens_of : (s : Tokens) → (r.past_parens s ≡ s) ⊎ Parens s
unfolding r.past_parens is_at
parens_of [] = inl refl
parens_of (o ∷ []) = elim (if_cases (is_kind m.LeftParen o.kind && false) [] (o ∷ []) _ refl) [
  | inl c ↦ absurd (let q = and_true (is_kind m.LeftParen o.kind) false c.0 in cc)
  | inr c ↦ inl (sym c.1)
]
parens_of (o ∷ c ∷ ts) = elim (if_cases (is_kind m.LeftParen o.kind && is_kind m.RightParen c.kind) ts (o ∷ c ∷ ts) _ refl) [
  | inl g ↦
      let q = and_true (is_kind m.LeftParen o.kind) (is_kind m.RightParen c.kind) g.0 in
      inr (record { one = o; two = c; opens = kind_is m.LeftParen o.kind q.0; closes = kind_is m.RightParen c.kind q.1; is = ap (λ l. o ∷ c ∷ l) g.1 })
  | inr g ↦ inl (sym g.1)
]

-- ---- fronts of the tokens

pub reference_sound : (t : Token) (name : List ℕ) (s us : Tokens) (path : Path) → t.kind ≡ k.Name name → r.reference t.at name s ≡ Some (path, us) → Took (λ p. Reference p path) (t ∷ s) us
unfolding r.reference
reference_sound t name s us path is_t e =
    elim (if_cases (is_at m.Scope s) _ _ _ e) [
      | inl c ↦
          let n = bind_some (name_first (drop 1 s)) _ _ c.1 in
          let q = marked_of m.Scope n.0 s c.0 n.1 in
          took_as (λ x p. Reference p x) (t ∷ s) (drop 2 s) us (record { at = t.at; scope = Some name; name = n.0 }) path (some_is _ _ n.2)
          (record { front = t ∷ q.one ∷ q.two ∷ []; split = ap (λ l. t ∷ l) q.is; derives = scoped t q.one q.two is_t q.is_mark q.is_name })
      | inr c ↦
          took_as (λ x p. Reference p x) (t ∷ s) s us (record { at = t.at; scope = None; name = name }) path (some_is _ _ c.1)
          (record { front = t ∷ []; split = refl; derives = alone t is_t })
    ]

module _ (limit : ℕ) where
  -- ---- lists of the grammar

  pub others_of : {d : ℕ} {ts : Tokens} {xs : List Expr} → MoreOf Comma (Expression limit d) ts xs → Others limit d ts xs
  others_of no_item = last
  others_of (next_item t is one more) = another t (comma_of t.kind is) one (others_of more)

  pub several_of : {d : ℕ} {ts : Tokens} {xs : List Expr} → ListOf Comma (Expression limit d) ts xs → Several limit d ts xs
  several_of (listed one more) = several one (others_of more)

  other_items_of : {d : ℕ} {keys : Bool} {ts : Tokens} {xs : List (Option Key × Expr)} → MoreOf Comma (Entry limit d keys) ts xs → OtherItems limit d keys ts xs
  other_items_of no_item = last_item
  other_items_of (next_item t is one more) = another_item t (comma_of t.kind is) one (other_items_of more)

  items_of : {d : ℕ} {keys : Bool} {ts : Tokens} {xs : List (Option Key × Expr)} → ListOf Comma (Entry limit d keys) ts xs → Items limit d keys ts xs
  items_of (listed one more) = items one (other_items_of more)

  -- what reads one level deeper
  pub record Sound (rs : Readers) (D d : ℕ) : Type 0 where
    pub whole : (s us : Tokens) (x : Expr) → rs.whole s ≡ Some (x, us) → (D ≡ suc d) × Took (λ p. Expression limit d p x) s us
    pub operand : (s us : Tokens) (x : Expr) → rs.operand s ≡ Some (x, us) → (D ≡ suc d) × Took (λ p. Operand limit d p x) s us

  module _ (rs : Readers) (D d : ℕ) (S : Sound rs D d) where
    -- ---- lists

    pub others_sound : (f : ℕ) (found : List Expr) (s us : Tokens) (xs : List Expr) → r.more_of Comma rs.whole f found s ≡ Some (xs, us)
        → (ys : List Expr) × (xs ≡ found ++ ys) × Took (λ p. Others limit d p ys) s us
    others_sound f found s us xs e =
        let i = more_items_sound Comma rs.whole (Expression limit d) (λ s us x e. (S.whole s us x e).1) f found s us xs e in
        (i.items, i.all, record { front = i.took.front; split = i.took.split; derives = others_of i.took.derives })

    pub several_sound : (s us : Tokens) (xs : List Expr) → r.several limit rs s ≡ Some (xs, us) → (D ≡ suc d) × Took (λ p. Several limit d p xs) s us
    unfolding r.list_of
    several_sound s us xs e =
        let a = bind_some (rs.whole s) _ _ e in
        let i = list_sound Comma rs.whole (Expression limit d) (λ s us x e. (S.whole s us x e).1) s us xs e in
        ((S.whole s a.0.1 a.0.0 a.1).0, record { front = i.front; split = i.split; derives = several_of i.derives })

    entry_sound : (keys : Bool) (s us : Tokens) (x : Option Key × Expr) → r.entry limit rs keys s ≡ Some (x, us) → (D ≡ suc d) × Took (λ p. Entry limit d keys p x) s us
    unfolding r.entry
    entry_sound false s us x e =
        let a = bind_some (rs.whole s) _ _ e in
        let w = S.whole s a.0.1 a.0.0 a.1 in
        (w.0, took_as (λ y p. Entry limit d false p y) s a.0.1 us (None, a.0.0) x (some_is _ _ a.2) (record { front = w.1.front; split = w.1.split; derives = keyless w.1.derives }))
    entry_sound true s us x e =
        let n = bind_some (key_first s) _ _ e in
        let q = key_first_of n.0 s n.1 in
        let a = bind_some (rs.whole (drop 2 s)) _ _ n.2 in
        let w = S.whole (drop 2 s) a.0.1 a.0.0 a.1 in (
          w.0,
          took_as (λ y p. Entry limit d true p y) s a.0.1 us (Some n.0, a.0.0) x (some_is _ _ a.2)
              (record { front = q.one ∷ q.two ∷ w.1.front; split = q.is ∙ ap (λ l. q.one ∷ q.two ∷ l) w.1.split; derives = keyed n.0 q.one q.two q.is_key q.is_mark w.1.derives }),
        )

    items_sound : (keys : Bool) (s us : Tokens) (xs : List (Option Key × Expr)) → r.items limit rs keys s ≡ Some (xs, us) → (D ≡ suc d) × Took (λ p. Items limit d keys p xs) s us
    unfolding r.list_of
    items_sound keys s us xs e =
        let a = bind_some (r.entry limit rs keys s) _ _ e in
        let i = list_sound Comma (r.entry limit rs keys) (Entry limit d keys) (λ s us x e. (entry_sound keys s us x e).1) s us xs e in
        ((entry_sound keys s a.0.1 a.0.0 a.1).0, record { front = i.front; split = i.split; derives = items_of i.derives })

    -- ---- selects

    record Closed (tree : Expr → Expr) (t us : Tokens) (z : Expr) : Type 0 where
      inner : Expr
      front : Tokens
      end : Token
      is_end : end.kind ≡ k.Mark m.RightBracket
      split : t ≡ front ++ end ∷ us
      derives : Expression limit d front inner
      same : tree inner ≡ z

    closing_sound : (tree : Expr → Expr) (t us : Tokens) (z : Expr) → r.closing limit rs tree t ≡ Some (z, us) → Closed tree t us z
    unfolding r.closing
    closing_sound tree t us z e =
        let a = bind_some (rs.whole t) _ _ e in
        let w = S.whole t a.0.1 a.0.0 a.1 in
        let b = bind_some (expect m.RightBracket a.0.1) _ _ a.2 in
        let p : (tree a.0.0, b.0) ≡ (z, us) = some_is _ _ b.2 in
        let q = expect_of m.RightBracket a.0.1 b.0 b.1 in
        record {
          inner = a.0.0;
          front = w.1.front;
          end = q.token;
          is_end = q.is_mark;
          split = w.1.split ∙ ap (λ l. w.1.front ++ l) (q.is ∙ ap (λ v. q.token ∷ v.1) p);
          derives = w.1.derives;
          same = ap (λ v. v.0) p;
        }

    select_deeper : {free : Bool} {at : Place} {x y : Expr} {s us : Tokens} → D ≡ suc d → Took (λ p. Select limit (suc d) free at x p y) s us → Took (λ p. Select limit D free at x p y) s us
    select_deeper {free = free} {at = at} {x = x} {y = y} {s = s} {us = us} is w = subst (λ D'. Took (λ p. Select limit D' free at x p y) s us) (sym is) w

    four : (o c n : Token) (a b s t us : Tokens) → s ≡ a ++ c ∷ t → t ≡ b ++ n ∷ us → o ∷ s ≡ ((o ∷ a ++ c ∷ b) ++ n ∷ []) ++ us
    four o c n a b s t us e f = ap (λ l. o ∷ l) (e ∙ ap (λ l. a ++ c ∷ l) f ∙ sym (regroup4 a (c ∷ b) (n ∷ []) us))

    direction_sound : (free : Bool) (o c : Token) (mark : Mark) (up : Option Bool) (at : Place) (x y : Expr) (s t us : Tokens) (z : Expr) → o.kind ≡ k.Mark m.LeftBracket → D ≡ suc d
        → (w : Took (λ p. Expression limit d p y) s (c ∷ t)) → c.kind ≡ k.Mark mark → upward mark ≡ up → r.direction limit rs at x y up t ≡ Some (z, us)
        → Took (λ p. Select limit D free at x p z) (o ∷ s) us
    unfolding r.direction
    direction_sound free o c mark None at x y s t us z is_o is w is_c is_up e = absurd cc
    direction_sound free o c mark (Some up) at x y s t us z is_o is w is_c is_up e =
        let q = closing_sound (λ v. expr.Indexed at x y v up) t us z e in
        select_deeper is (record {
          front = (o ∷ w.front ++ c ∷ q.front) ++ q.end ∷ [];
          split = four o c q.end w.front q.front s t us w.split q.split;
          derives = subst (λ v. Select limit (suc d) free at x ((o ∷ w.front ++ c ∷ q.front) ++ q.end ∷ []) v) q.same (indexed mark up o c q.end is_o w.derives is_c is_up q.derives q.is_end);
        })

    index_by_sound : (free : Bool) (o c : Token) (kind : TokenKind) (at : Place) (x y : Expr) (s t us : Tokens) (z : Expr) → o.kind ≡ k.Mark m.LeftBracket → D ≡ suc d
        → (w : Took (λ p. Expression limit d p y) s (c ∷ t)) → c.kind ≡ kind → r.index_by limit rs kind at x y t ≡ Some (z, us) → Took (λ p. Select limit D free at x p z) (o ∷ s) us
    index_by_sound free o c (k.Mark m.RightBracket) at x y s t us z is_o is w is_c e =
        select_deeper is (took_as (λ v p. Select limit (suc d) free at x p v) (o ∷ s) t us (expr.Item at x y) z (some_is _ _ e)
        (record { front = o ∷ w.front ++ c ∷ []; split = ap (λ l. o ∷ l) (close w.front s (c ∷ t) t c w.split refl); derives = item o c is_o w.derives is_c }))
    index_by_sound free o c (k.Mark m.Colon) at x y s t us z is_o is w is_c e =
        let q = closing_sound (λ v. expr.Part at x y v) t us z e in
        select_deeper is (record {
          front = (o ∷ w.front ++ c ∷ q.front) ++ q.end ∷ [];
          split = four o c q.end w.front q.front s t us w.split q.split;
          derives = subst (λ v. Select limit (suc d) free at x ((o ∷ w.front ++ c ∷ q.front) ++ q.end ∷ []) v) q.same (part o c q.end is_o w.derives is_c q.derives q.is_end);
        })
    index_by_sound free o c (k.Mark mark) at x y s t us z is_o is w is_c e = direction_sound free o c mark (upward mark) at x y s t us z is_o is w is_c refl e
    index_by_sound free o c (k.Word n) at x y s t us z is_o is w is_c e = absurd cc
    index_by_sound free o c (k.Name n) at x y s t us z is_o is w is_c e = absurd cc
    index_by_sound free o c (k.System n) at x y s t us z is_o is w is_c e = absurd cc
    index_by_sound free o c (k.Number n) at x y s t us z is_o is w is_c e = absurd cc
    index_by_sound free o c (k.Text n) at x y s t us z is_o is w is_c e = absurd cc
    index_by_sound free o c k.End at x y s t us z is_o is w is_c e = absurd cc

    index_after : (free : Bool) (o : Token) (at : Place) (x y : Expr) (s t us : Tokens) (z : Expr) → o.kind ≡ k.Mark m.LeftBracket → D ≡ suc d
        → Took (λ p. Expression limit d p y) s t → r.index_by limit rs (first t) at x y (drop 1 t) ≡ Some (z, us) → Took (λ p. Select limit D free at x p z) (o ∷ s) us
    index_after free o at x y s [] us z is_o is w e = absurd cc
    index_after free o at x y s (c ∷ t) us z is_o is w e = index_by_sound free o c c.kind at x y s t us z is_o is w refl e

    index_sound : (free : Bool) (o : Token) (at : Place) (x : Expr) (s us : Tokens) (z : Expr) → o.kind ≡ k.Mark m.LeftBracket → r.index limit rs at x s ≡ Some (z, us)
        → Took (λ p. Select limit D free at x p z) (o ∷ s) us
    unfolding r.index
    index_sound free o at x s us z is_o e =
        let a = bind_some (rs.whole s) _ _ e in
        let w = S.whole s a.0.1 a.0.0 a.1 in
        index_after free o at x a.0.0 s a.0.1 us z is_o w.0 w.1 a.2

    pub record Longer (free : Bool) (ts : Tokens) (s us : Tokens) (y : Expr) : Type 0 where
      pub count : ℕ
      pub few : count ≤ limit
      pub front : Tokens
      pub split : s ≡ front ++ us
      pub derives : Left limit D free count (ts ++ front) y

    longer_by : (free : Bool) (ts s t us : Tokens) (x y z : Expr) (w : Took (λ p. Select limit D free (start ts) x p z) s t) → Longer free (ts ++ w.front) t us y → Longer free ts s us y
    longer_by free ts s t us x y z w i = record {
      count = i.count;
      few = i.few;
      front = w.front ++ i.front;
      split = both w.front i.front s t us w.split i.split;
      derives = subst (λ v. Left limit D free i.count v y) (append_assoc ts w.front i.front) i.derives;
    }

    pub selects_sound : (free : Bool) (f n : ℕ) (ts : Tokens) (x : Expr) (s us : Tokens) (y : Expr) → Left limit D free n ts x → n + f ≤ suc limit
        → r.selects limit rs free f (start ts) x s ≡ Some (y, us) → Longer free ts s us y
    unfolding r.selects
    selects_sound free zero n ts x s us y l le e = absurd cc
    selects_sound free (suc f) n ts x s us y l le e =
        elim (if_cases (is_at m.LeftBracket s) _ _ _ e) [
          | inl c ↦
              let o = front_of m.LeftBracket s c.0 in
              let a = bind_some (r.index limit rs (start ts) x (drop 1 s)) _ _ c.1 in
              let w = subst (λ v. Took (λ p. Select limit D free (start ts) x p a.0.0) v a.0.1) (sym o.is) (index_sound free o.token (start ts) x (drop 1 s) a.0.1 a.0.0 o.is_mark a.1) in
              let starts : start (ts ++ w.front) ≡ start ts = start_append (left_begins limit l) w.front in
              longer_by free ts s a.0.1 us x y a.0.0 w
              (selects_sound free f (suc n) (ts ++ w.front) a.0.0 a.0.1 us y (selected l w.derives) (omega arith) (ap (λ at. r.selects limit rs free f at a.0.0 a.0.1) starts ∙ a.2))
          | inr c ↦
              elim (either_cases (dotted (is_member free) s) _ _ _ c.1) [
                | inl g ↦
                    let p : (x, s) ≡ (y, us) = some_is _ _ g.1 in
                    record {
                      count = n;
                      few = omega arith;
                      front = [];
                      split = ap (λ q. q.1) p;
                      derives = subst (λ v. Left limit D free n (ts ++ []) v) (ap (λ q. q.0) p) (subst (λ v. Left limit D free n v x) (sym (append-nil ts)) l);
                    }
                | inr g ↦
                    let q = dotted_of (is_member free) s g.0 g.1 in
                    let z : Expr = expr.Member (start ts) x (start (drop 1 s)) g.0 in
                    let at_two : start (drop 1 s) ≡ q.0.two.at = ap (λ v. start (drop 1 v)) q.0.is in
                    let w : Took (λ p. Select limit D free (start ts) x p z) s (drop 2 s) =
                    record { front = q.0.one ∷ q.0.two ∷ []; split = q.0.is; derives = subst (λ p. Select limit D free (start ts) x (q.0.one ∷ q.0.two ∷ []) (expr.Member (start ts) x p g.0)) (sym at_two) (member q.0.one q.0.two q.0.is_mark q.0.is_name q.1) } in
                    let starts : start (ts ++ w.front) ≡ start ts = start_append (left_begins limit l) w.front in
                    longer_by free ts s (drop 2 s) us x y z w
                    (selects_sound free f (suc n) (ts ++ w.front) z (drop 2 s) us y (selected l w.derives) (omega arith) (ap (λ at. r.selects limit rs free f at z (drop 2 s)) starts ∙ g.2))
              ]
        ]

    -- ---- operands

    deeper : {s us : Tokens} {y : Expr} → D ≡ suc d → Took (λ p. Operand limit (suc d) p y) s us → Took (λ p. Operand limit D p y) s us
    deeper {s = s} {us = us} {y = y} is w = subst (λ D'. Took (λ p. Operand limit D' p y) s us) (sym is) w

    -- what goes on with a front of an operand
    record Goes (ts s us : Tokens) (y : Expr) : Type 0 where
      front : Tokens
      split : s ≡ front ++ us
      derives : Operand limit D (ts ++ front) y

    goes_deeper : {ts s us : Tokens} {y : Expr} (front : Tokens) → D ≡ suc d → s ≡ front ++ us → Operand limit (suc d) (ts ++ front) y → Goes ts s us y
    goes_deeper {ts = ts} {y = y} front is e o = record { front = front; split = e; derives = subst (λ D'. Operand limit D' (ts ++ front) y) (sym is) o }

    goes_as : {ts s t us : Tokens} {x y : Expr} → (let a : Expr × Tokens = (x, t) in let b : Expr × Tokens = (y, us) in a ≡ b) → Goes ts s t x → Goes ts s us y
    goes_as {ts = ts} {s = s} e w = subst (λ (q : Expr × Tokens). Goes ts s q.1 q.0) e w

    sized_sound : (n : ℕ) (ts : Tokens) (x : Expr) (s us : Tokens) (y : Expr) → Left limit D false n ts x → n ≤ limit → r.sized (start ts) x s ≡ Some (y, us) → Goes ts s us y
    unfolding r.sized
    sized_sound n ts x s us y l le e =
        elim (if_cases (is_some (dotted is_size s)) _ _ _ e) [
          | inr g ↦
              goes_as (some_is _ _ g.1) (record { front = []; split = refl; derives = subst (λ v. Operand limit D v x) (sym (append-nil ts)) (left l le) })
          | inl g ↦
              let n = some_of (dotted is_size s) g.0 in
              let q = dotted_of is_size s n.0 n.1 in
              elim (parens_of (drop 2 s)) [
                | inl none ↦
                    let z : Expr = expr.Size (start ts) x in
                    goes_as (ap (λ v. (z, v)) (sym none) ∙ some_is _ _ g.1)
                    (record { front = q.0.one ∷ q.0.two ∷ []; split = q.0.is; derives = size q.0.one q.0.two l le q.0.is_mark q.0.is_name q.1 })
                | inr w ↦
                    goes_as (some_is _ _ g.1)
                    (record {
                      front = q.0.one ∷ q.0.two ∷ w.one ∷ w.two ∷ [];
                      split = q.0.is ∙ ap (λ v. q.0.one ∷ q.0.two ∷ v) w.is;
                      derives = size_call q.0.one q.0.two w.one w.two l le q.0.is_mark q.0.is_name q.1 w.opens w.closes;
                    })
              ]
        ]

    left_sound : (ps : Tokens) (path : Path) (s us : Tokens) (y : Expr) → Reference ps path → r.left limit rs (start ps) path s ≡ Some (y, us) → Goes ps s us y
    unfolding r.left
    left_sound ps path s us y ref e =
        let a = bind_some (r.selects limit rs false (suc limit) (start ps) (expr.Read (start ps) path) s) _ _ e in
        let l = selects_sound false (suc limit) 0 ps (expr.Read (start ps) path) s a.0.1 a.0.0 (named ref) (omega arith) a.1 in
        let starts : start (ps ++ l.front) ≡ start ps = start_append (reference_begins ref) l.front in
        let g = sized_sound l.count (ps ++ l.front) a.0.0 a.0.1 us y l.derives l.few (ap (λ at. r.sized at a.0.0 a.0.1) starts ∙ a.2) in
        record {
          front = l.front ++ g.front;
          split = both l.front g.front s a.0.1 us l.split g.split;
          derives = subst (λ v. Operand limit D v y) (append_assoc ps l.front g.front) g.derives;
        }

    call_sound : (ps : Tokens) (path : Path) (o : Token) (s us : Tokens) (y : Expr) → Reference ps path → o.kind ≡ k.Mark m.LeftParen → r.call limit rs (start ps) path s ≡ Some (y, us)
        → Goes ps (o ∷ s) us y
    unfolding r.call
    call_sound ps path o s us y ref is_o e =
        elim (if_cases (is_at m.RightParen s) _ _ _ e) [
          | inl g ↦
              let q = front_of m.RightParen s g.0 in
              goes_as (some_is _ _ g.1) (record { front = o ∷ q.token ∷ []; split = ap (λ l. o ∷ l) q.is; derives = call_none o q.token ref is_o q.is_mark })
          | inr g ↦
              let a = bind_some (r.several limit rs s) _ _ g.1 in
              let w = several_sound s a.0.1 a.0.0 a.1 in
              let b = bind_some (expect m.RightParen a.0.1) _ _ a.2 in
              let q = expect_of m.RightParen a.0.1 b.0 b.1 in
              let z : Expr = expr.Call (start ps) path a.0.0 in
              goes_as (some_is _ _ b.2)
              (goes_deeper (o ∷ (w.1.front ++ q.token ∷ [])) w.0 (ap (λ l. o ∷ l) (close w.1.front s a.0.1 b.0 q.token w.1.split q.is))
              (subst (λ v. Operand limit (suc d) v z) (append_assoc ps (o ∷ w.1.front) (q.token ∷ [])) (call o q.token ref is_o w.1.derives q.is_mark)))
        ]

    named_sound : (t : Token) (name : List ℕ) (s us : Tokens) (y : Expr) → t.kind ≡ k.Name name → r.named limit rs t.at name s ≡ Some (y, us) → Took (λ p. Operand limit D p y) (t ∷ s) us
    unfolding r.named
    named_sound t name s us y is_t e =
        let a = bind_some (r.reference t.at name s) _ _ e in
        let v : Tokens = a.0.1 in
        let w = reference_sound t name s v a.0.0 is_t a.1 in
        let starts : t.at ≡ start w.front = ap start w.split ∙ start_append (reference_begins w.derives) v in
        let joins : Goes w.front v us y → Took (λ p. Operand limit D p y) (t ∷ s) us =
        λ g. record { front = w.front ++ g.front; split = both w.front g.front (t ∷ s) v us w.split g.split; derives = g.derives } in
        elim (if_cases (is_at m.LeftParen v) _ _ _ a.2) [
          | inl c ↦
              let o = front_of m.LeftParen v c.0 in
              joins (subst (λ l. Goes w.front l us y) (sym o.is) (call_sound w.front a.0.0 o.token (drop 1 v) us y w.derives o.is_mark (ap (λ at. r.call limit rs at a.0.0 (drop 1 v)) (sym starts) ∙ c.1)))
          | inr c ↦ joins (left_sound w.front a.0.0 v us y w.derives (ap (λ at. r.left limit rs at a.0.0 v) (sym starts) ∙ c.1))
        ]

    bracketed_sound : (o : Token) (s us : Tokens) (y : Expr) → o.kind ≡ k.Mark m.LeftParen → r.bracketed limit rs s ≡ Some (y, us) → Took (λ p. Operand limit D p y) (o ∷ s) us
    unfolding r.bracketed
    bracketed_sound o s us y is_o e =
        let a = bind_some (rs.whole s) _ _ e in
        let w = S.whole s a.0.1 a.0.0 a.1 in
        let b = bind_some (expect m.RightParen a.0.1) _ _ a.2 in
        let q = expect_of m.RightParen a.0.1 b.0 b.1 in
        deeper w.0 (took_as (λ x p. Operand limit (suc d) p x) (o ∷ s) b.0 us a.0.0 y (some_is _ _ b.2)
        (record {
          front = o ∷ w.1.front ++ q.token ∷ [];
          split = ap (λ l. o ∷ l) (close w.1.front s a.0.1 b.0 q.token w.1.split q.is);
          derives = bracketed o q.token is_o w.1.derives q.is_mark;
        }))

    repetition_sound : (o p : Token) (x : Expr) (s t us : Tokens) (y : Expr) → o.kind ≡ k.Mark m.LeftBrace → D ≡ suc d → Took (λ f. Expression limit d f x) s (p ∷ t) → p.kind ≡ k.Mark m.LeftBrace
        → r.repetition limit rs o.at x t ≡ Some (y, us) → Took (λ f. Operand limit D f y) (o ∷ s) us
    unfolding r.repetition
    repetition_sound o p x s t us y is_o is w is_p e =
        let a = bind_some (r.several limit rs t) _ _ e in
        let v = several_sound t a.0.1 a.0.0 a.1 in
        let b = bind_some (expect m.RightBrace a.0.1) _ _ a.2 in
        let q = expect_of m.RightBrace a.0.1 b.0 b.1 in
        let c = bind_some (expect m.RightBrace b.0) _ _ b.2 in
        let z = expect_of m.RightBrace b.0 c.0 c.1 in
        deeper is (took_as (λ g f. Operand limit (suc d) f g) (o ∷ s) c.0 us (expr.Repeat o.at x a.0.0) y (some_is _ _ c.2)
        (record {
          front = (o ∷ w.front ++ p ∷ v.1.front) ++ q.token ∷ z.token ∷ [];
          split = ap (λ l. o ∷ l) (w.split ∙ ap (λ l. w.front ++ p ∷ l) (v.1.split ∙ ap (λ l. v.1.front ++ l) (q.is ∙ ap (λ l. q.token ∷ l) z.is)) ∙ sym (regroup4 w.front (p ∷ v.1.front) (q.token ∷ z.token ∷ []) c.0));
          derives = repetition o p q.token z.token is_o w.derives is_p v.1.derives q.is_mark z.is_mark;
        }))

    concat_sound : (o : Token) (x : Expr) (s t us : Tokens) (y : Expr) → o.kind ≡ k.Mark m.LeftBrace → D ≡ suc d → Took (λ f. Expression limit d f x) s t
        → r.concat limit rs o.at x t ≡ Some (y, us) → Took (λ f. Operand limit D f y) (o ∷ s) us
    unfolding r.concat
    concat_sound o x s t us y is_o is w e =
        let a = bind_some (r.more_of Comma rs.whole (length t + 1) (x ∷ []) t) _ _ e in
        let v = others_sound (length t + 1) (x ∷ []) t a.0.1 a.0.0 a.1 in
        let b = bind_some (expect m.RightBrace a.0.1) _ _ a.2 in
        let q = expect_of m.RightBrace a.0.1 b.0 b.1 in
        let all : Several limit d (w.front ++ v.2.front) a.0.0 = subst (λ l. Several limit d (w.front ++ v.2.front) l) (sym v.1) (several w.derives v.2.derives) in
        deeper is (took_as (λ g f. Operand limit (suc d) f g) (o ∷ s) b.0 us (expr.Concat o.at a.0.0) y (some_is _ _ b.2)
        (record {
          front = o ∷ (w.front ++ v.2.front) ++ q.token ∷ [];
          split = ap (λ l. o ∷ l) (close (w.front ++ v.2.front) s a.0.1 b.0 q.token (both w.front v.2.front s t a.0.1 w.split v.2.split) q.is);
          derives = concat o q.token is_o all q.is_mark;
        }))

    braced_sound : (o : Token) (s us : Tokens) (y : Expr) → o.kind ≡ k.Mark m.LeftBrace → r.braced limit rs o.at s ≡ Some (y, us) → Took (λ p. Operand limit D p y) (o ∷ s) us
    unfolding r.braced
    braced_sound o s us y is_o e =
        let a = bind_some (rs.whole s) _ _ e in
        let t : Tokens = a.0.1 in
        let w = S.whole s t a.0.0 a.1 in
        elim (if_cases (is_at m.LeftBrace t) _ _ _ a.2) [
          | inl c ↦
              let p = front_of m.LeftBrace t c.0 in
              repetition_sound o p.token a.0.0 s (drop 1 t) us y is_o w.0 (subst (λ l. Took (λ f. Expression limit d f a.0.0) s l) p.is w.1) p.is_mark c.1
          | inr c ↦ concat_sound o a.0.0 s t us y is_o w.0 w.1 c.1
        ]

    pattern_sound : (o : Token) (s us : Tokens) (y : Expr) → o.kind ≡ k.Mark m.TickBrace → r.pattern_of limit rs o.at s ≡ Some (y, us) → Took (λ p. Operand limit D p y) (o ∷ s) us
    unfolding r.pattern_of
    pattern_sound o s us y is_o e =
        let keys : Bool = is_some (key_first s) in
        let a = bind_some (r.items limit rs keys s) _ _ e in
        let w = items_sound keys s a.0.1 a.0.0 a.1 in
        let b = bind_some (expect m.RightBrace a.0.1) _ _ a.2 in
        let q = expect_of m.RightBrace a.0.1 b.0 b.1 in
        deeper w.0 (took_as (λ x p. Operand limit (suc d) p x) (o ∷ s) b.0 us (expr.Pattern o.at a.0.0) y (some_is _ _ b.2)
        (record {
          front = o ∷ w.1.front ++ q.token ∷ [];
          split = ap (λ l. o ∷ l) (close w.1.front s a.0.1 b.0 q.token w.1.split q.is);
          derives = pattern_of o q.token is_o w.1.derives q.is_mark;
        }))

    prefixed_sound : (t : Token) (mark : Mark) (o : Option Unary) (s us : Tokens) (y : Expr) → t.kind ≡ k.Mark mark → unary_of mark ≡ o → r.prefixed limit rs t.at o s ≡ Some (y, us)
        → Took (λ p. Operand limit D p y) (t ∷ s) us
    unfolding r.prefixed
    prefixed_sound t mark None s us y is_t is_o e = absurd cc
    prefixed_sound t mark (Some op) s us y is_t is_o e =
        let a = bind_some (rs.operand s) _ _ e in
        let w = S.operand s a.0.1 a.0.0 a.1 in
        deeper w.0 (took_as (λ x p. Operand limit (suc d) p x) (t ∷ s) a.0.1 us (expr.Unary t.at op a.0.0) y (some_is _ _ a.2)
        (record { front = t ∷ w.1.front; split = ap (λ l. t ∷ l) w.1.split; derives = prefixed mark op t is_t is_o w.1.derives }))

    system_sound : (t : Token) (name : List ℕ) (o : Option System) (s us : Tokens) (y : Expr) → t.kind ≡ k.System name → system_of name ≡ o → r.system limit rs t.at o s ≡ Some (y, us)
        → Took (λ p. Operand limit D p y) (t ∷ s) us
    unfolding r.system
    system_sound t name None s us y is_t is_o e = absurd cc
    system_sound t name (Some Time) s us y is_t is_o e =
        took_as (λ x p. Operand limit D p x) (t ∷ s) s us (expr.Time t.at) y (some_is _ _ e) (record { front = t ∷ []; split = refl; derives = now t is_t is_o })
    system_sound t name (Some (Sign to)) s us y is_t is_o e =
        let a = bind_some (expect m.LeftParen s) _ _ e in
        let o = expect_of m.LeftParen s a.0 a.1 in
        let b = bind_some (rs.whole a.0) _ _ a.2 in
        let w = S.whole a.0 b.0.1 b.0.0 b.1 in
        let c = bind_some (expect m.RightParen b.0.1) _ _ b.2 in
        let q = expect_of m.RightParen b.0.1 c.0 c.1 in
        deeper w.0 (took_as (λ x p. Operand limit (suc d) p x) (t ∷ s) c.0 us (expr.Sign t.at to b.0.0) y (some_is _ _ c.2)
        (record {
          front = t ∷ o.token ∷ w.1.front ++ q.token ∷ [];
          split = ap (λ l. t ∷ l) (o.is ∙ ap (λ l. o.token ∷ l) (close w.1.front a.0 b.0.1 c.0 q.token w.1.split q.is));
          derives = signed to t o.token q.token is_t is_o o.is_mark w.1.derives q.is_mark;
        }))

    by_kind_sound : (t : Token) (x : TokenKind) (s us : Tokens) (y : Expr) → t.kind ≡ x → r.operand_by limit rs x t.at s ≡ Some (y, us) → Took (λ p. Operand limit D p y) (t ∷ s) us
    by_kind_sound t (k.Number v) s us y is e =
        took_as (λ x p. Operand limit D p x) (t ∷ s) s us (expr.Literal t.at v) y (some_is _ _ e) (record { front = t ∷ []; split = refl; derives = literal t is })
    by_kind_sound t (k.Name name) s us y is e = named_sound t name s us y is e
    by_kind_sound t (k.System name) s us y is e = system_sound t name (system_of name) s us y is refl e
    by_kind_sound t (k.Mark m.LeftParen) s us y is e = bracketed_sound t s us y is e
    by_kind_sound t (k.Mark m.LeftBrace) s us y is e = braced_sound t s us y is e
    by_kind_sound t (k.Mark m.TickBrace) s us y is e = pattern_sound t s us y is e
    by_kind_sound t (k.Mark mark) s us y is e = prefixed_sound t mark (unary_of mark) s us y is refl e
    by_kind_sound t (k.Word n) s us y is e = absurd cc
    by_kind_sound t (k.Text n) s us y is e = absurd cc
    by_kind_sound t k.End s us y is e = absurd cc

    pub operand_sound : (s us : Tokens) (x : Expr) → r.operand limit rs s ≡ Some (x, us) → Took (λ p. Operand limit D p x) s us
    unfolding r.operand
    operand_sound [] us x e = absurd cc
    operand_sound (t ∷ s) us x e = by_kind_sound t t.kind s us x refl e

    -- ---- chains

    record Joined (h : ℕ) (ts s us : Tokens) (y : Expr) (count : ℕ) : Type 0 where
      front : Tokens
      split : s ≡ front ++ us
      derives : Chain limit D (suc h) count (ts ++ front) y
      few : count ≤ limit

    more_sound : (next : Tokens → r.Part) (h f n : ℕ) (ts : Tokens) (x : Expr) (s us : Tokens) (y : Expr) (count : ℕ)
        → ((s us : Tokens) (x : Expr) (n : ℕ) → next s ≡ Some (x, n, us) → Took (λ p. Chain limit D h n p x × (n ≤ limit)) s us)
        → Chain limit D (suc h) n ts x → n ≤ limit → r.more limit rs next (suc h) f (start ts) x n s ≡ Some (y, count, us) → Joined h ts s us y count
    unfolding r.more
    more_sound next h zero n ts x s us y count N c le e = absurd cc
    more_sound next h (suc f) n ts x s us y count N c le e =
        elim (either_cases (binary_first (suc h) s) _ _ _ e) [
          | inl g ↦
              let p : (x, n, s) ≡ (y, count, us) = some_is _ _ g.1 in
              record {
                front = [];
                split = ap (λ q. q.2) p;
                derives = subst (λ (q : Expr × ℕ). Chain limit D (suc h) q.1 (ts ++ []) q.0) (ap (λ q. (q.0, q.1)) p) (subst (λ v. Chain limit D (suc h) n v x) (sym (append-nil ts)) c);
                few = subst (λ v. v ≤ limit) (ap (λ q. q.1) p) le;
              }
          | inr g ↦
              let i = binary_of_first (suc h) s g.0 g.1 in
              let t = i.takes.token in
              let a = bind_some (next (drop 1 s)) _ _ g.2 in
              let w = N (drop 1 s) a.0.2 a.0.0 a.0.1 a.1 in
              let c' : Chain limit D (suc h) (n + a.0.1 + 1) (ts ++ t ∷ w.front) (expr.Binary (start ts) g.0 x a.0.0) = joined i.mark g.0 t c i.takes.is_mark i.is_op i.is_level w.derives.0 in
              let few = if_some (nat_lt (n + a.0.1) limit) _ _ a.2 in
              let lt : n + a.0.1 < limit = ltb-true _ _ few.0 in
              let starts : start (ts ++ t ∷ w.front) ≡ start ts = start_append (chain_begins limit c) (t ∷ w.front) in
              let rec = more_sound next h f (n + a.0.1 + 1) (ts ++ t ∷ w.front) (expr.Binary (start ts) g.0 x a.0.0) a.0.2 us y count N c' (omega arith)
              (ap (λ at. r.more limit rs next (suc h) f at (expr.Binary (start ts) g.0 x a.0.0) (n + a.0.1 + 1) a.0.2) starts ∙ few.1) in
              record {
                front = t ∷ w.front ++ rec.front;
                split = i.takes.is ∙ ap (λ v. t ∷ v) (w.split ∙ ap (λ v. w.front ++ v) rec.split ∙ sym (append_assoc w.front rec.front us));
                derives = subst (λ v. Chain limit D (suc h) count v y) (append_assoc ts (t ∷ w.front) rec.front) rec.derives;
                few = rec.few;
              }
        ]

    chain_sound : (h : ℕ) (s us : Tokens) (x : Expr) (n : ℕ) → r.chain limit rs h s ≡ Some (x, n, us) → Took (λ p. Chain limit D h n p x × (n ≤ limit)) s us
    unfolding r.chain
    chain_sound zero s us x n e =
        let a = bind_some (r.operand limit rs s) _ _ e in
        let w = operand_sound s a.0.1 a.0.0 a.1 in
        let p : (a.0.0, 0, a.0.1) ≡ (x, n, us) = some_is _ _ a.2 in
        subst (λ (q : Expr × ℕ × Tokens). Took (λ v. Chain limit D 0 q.1 v q.0 × (q.1 ≤ limit)) s q.2) p (record { front = w.front; split = w.split; derives = (single w.derives, omega arith) })
    chain_sound (suc h) s us x n e =
        let a = bind_some (r.chain limit rs h s) _ _ e in
        let w = chain_sound h s a.0.2 a.0.0 a.0.1 a.1 in
        let starts : start s ≡ start w.front = ap start w.split ∙ start_append (chain_begins limit w.derives.0) a.0.2 in
        let j = more_sound (r.chain limit rs h) h (suc limit) a.0.1 w.front a.0.0 a.0.2 us x n (chain_sound h) (tighter w.derives.0) w.derives.1
        (ap (λ at. r.more limit rs (r.chain limit rs h) (suc h) (suc limit) at a.0.0 a.0.1 a.0.2) (sym starts) ∙ a.2) in
        record { front = w.front ++ j.front; split = w.split ∙ ap (λ v. w.front ++ v) j.split ∙ sym (append_assoc w.front j.front us); derives = (j.derives, j.few) }

    record Chosen (ts : Tokens) (q : Token) (s us : Tokens) (y : Expr) : Type 0 where
      front : Tokens
      split : s ≡ front ++ us
      derives : Expression limit D (ts ++ q ∷ front) y

    choose_at : {n : ℕ} {ts us vs : Tokens} {x y z : Expr} (q c : Token) → D ≡ suc d → Chain limit D 10 n ts x → n ≤ limit → q.kind ≡ k.Mark m.Question → Expression limit d us y
        → c.kind ≡ k.Mark m.Colon → Expression limit d vs z → Expression limit D (ts ++ q ∷ us ++ c ∷ vs) (expr.Choose (start ts) x y z)
    choose_at {n = n} {ts = ts} {us = us} {vs = vs} {x = x} {y = y} {z = z} q c is t le eq yes' ec no' =
        subst (λ D'. Expression limit D' (ts ++ q ∷ us ++ c ∷ vs) (expr.Choose (start ts) x y z)) (sym is) (choose q c (subst (λ D'. Chain limit D' 10 n ts x) is t) le eq yes' ec no')

    choose_sound : (q : Token) (n : ℕ) (ts s us : Tokens) (x y : Expr) → Chain limit D 10 n ts x → n ≤ limit → q.kind ≡ k.Mark m.Question
        → r.choose limit rs (start ts) x s ≡ Some (y, us) → Chosen ts q s us y
    unfolding r.choose
    choose_sound q n ts s us x y test few is_q e =
        let b = bind_some (rs.whole s) _ _ e in
        let v = S.whole s b.0.1 b.0.0 b.1 in
        let c = bind_some (expect m.Colon b.0.1) _ _ b.2 in
        let w = expect_of m.Colon b.0.1 c.0 c.1 in
        let o = bind_some (rs.whole c.0) _ _ c.2 in
        let z = S.whole c.0 o.0.1 o.0.0 o.1 in
        let p : (expr.Choose (start ts) x b.0.0 o.0.0, o.0.1) ≡ (y, us) = some_is _ _ o.2 in
        let front : Tokens = v.1.front ++ w.token ∷ z.1.front in
        let all : Expression limit D (ts ++ q ∷ front) (expr.Choose (start ts) x b.0.0 o.0.0) =
        subst (λ l. Expression limit D l (expr.Choose (start ts) x b.0.0 o.0.0)) (append_assoc ts (q ∷ v.1.front) (w.token ∷ z.1.front))
        (choose_at q w.token v.0 test few is_q v.1.derives w.is_mark z.1.derives) in
        record {
          front = front;
          split = v.1.split ∙ ap (λ l. v.1.front ++ l) (w.is ∙ ap (λ l. w.token ∷ l) (z.1.split ∙ ap (λ g. z.1.front ++ g.1) p)) ∙ sym (append_assoc v.1.front (w.token ∷ z.1.front) us);
          derives = subst (λ g. Expression limit D (ts ++ q ∷ front) g) (ap (λ g. g.0) p) all;
        }

    goes_on : (n : ℕ) (ts s t us : Tokens) (x y : Expr) → Chain limit D 10 n ts x → n ≤ limit → s ≡ ts ++ t
        → (if is_at m.Question t then r.choose limit rs (start s) x (drop 1 t) else Some (x, t)) ≡ Some (y, us)
        → Took (λ p. Expression limit D p y) s us
    goes_on n ts s t us x y c few split e =
        elim (if_cases (is_at m.Question t) _ _ _ e) [
          | inl g ↦
              let q = front_of m.Question t g.0 in
              let starts : start s ≡ start ts = ap start split ∙ start_append (chain_begins limit c) t in
              let z = choose_sound q.token n ts (drop 1 t) us x y c few q.is_mark (ap (λ at. r.choose limit rs at x (drop 1 t)) (sym starts) ∙ g.1) in
              record {
                front = ts ++ q.token ∷ z.front;
                split = split ∙ ap (λ v. ts ++ v) (q.is ∙ ap (λ v. q.token ∷ v) z.split) ∙ sym (append_assoc ts (q.token ∷ z.front) us);
                derives = z.derives;
              }
          | inr g ↦ took_as (λ z p. Expression limit D p z) s t us x y (some_is _ _ g.1) (record { front = ts; split = split; derives = plain c few })
        ]

    pub whole_sound : (s us : Tokens) (x : Expr) → r.whole limit rs s ≡ Some (x, us) → Took (λ p. Expression limit D p x) s us
    unfolding r.whole
    whole_sound s us x e =
        let a = bind_some (r.chain limit rs 10 s) _ _ e in
        let w = chain_sound 10 s a.0.2 a.0.0 a.0.1 a.1 in
        goes_on a.0.1 w.front s a.0.2 us a.0.0 x w.derives.0 w.derives.1 w.split a.2

  -- ---- each depth

  pub sound_below : (D : ℕ) → (d : ℕ) × Sound (below limit D) D d
  unfolding below
  sound_below zero = (0, record { whole = λ s us x e. absurd cc; operand = λ s us x e. absurd cc })
  sound_below (suc d) =
      let i = sound_below d in (
        d,
        record {
          whole = λ s us x e. (refl, whole_sound (below limit d) d i.0 i.1 s us x e);
          operand = λ s us x e. (refl, operand_sound (below limit d) d i.0 i.1 s us x e);
        },
      )

  pub sound_deep : (D : ℕ) → (D ≡ suc (sound_below D).0) ⊎ (D ≡ 0)
  unfolding sound_below
  sound_deep zero = inr refl
  sound_deep (suc d) = inl refl

  pub expression_sound : (d : ℕ) (s us : Tokens) (x : Expr) → r.whole limit (below limit d) s ≡ Some (x, us) → Took (λ p. Expression limit d p x) s us
  expression_sound d s us x e = whole_sound (below limit d) d (sound_below d).0 (sound_below d).1 s us x e
