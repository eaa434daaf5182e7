-- What is derived from tokens in the order of their offsets has its places in that order.
use Rattle.std.proofs.Common.{ℕ, ◌≤◌, Bool, List, [], ◌∷◌, ◌++◌, Option, sym, ap, subst, arith}
use Rattle.nt_value.specs.declared.place.Place.{Place}
use Rattle.nt_ast.specs.declared.path.Path.{Path}
use Rattle.nt_ast.specs.declared.expr.Key.{Key}
use Rattle.nt_ast.specs.declared.expr.Expr.{Expr}
use Rattle.nt_lexer.specs.declared.kinds.Token.{Token}
use Rattle.nt_read_expr.specs.Tables.{Tokens, start}
use Rattle.nt_read_expr.specs.Derivation.{Reference, alone, scoped, Expression, plain, choose, Chain, single, tighter, joined, Operand, literal, left, size, size_call, bracketed, prefixed, concat, repetition, pattern_of, call, call_none, now, signed, Left, named, selected, Select, member, item, part, indexed, Several, several, Others, last, another, Entry, keyless, keyed, Items, items, OtherItems, last_item, another_item}
use Rattle.nt_ast.specs.Places.{Within, Placed, literal_in, read_in, member_in, item_in, part_in, indexed_in, unary_in, binary_in, choose_in, concat_in, repeat_in, pattern_in, call_in, size_in, time_in, sign_in, AllPlaced, no_parts, more_parts, EachPlaced, no_items, more_items}
use Rattle.nt_ast.specs.declared.expr.Expr.TheViews.{out-Expr}
use Rattle.nt_ast.proofs.Rolled.{literal_placed, read_placed, member_placed, item_placed, part_placed, indexed_placed, unary_placed, binary_placed, choose_placed, concat_placed, repeat_placed, pattern_placed, call_placed, size_placed, time_placed, sign_placed}
use Rattle.nt_lexer.specs.Laws.{Ascending, no_token, token_then}
use Rattle.nt_read_expr.proofs.Begins.{Begins, reference_begins, left_begins, chain_begins}

module _ (file : ℕ) where
  pub spans : {i j : ℕ} {ts : Tokens} → Ascending file i j ts → i ≤ j
  spans (no_token le) = le
  spans (token_then t f le a) = let r = spans a in omega (arith, r, le)

  raised : {j k : ℕ} → j ≤ k → {h : ℕ} {ts : Tokens} → Ascending file h j ts → Ascending file h k ts
  raised me (no_token le) = no_token (omega (arith, le, me))
  raised me (token_then t f le a) = token_then t f le (raised me a)

  lowered : {i h j : ℕ} {ts : Tokens} → i ≤ h → Ascending file h j ts → Ascending file i j ts
  lowered le (no_token he) = no_token (omega (arith, le, he))
  lowered le (token_then t f he a) = token_then t f (omega (arith, le, he)) a

  pub wider : {i h j k : ℕ} {ts : Tokens} → i ≤ h → j ≤ k → Ascending file h j ts → Ascending file i k ts
  wider le me a = lowered le (raised me a)

  pub record Halves (i j : ℕ) (ts us : Tokens) : Type 0 where
    pub at : ℕ
    pub one : Ascending file i at ts
    pub two : Ascending file at j us

  pub halves : (ts us : Tokens) {i j : ℕ} → Ascending file i j (ts ++ us) → Halves i j ts us
  halves [] us {i = i} a = record { at = i; one = no_token (omega arith); two = a }
  halves (_ ∷ ts) us (token_then t f le a) =
      let h = halves ts us a in
      record { at = h.at; one = token_then t f le h.one; two = h.two }

  -- the tokens after the first
  pub rest_of : {i j : ℕ} {t : Token} {ts : Tokens} → Ascending file i j (t ∷ ts) → Ascending file i j ts
  rest_of (token_then t f le a) = wider (omega (arith, le)) (omega arith) a

  -- those before the last parts
  pub front_of : {i j : ℕ} (ts us : Tokens) → Ascending file i j (ts ++ us) → Ascending file i j ts
  front_of ts us a = let h = halves ts us a in wider (omega arith) (spans h.two) h.one

  pub first_in : {i j : ℕ} {t : Token} {ts : Tokens} → Ascending file i j (t ∷ ts) → Within file i j t.at
  first_in (token_then t f le a) = record { same = f; from = le; below = (let r = spans a in omega (arith, r)) }

  pub start_in : {i j : ℕ} {ts : Tokens} → Begins ts → Ascending file i j ts → Within file i j (start ts)
  start_in {i = i} {j = j} b a = subst (λ at. Within file i j at) (sym (ap start b.is)) (first_in (subst (Ascending file i j) b.is a))

  -- from the place of the first token on
  pub from_first : {i j : ℕ} {t : Token} {ts : Tokens} → Ascending file i j (t ∷ ts) → Ascending file t.at.offset j (t ∷ ts)
  from_first (token_then t f le a) = token_then t f (omega arith) a

  pub from_start : {i j : ℕ} {ts : Tokens} → Begins ts → (us : Tokens) → Ascending file i j (ts ++ us) → Ascending file (start ts).offset j (ts ++ us)
  from_start {i = i} {j = j} b us a =
      subst (λ (ts : Tokens). Ascending file (start ts).offset j (ts ++ us)) (sym b.is) (from_first (subst (λ (ts : Tokens). Ascending file i j (ts ++ us)) b.is a))

  pub from_its_start : {i j : ℕ} {ts : Tokens} → Begins ts → Ascending file i j ts → Ascending file (start ts).offset j ts
  from_its_start {i = i} {j = j} b a =
      subst (λ (ts : Tokens). Ascending file (start ts).offset j ts) (sym b.is) (from_first (subst (λ (ts : Tokens). Ascending file i j ts) b.is a))

  pub path_in : {i j : ℕ} {ts : Tokens} {path : Path} → Reference ts path → Ascending file i j ts → Within file i j path.at
  path_in (alone t e) a = first_in a
  path_in (scoped p q t ep eq et) a = first_in a

  module _ (limit : ℕ) where
    mutual
      pub expression_placed : {d : ℕ} {ts : Tokens} {x : Expr} → {i j : ℕ} → Expression limit d ts x → Ascending file i j ts → Placed file i j (out-Expr x)
      expression_placed (plain c le) a = chain_placed c a
      expression_placed (choose {ts = ts} {us = us} {vs = vs} q c test le eq y ec z) a =
          let h = halves (ts ++ q ∷ us) (c ∷ vs) a in
          let first = chain_begins limit test in
          let g = halves ts (q ∷ us) (from_start first (q ∷ us) h.one) in
          let w = start_in first (front_of ts (q ∷ us) (front_of (ts ++ q ∷ us) (c ∷ vs) a)) in
          choose_placed (choose_in w (chain_placed test g.one) (expression_placed y (rest_of g.two)) (expression_placed z (rest_of h.two)))

      chain_placed : {d l n : ℕ} {ts : Tokens} {x : Expr} → {i j : ℕ} → Chain limit d l n ts x → Ascending file i j ts → Placed file i j (out-Expr x)
      chain_placed (single o) a = operand_placed o a
      chain_placed (tighter c) a = chain_placed c a
      chain_placed (joined {ts = ts} {us = us} mark op t c e f l y) a =
          let first = chain_begins limit c in
          let h = halves ts (t ∷ us) (from_start first (t ∷ us) a) in
          binary_placed (binary_in (start_in first (front_of ts (t ∷ us) a)) (chain_placed c h.one) (chain_placed y (rest_of h.two)))

      operand_placed : {d : ℕ} {ts : Tokens} {x : Expr} → {i j : ℕ} → Operand limit d ts x → Ascending file i j ts → Placed file i j (out-Expr x)
      operand_placed (literal t e) a = literal_placed (literal_in (first_in a))
      operand_placed (left l le) a = left_placed l a
      operand_placed (size {ts = ts} o t l le eo et f) a =
          let b = front_of ts (o ∷ t ∷ []) a in size_placed (size_in (start_in (left_begins limit l) b) (left_placed l (from_its_start (left_begins limit l) b)))
      operand_placed (size_call {ts = ts} o t p c l le eo et f ep ec) a =
          let b = front_of ts (o ∷ t ∷ p ∷ c ∷ []) a in size_placed (size_in (start_in (left_begins limit l) b) (left_placed l (from_its_start (left_begins limit l) b)))
      operand_placed (bracketed {ts = ts} o c eo x ec) a = expression_placed x (front_of ts (c ∷ []) (rest_of a))
      operand_placed (prefixed mark op t e f x) a = unary_placed (unary_in (first_in a) (operand_placed x (rest_of (from_first a))))
      operand_placed (concat {ts = ts} o c eo xs ec) a = concat_placed (concat_in (first_in a) (several_placed xs (front_of ts (c ∷ []) (rest_of (from_first a)))))
      operand_placed (repetition {ts = ts} {us = us} o p q c eo x ep xs eq ec) a =
          let h = halves ts (p ∷ us) (front_of (ts ++ p ∷ us) (q ∷ c ∷ []) (rest_of (from_first a))) in
          repeat_placed (repeat_in (first_in a) (expression_placed x h.one) (several_placed xs (rest_of h.two)))
      operand_placed (pattern_of {ts = ts} o c eo xs ec) a = pattern_placed (pattern_in (first_in a) (items_placed xs (front_of ts (c ∷ []) (rest_of (from_first a)))))
      operand_placed (call {ts = ts} {us = us} o c p eo xs ec) a =
          let b = front_of (ts ++ o ∷ us) (c ∷ []) a in
          let h = halves ts (o ∷ us) (from_start (reference_begins p) (o ∷ us) b) in
          call_placed (call_in (start_in (reference_begins p) (front_of ts (o ∷ us) b)) (path_in p h.one) (several_placed xs (rest_of h.two)))
      operand_placed (call_none {ts = ts} o c p eo ec) a =
          let h = halves ts (o ∷ c ∷ []) (from_start (reference_begins p) (o ∷ c ∷ []) a) in
          call_placed (call_in (start_in (reference_begins p) (front_of ts (o ∷ c ∷ []) a)) (path_in p h.one) (no_parts (spans h.two)))
      operand_placed (now t e f) a = time_placed (time_in (first_in a))
      operand_placed (signed {ts = ts} to t o c et f eo x ec) a =
          sign_placed (sign_in (first_in a) (expression_placed x (front_of ts (c ∷ []) (rest_of (rest_of (from_first a))))))

      pub left_placed : {d n : ℕ} {free : Bool} {ts : Tokens} {x : Expr} → {i j : ℕ} → Left limit d free n ts x → Ascending file i j ts → Placed file i j (out-Expr x)
      left_placed (named p) a = read_placed (read_in (start_in (reference_begins p) a) (path_in p (from_its_start (reference_begins p) a)))
      left_placed (selected {ts = ts} {us = us} l s) a =
          let first = left_begins limit l in
          let b = from_start first us a in
          let h = halves ts us b in
          select_placed s (start_in first (front_of ts us a)) (left_placed l h.one) (left_placed l (front_of ts us b)) h.two

      -- one select of what is placed before it, and before the end
      select_placed : {d : ℕ} {free : Bool} {ts : Tokens} {at : Place} {x y : Expr} → {i h j : ℕ} → Select limit d free at x ts y → Within file i j at
          → Placed file at.offset h (out-Expr x) → Placed file at.offset j (out-Expr x) → Ascending file h j ts → Placed file i j (out-Expr y)
      select_placed (member o t eo et f) w x all a = member_placed (member_in w x (first_in (rest_of a)))
      select_placed (item {ts = ts} o c eo y ec) w x all a = item_placed (item_in w x (expression_placed y (front_of ts (c ∷ []) (rest_of a))))
      select_placed (part {ts = ts} {us = us} o q c eo y eq z ec) w x all a =
          let h = halves ts (q ∷ us) (front_of (ts ++ q ∷ us) (c ∷ []) (rest_of a)) in
          part_placed (part_in w x (expression_placed y h.one) (expression_placed z (rest_of h.two)))
      select_placed (indexed {ts = ts} {us = us} mark up o q c eo y eq eu z ec) w x all a =
          let h = halves ts (q ∷ us) (front_of (ts ++ q ∷ us) (c ∷ []) (rest_of a)) in
          indexed_placed (indexed_in w x (expression_placed y h.one) (expression_placed z (rest_of h.two)))

      pub several_placed : {d : ℕ} {ts : Tokens} {xs : List Expr} → {i j : ℕ} → Several limit d ts xs → Ascending file i j ts → AllPlaced file i j xs
      several_placed (several {ts = ts} {us = us} x xs) a = let h = halves ts us a in more_parts (expression_placed x h.one) (others_placed xs h.two)

      pub others_placed : {d : ℕ} {ts : Tokens} {xs : List Expr} → {i j : ℕ} → Others limit d ts xs → Ascending file i j ts → AllPlaced file i j xs
      others_placed last a = no_parts (spans a)
      others_placed (another {ts = ts} {us = us} t e x xs) a = let h = halves ts us (rest_of a) in more_parts (expression_placed x h.one) (others_placed xs h.two)

      items_placed : {d : ℕ} {keys : Bool} {ts : Tokens} {xs : List (Option Key × Expr)} → {i j : ℕ} → Items limit d keys ts xs → Ascending file i j ts → EachPlaced file i j xs
      items_placed (items {ts = ts} {us = us} x xs) a = let h = halves ts us a in entry_placed x h.one (other_items_placed xs h.two)

      entry_placed : {d : ℕ} {keys : Bool} {ts : Tokens} {x : Option Key × Expr} {xs : List (Option Key × Expr)} → {i h j : ℕ} → Entry limit d keys ts x → Ascending file i h ts → EachPlaced file h j xs
          → EachPlaced file i j (x ∷ xs)
      entry_placed (keyless x) a xs = more_items (expression_placed x a) xs
      entry_placed (keyed key t c ek ec x) a xs = more_items (expression_placed x (rest_of (rest_of a))) xs

      other_items_placed : {d : ℕ} {keys : Bool} {ts : Tokens} {xs : List (Option Key × Expr)} → {i j : ℕ} → OtherItems limit d keys ts xs → Ascending file i j ts → EachPlaced file i j xs
      other_items_placed last_item a = no_items (spans a)
      other_items_placed (another_item {ts = ts} {us = us} t e x xs) a = let h = halves ts us (rest_of a) in entry_placed x h.one (other_items_placed xs h.two)
