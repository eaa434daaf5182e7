-- What is read is derived by the grammar of statements: statements that have none inside, and what stands before the one inside.
use Rattle.std.proofs.Common.{inl, inr, subst, ◌≡◌, ℕ, zero, suc, ◌+◌, ◌≤◌, Bool, true, false, List, [], ◌∷◌, ◌++◌, length, drop, Option, Some, None, refl, sym, ap, ◌∙◌, arith, append_assoc, append-nil, if◌then◌else◌}
use Rattle.std.specs.Prelude.{◌==◌}
use Rattle.nt_value.specs.declared.place.Place.{Place}
use Rattle.nt_value.specs.declared.operator.Binary.{Binary}
use Rattle.nt_value.specs.declared.kind.Edge.{Edge}
use Rattle.nt_value.specs.declared.kind.Edge.TheVariants.{Any}
use Rattle.nt_ast.specs.declared.path.Path.{Path}
use Rattle.nt_ast.specs.declared.expr.Expr.{Expr}
use Rattle.nt_ast.specs.declared.expr.Expr.TheVariants as ex
use Rattle.nt_ast.specs.declared.stmt.Stmt.{Stmt}
use Rattle.nt_ast.specs.declared.stmt.Stmt.TheVariants as st
use Rattle.nt_lexer.specs.Numbers.{decimal_literal}
use Rattle.nt_lexer.specs.declared.kinds.Mark.{Mark}
use Rattle.nt_lexer.specs.declared.kinds.Mark.TheVariants as m
use Rattle.nt_lexer.specs.declared.kinds.Word.{Word}
use Rattle.nt_lexer.specs.declared.kinds.Word.TheVariants as w
use Rattle.nt_lexer.specs.declared.kinds.TokenKind.{TokenKind}
use Rattle.nt_lexer.specs.declared.kinds.TokenKind.TheVariants as k
use Rattle.nt_lexer.specs.declared.kinds.Token.{Token}
use Rattle.nt_read_stmt.specs.declared.lead.Lead.{Lead}
use Rattle.nt_read_stmt.specs.declared.lead.Lead.TheVariants as l
use Rattle.nt_read_stmt.specs.declared.front.Task.{Task}
use Rattle.nt_read_stmt.specs.declared.front.Task.TheVariants.{Display, Finish}
use Rattle.nt_read_expr.specs.declared.list.Separator.TheVariants.{Comma, CommaOrWord}
use Rattle.nt_read_expr.specs.Tables.{Tokens, start}
use Rattle.nt_read_stmt.specs.Tables.{compound_of, step_of, edge_of, task_of, plain_path}
use Rattle.nt_read_expr.specs.Derivation.{Reference, Expression, Left, named}
use Rattle.nt_read_stmt.specs.Statements.{Label, unlabelled, labelled, Tested, tested, Value, given, compound, stepped, Simple, null, assign, nonblocking, called, called_none, return_none, return_of, break, continue, display_none, display_empty, display_of, finish_none, finish_empty, finish_of, Entering, standing, declared, Step, step, Event, any, edged, Leads, while_of, repeat_of, wait_of, forever_of, foreach_of, for_of, delay_number, delay_name, delay_of, event_name, event_of, event_any, event_any_in}
use Rattle.nt_read_expr.specs.Reader as x
use Rattle.nt_read_expr.specs.Reader.{Read, ◌>>=◌, either, below, first, is_at, expect, name_first, is_some}
use Rattle.nt_read_stmt.specs.Reader as r
use Rattle.nt_read_stmt.specs.Reader.{is_word, expect_word, take_name, past_label, past_number, past_int, plain_read}
use Rattle.nt_read_expr.proofs.Begins.{start_append, reference_begins}
use Rattle.nt_read_expr.proofs.Basics.{bind_some, some_is, if_some, if_cases, either_cases, some_of, Took, close, both, took_as}
use Rattle.nt_read_expr.proofs.Lists.{list_sound}
use Rattle.nt_read_expr.proofs.Sound.{Takes, front_of, expect_of, name_kind_is, reference_sound, selects_sound, several_sound, others_sound, sound_below, sound_deep, expression_sound}
use Rattle.nt_read_stmt.proofs.Firsts.{word_is}
use Rattle.nt_read_stmt.proofs.Pieces.{regroup5}

-- ---- first tokens

-- a word
pub record TakesWord (w' : Word) (s us : Tokens) : Type 0 where
  pub token : Token
  pub is_word : token.kind ≡ k.Word w'
  pub is : s ≡ token ∷ us

pub word_of : (w' : Word) (s : Tokens) → is_word w' s ≡ true → TakesWord w' s (drop 1 s)
unfolding is_word
word_of w' [] e = absurd cc
word_of w' (t ∷ ts) e = record { token = t; is_word = word_is w' t.kind e; is = refl }

pub expect_word_of : (w' : Word) (s us : Tokens) → expect_word w' s ≡ Some us → TakesWord w' s us
unfolding expect_word
expect_word_of w' s us e = let a = if_some (is_word w' s) (Some (drop 1 s)) us e in subst (TakesWord w' s) (some_is _ _ a.1) (word_of w' s a.0)

-- a name
record TakesName (name : List ℕ) (s us : Tokens) : Type 0 where
  token : Token
  is_name : token.kind ≡ k.Name name
  is : s ≡ token ∷ us

first_name : (s : Tokens) (name : List ℕ) → name_first s ≡ Some name → TakesName name s (drop 1 s)
unfolding name_first
first_name [] name e = absurd cc
first_name (t ∷ ts) name e = record { token = t; is_name = name_kind_is t.kind name e; is = refl }

name_of : (s us : Tokens) (name : List ℕ) → take_name s ≡ Some (name, us) → TakesName name s us
unfolding take_name
name_of s us name e =
    let a = bind_some (name_first s) _ _ e in
    let p : (a.0, drop 1 s) ≡ (name, us) = some_is _ _ a.2 in
    subst (λ (q : List ℕ × Tokens). TakesName q.0 s q.1) p (first_name s a.0 a.1)

pub label_sound : (s us : Tokens) → past_label s ≡ Some us → Took Label s us
unfolding past_label
label_sound s us e =
    elim (if_cases (is_at m.Colon s) _ _ _ e) [
      | inl g ↦
          let c = front_of m.Colon s g.0 in
          let n = if_some (is_some (name_first (drop 1 s))) _ _ g.1 in
          let o = some_of (name_first (drop 1 s)) n.0 in
          let t = first_name (drop 1 s) o.0 o.1 in
          let is : s ≡ c.token ∷ t.token ∷ drop 2 s = twice s c.token t.token c.is t.is in
          record { front = c.token ∷ t.token ∷ []; split = is ∙ ap (λ l. c.token ∷ t.token ∷ l) (some_is _ _ n.1); derives = labelled c.token t.token c.is_mark t.is_name }
      | inr g ↦ record { front = []; split = some_is _ _ g.1; derives = unlabelled }
    ]
  where
    twice : (s : Tokens) (c t : Token) → s ≡ c ∷ drop 1 s → drop 1 s ≡ t ∷ drop 1 (drop 1 s) → s ≡ c ∷ t ∷ drop 2 s
    twice [] c t f g = absurd cc
    twice (a ∷ []) c t f g = absurd cc
    twice (a ∷ b ∷ ts) c t f g = f ∙ ap (λ l. c ∷ l) g

closed_of : (y z : Stmt) (s us : Tokens) → r.closed y s ≡ Some (z, us) → Takes m.Semicolon s us × (y ≡ z)
unfolding r.closed
closed_of y z s us e =
    let a = bind_some (expect m.Semicolon s) _ _ e in
    let p : (y, a.0) ≡ (z, us) = some_is _ _ a.2 in
    (subst (Takes m.Semicolon s) (ap (λ q. q.1) p) (expect_of m.Semicolon s a.0 a.1), ap (λ q. q.0) p)

module _ (limit D : ℕ) where
  pub tested_sound : (s us : Tokens) (y : Expr) → r.tested limit D s ≡ Some (y, us) → Took (λ p. Tested limit D p y) s us
  unfolding r.tested
  tested_sound s us y e =
      let a = bind_some (expect m.LeftParen s) _ _ e in
      let o = expect_of m.LeftParen s a.0 a.1 in
      let b = bind_some (x.whole limit (below limit D) a.0) _ _ a.2 in
      let i = expression_sound limit D a.0 b.0.1 b.0.0 b.1 in
      let c = bind_some (expect m.RightParen b.0.1) _ _ b.2 in
      let q = expect_of m.RightParen b.0.1 c.0 c.1 in
      took_as (λ g p. Tested limit D p g) s c.0 us b.0.0 y (some_is _ _ c.2)
      (record { front = o.token ∷ i.front ++ q.token ∷ []; split = o.is ∙ ap (λ l. o.token ∷ l) (close i.front a.0 b.0.1 c.0 q.token i.split q.is); derives = tested o.token q.token o.is_mark i.derives q.is_mark })

  -- ---- what an assignment gives

  compound_sound : (t : Token) (mark : Mark) (o : Option Binary) (at : Place) (of : Expr) (s us : Tokens) (y : Expr) → t.kind ≡ k.Mark mark → compound_of mark ≡ o
      → r.compound limit D at of o s ≡ Some (y, us) → Took (λ p. Value limit D at of p y) (t ∷ s) us
  unfolding r.compound
  compound_sound t mark None at of s us y is_t is_op e = absurd cc
  compound_sound t mark (Some op) at of s us y is_t is_op e =
      let a = bind_some (expect m.Assign s) _ _ e in
      let q = expect_of m.Assign s a.0 a.1 in
      let b = bind_some (x.whole limit (below limit D) a.0) _ _ a.2 in
      let i = expression_sound limit D a.0 b.0.1 b.0.0 b.1 in
      took_as (λ g p. Value limit D at of p g) (t ∷ s) b.0.1 us (ex.Binary at op of b.0.0) y (some_is _ _ b.2)
      (record { front = t ∷ q.token ∷ i.front; split = ap (λ l. t ∷ l) (q.is ∙ ap (λ l. q.token ∷ l) i.split); derives = compound mark op t q.token is_t is_op q.is_mark i.derives })

  stepped_sound : (t : Token) (mark : Mark) (at : Place) (of : Expr) (s us : Tokens) (y : Expr) → t.kind ≡ k.Mark mark → r.stepped limit D at of mark t.at s ≡ Some (y, us)
      → Took (λ p. Value limit D at of p y) (t ∷ s) us
  unfolding r.stepped
  stepped_sound t mark at of s us y is_t e =
      elim (either_cases (step_of mark) _ _ _ e) [
        | inl g ↦ compound_sound t mark (compound_of mark) at of s us y is_t refl g.1
        | inr g ↦
            took_as (λ h p. Value limit D at of p h) (t ∷ s) s us (ex.Binary at g.0 of (ex.Literal t.at (decimal_literal 1))) y (some_is _ _ g.2)
            (record { front = t ∷ []; split = refl; derives = stepped mark g.0 t is_t g.1 })
      ]

  value_by_sound : (t : Token) (kind : TokenKind) (at : Place) (of : Expr) (s us : Tokens) (y : Expr) → t.kind ≡ kind → r.value_by limit D kind at of t.at s ≡ Some (y, us)
      → Took (λ p. Value limit D at of p y) (t ∷ s) us
  value_by_sound t (k.Mark m.Assign) at of s us y is e =
      let i = expression_sound limit D s us y e in
      record { front = t ∷ i.front; split = ap (λ l. t ∷ l) i.split; derives = given t is i.derives }
  value_by_sound t (k.Mark mark) at of s us y is e = stepped_sound t mark at of s us y is e
  value_by_sound t (k.Word n) at of s us y is e = absurd cc
  value_by_sound t (k.Name n) at of s us y is e = absurd cc
  value_by_sound t (k.System n) at of s us y is e = absurd cc
  value_by_sound t (k.Number n) at of s us y is e = absurd cc
  value_by_sound t (k.Text n) at of s us y is e = absurd cc
  value_by_sound t k.End at of s us y is e = absurd cc

  value_sound : (at : Place) (of : Expr) (s us : Tokens) (y : Expr) → r.value limit D at of s ≡ Some (y, us) → Took (λ p. Value limit D at of p y) s us
  unfolding r.value
  value_sound at of [] us y e = absurd cc
  value_sound at of (t ∷ s) us y e = value_by_sound t t.kind at of s us y refl e

  -- ---- statements that have none inside

  abbrev TookSimple : Tokens → Tokens → Stmt → Type 0
  TookSimple s us y = Took (λ p. Simple limit D p y) s us

  -- what a semicolon ends
  ends : (front s t us : Tokens) (y z : Stmt) → s ≡ front ++ t → r.closed y t ≡ Some (z, us) → ((c : Token) → c.kind ≡ k.Mark m.Semicolon → Simple limit D (front ++ c ∷ []) y) → TookSimple s us z
  ends front s t us y z split e f =
      let q = closed_of y z t us e in
      record {
        front = front ++ q.0.token ∷ [];
        split = close front s t us q.0.token split q.0.is;
        derives = subst (λ v. Simple limit D (front ++ q.0.token ∷ []) v) q.1 (f q.0.token q.0.is_mark);
      }

  call_of_sound : (ps : Tokens) (path : Path) (o : Token) (S s us : Tokens) (y : Stmt) → S ≡ ps ++ (o ∷ s) → Reference ps path → o.kind ≡ k.Mark m.LeftParen
      → r.call_of limit D (start ps) path s ≡ Some (y, us) → TookSimple S us y
  unfolding r.call_of
  call_of_sound ps path o S s us y split ref is_o e =
      let i = sound_below limit D in
      let a = bind_some (x.several limit (below limit D) s) _ _ e in
      let v = several_sound limit (below limit D) D i.0 i.1 s a.0.1 a.0.0 a.1 in
      let b = bind_some (expect m.RightParen a.0.1) _ _ a.2 in
      let q = expect_of m.RightParen a.0.1 b.0 b.1 in
      let mid : Tokens = ps ++ (o ∷ v.1.front) in
      let to_mid : S ≡ mid ++ a.0.1 = split ∙ ap (λ l. ps ++ (o ∷ l)) v.1.split ∙ sym (append_assoc ps (o ∷ v.1.front) a.0.1) in
      ends (mid ++ q.token ∷ []) S b.0 us (st.Call (start ps) path a.0.0) y (close mid S a.0.1 b.0 q.token to_mid q.is) b.2
      (λ c is_c. subst (λ t. Simple limit D t (st.Call (start ps) path a.0.0)) (sym (append_assoc mid (q.token ∷ []) (c ∷ [])))
      (subst (λ D'. Simple limit D' (mid ++ q.token ∷ c ∷ []) (st.Call (start ps) path a.0.0)) (sym v.0) (called o q.token c ref is_o v.1.derives q.is_mark is_c)))

  call_sound : (ps : Tokens) (path : Path) (o : Token) (S s us : Tokens) (y : Stmt) → S ≡ ps ++ (o ∷ s) → Reference ps path → o.kind ≡ k.Mark m.LeftParen
      → r.call limit D (start ps) path s ≡ Some (y, us) → TookSimple S us y
  unfolding r.call
  call_sound ps path o S s us y split ref is_o e =
      elim (if_cases (is_at m.RightParen s) _ _ _ e) [
        | inl g ↦
            let q = front_of m.RightParen s g.0 in
            ends (ps ++ (o ∷ q.token ∷ [])) S (drop 1 s) us (st.Call (start ps) path []) y (split ∙ ap (λ l. ps ++ (o ∷ l)) q.is ∙ sym (append_assoc ps (o ∷ q.token ∷ []) (drop 1 s))) g.1
            (λ c is_c. subst (λ t. Simple limit D t (st.Call (start ps) path [])) (sym (append_assoc ps (o ∷ q.token ∷ []) (c ∷ []))) (called_none o q.token c ref is_o q.is_mark is_c))
        | inr g ↦ call_of_sound ps path o S s us y split ref is_o g.1
      ]

  -- what follows a left side
  assigns_sound : (n : ℕ) (ls : Tokens) (of : Expr) (at : Place) (S s us : Tokens) (y : Stmt) → at ≡ start ls → S ≡ ls ++ s → Left limit D true n ls of → n ≤ limit
      → (if is_at m.LessEqual s then r.nonblocking limit D at of (drop 1 s) else r.blocking limit D at of s) ≡ Some (y, us) → TookSimple S us y
  unfolding r.nonblocking r.blocking
  assigns_sound n ls of at S s us y starts split left few e =
      elim (if_cases (is_at m.LessEqual s) _ _ _ e) [
        | inl g ↦
            let t = front_of m.LessEqual s g.0 in
            let b = bind_some (x.whole limit (below limit D) (drop 1 s)) _ _ g.1 in
            let i = expression_sound limit D (drop 1 s) b.0.1 b.0.0 b.1 in
            let mid : Tokens = ls ++ (t.token ∷ i.front) in
            ends mid S b.0.1 us (st.Nonblocking at of b.0.0) y (split ∙ ap (λ l. ls ++ l) (t.is ∙ ap (λ l. t.token ∷ l) i.split) ∙ sym (append_assoc ls (t.token ∷ i.front) b.0.1)) b.2
            (λ c is_c. subst (λ p. Simple limit D (mid ++ c ∷ []) (st.Nonblocking p of b.0.0)) (sym starts) (nonblocking t.token c left few t.is_mark i.derives is_c))
        | inr g ↦
            let b = bind_some (r.value limit D at of s) _ _ g.1 in
            let i = value_sound at of s b.0.1 b.0.0 b.1 in
            let mid : Tokens = ls ++ i.front in
            ends mid S b.0.1 us (st.Assign at of b.0.0) y (split ∙ ap (λ l. ls ++ l) i.split ∙ sym (append_assoc ls i.front b.0.1)) b.2
            (λ c is_c. subst (λ p. Simple limit D (mid ++ c ∷ []) (st.Assign p of b.0.0)) (sym starts) (assign c left few (subst (λ p. Value limit D p of i.front b.0.0) starts i.derives) is_c))
      ]

  assignment_sound : (ps : Tokens) (path : Path) (S s us : Tokens) (y : Stmt) → S ≡ ps ++ s → Reference ps path → r.assignment limit D (start ps) path s ≡ Some (y, us) → TookSimple S us y
  unfolding r.assignment
  assignment_sound ps path S s us y split ref e =
      let i = sound_below limit D in
      let a = bind_some (x.selects limit (below limit D) true (suc limit) (start ps) (ex.Read (start ps) path) s) _ _ e in
      let v = selects_sound limit (below limit D) D i.0 i.1 true (suc limit) 0 ps (ex.Read (start ps) path) s a.0.1 a.0.0 (named ref) (omega arith) a.1 in
      assigns_sound v.count (ps ++ v.front) a.0.0 (start ps) S a.0.1 us y (sym (start_append (reference_begins ref) v.front))
      (split ∙ ap (λ l. ps ++ l) v.split ∙ sym (append_assoc ps v.front a.0.1)) v.derives v.few a.2

  named_sound : (t : Token) (name : List ℕ) (s us : Tokens) (y : Stmt) → t.kind ≡ k.Name name → r.named limit D t.at name s ≡ Some (y, us) → TookSimple (t ∷ s) us y
  unfolding r.named
  named_sound t name s us y is_t e =
      let a = bind_some (x.reference t.at name s) _ _ e in
      let v : Tokens = a.0.1 in
      let i = reference_sound t name s v a.0.0 is_t a.1 in
      let starts : t.at ≡ start i.front = ap start i.split ∙ start_append (reference_begins i.derives) v in
      elim (if_cases (is_at m.LeftParen v) _ _ _ a.2) [
        | inl c ↦
            let o = front_of m.LeftParen v c.0 in
            call_sound i.front a.0.0 o.token (t ∷ s) (drop 1 v) us y (i.split ∙ ap (λ l. i.front ++ l) o.is) i.derives o.is_mark (ap (λ at. r.call limit D at a.0.0 (drop 1 v)) (sym starts) ∙ c.1)
        | inr c ↦ assignment_sound i.front a.0.0 (t ∷ s) v us y i.split i.derives (ap (λ at. r.assignment limit D at a.0.0 v) (sym starts) ∙ c.1)
      ]

  returned_sound : (t : Token) (s us : Tokens) (y : Stmt) → t.kind ≡ k.Word w.Return → r.returned limit D t.at s ≡ Some (y, us) → TookSimple (t ∷ s) us y
  unfolding r.returned
  returned_sound t s us y is_t e =
      elim (if_cases (is_at m.Semicolon s) _ _ _ e) [
        | inl g ↦
            let c = front_of m.Semicolon s g.0 in
            took_as (λ h p. Simple limit D p h) (t ∷ s) (drop 1 s) us (st.Return t.at None) y (some_is _ _ g.1)
            (record { front = t ∷ c.token ∷ []; split = ap (λ l. t ∷ l) c.is; derives = return_none t c.token is_t c.is_mark })
        | inr g ↦
            let b = bind_some (x.whole limit (below limit D) s) _ _ g.1 in
            let i = expression_sound limit D s b.0.1 b.0.0 b.1 in
            ends (t ∷ i.front) (t ∷ s) b.0.1 us (st.Return t.at (Some b.0.0)) y (ap (λ l. t ∷ l) i.split) b.2 (λ c is_c. return_of t c is_t i.derives is_c)
      ]

  -- ---- system tasks

  record TakesText (text : List ℕ) (s us : Tokens) : Type 0 where
    token : Token
    is_text : token.kind ≡ k.Text text
    is : s ≡ token ∷ us

  text_kind_is : (kind : TokenKind) (text : List ℕ) → r.text_kind kind ≡ Some text → kind ≡ k.Text text
  text_kind_is (k.Text n) text e = ap k.Text (some_is n text e)
  text_kind_is (k.Mark n) text e = absurd cc
  text_kind_is (k.Word n) text e = absurd cc
  text_kind_is (k.Name n) text e = absurd cc
  text_kind_is (k.System n) text e = absurd cc
  text_kind_is (k.Number n) text e = absurd cc
  text_kind_is k.End text e = absurd cc

  text_of : (s : Tokens) (text : List ℕ) → r.text_kind (first s) ≡ Some text → TakesText text s (drop 1 s)
  text_of [] text e = absurd cc
  text_of (t ∷ ts) text e = record { token = t; is_text = text_kind_is t.kind text e; is = refl }

  depth_is : (D == 0) ≡ false → D ≡ suc (sound_below limit D).0
  depth_is f = elim (sound_deep limit D) [ inl h ↦ h | inr h ↦ let bad : true ≡ false = sym (ap (λ (n : ℕ). n == 0) h) ∙ f in absurd cc ]

  display_of_sound : (t o : Token) (name : List ℕ) (s us : Tokens) (y : Stmt) → t.kind ≡ k.System name → task_of name ≡ Some Display → o.kind ≡ k.Mark m.LeftParen
      → r.display_of limit D t.at s ≡ Some (y, us) → TookSimple (t ∷ o ∷ s) us y
  unfolding r.display_of
  display_of_sound t o name s us y is_t is_task is_o e =
      elim (if_cases (D == 0) _ _ _ e) [
        | inl g ↦ absurd (let bad = g.1 in cc)
        | inr g ↦
            let i = sound_below limit D in
            let a = bind_some (r.text_kind (first s)) _ _ g.1 in
            let n = text_of s a.0 a.1 in
            let b = bind_some (x.more_of Comma (below limit D).whole (length (drop 1 s) + 1) [] (drop 1 s)) _ _ a.2 in
            let v = others_sound limit (below limit D) D i.0 i.1 (length (drop 1 s) + 1) [] (drop 1 s) b.0.1 b.0.0 b.1 in
            let c = bind_some (expect m.RightParen b.0.1) _ _ b.2 in
            let q = expect_of m.RightParen b.0.1 c.0 c.1 in
            let mid : Tokens = t ∷ o ∷ n.token ∷ v.2.front in
            let to_mid : t ∷ o ∷ s ≡ mid ++ b.0.1 = ap (λ l. t ∷ o ∷ l) (n.is ∙ ap (λ l. n.token ∷ l) v.2.split) in
            let deep : D ≡ suc i.0 = depth_is g.0 in
            ends (mid ++ q.token ∷ []) (t ∷ o ∷ s) c.0 us (st.Display t.at a.0 b.0.0) y (close mid (t ∷ o ∷ s) b.0.1 c.0 q.token to_mid q.is) c.2
            (λ f is_f. subst (λ g. Simple limit D g (st.Display t.at a.0 b.0.0)) (sym (append_assoc mid (q.token ∷ []) (f ∷ [])))
            (subst (λ D'. Simple limit D' (mid ++ q.token ∷ f ∷ []) (st.Display t.at a.0 b.0.0)) (sym deep)
            (subst (λ h. Simple limit (suc i.0) (mid ++ q.token ∷ f ∷ []) (st.Display t.at a.0 h)) (sym v.1) (display_of t o n.token q.token f is_t is_task is_o n.is_text v.2.derives q.is_mark is_f))))
      ]

  display_sound : (t : Token) (name : List ℕ) (s us : Tokens) (y : Stmt) → t.kind ≡ k.System name → task_of name ≡ Some Display → r.display limit D t.at s ≡ Some (y, us) → TookSimple (t ∷ s) us y
  unfolding r.display r.display_in
  display_sound t name s us y is_t is_task e =
      elim (if_cases (is_at m.LeftParen s) _ _ _ e) [
        | inr g ↦ ends (t ∷ []) (t ∷ s) s us (st.Display t.at [] []) y refl g.1 (λ c is_c. display_none t c is_t is_task is_c)
        | inl g ↦
            let o = front_of m.LeftParen s g.0 in
            elim (if_cases (is_at m.RightParen (drop 1 s)) _ _ _ g.1) [
              | inl h ↦
                  let q = front_of m.RightParen (drop 1 s) h.0 in
                  ends (t ∷ o.token ∷ q.token ∷ []) (t ∷ s) (drop 1 (drop 1 s)) us (st.Display t.at [] []) y (ap (λ l. t ∷ l) (o.is ∙ ap (λ l. o.token ∷ l) q.is)) h.1
                  (λ c is_c. display_empty t o.token q.token c is_t is_task o.is_mark q.is_mark is_c)
              | inr h ↦ subst (λ l. TookSimple (t ∷ l) us y) (sym o.is) (display_of_sound t o.token name (drop 1 s) us y is_t is_task o.is_mark h.1)
            ]
      ]

  number_kind : (kind : TokenKind) → r.is_number_kind kind ≡ true → (v : _) × (kind ≡ k.Number v)
  number_kind (k.Number v) e = (v, refl)
  number_kind (k.Text n) e = absurd cc
  number_kind (k.Mark n) e = absurd cc
  number_kind (k.Word n) e = absurd cc
  number_kind (k.Name n) e = absurd cc
  number_kind (k.System n) e = absurd cc
  number_kind k.End e = absurd cc

  finish_in_sound : (t o : Token) (name : List ℕ) (s us : Tokens) (y : Stmt) → t.kind ≡ k.System name → task_of name ≡ Some Finish → o.kind ≡ k.Mark m.LeftParen
      → (q : Token) (v : Tokens) → q.kind ≡ k.Mark m.RightParen → past_number s ≡ q ∷ v → r.closed (st.Finish t.at) v ≡ Some (y, us) → TookSimple (t ∷ o ∷ s) us y
  unfolding past_number
  finish_in_sound t o name [] us y is_t is_task is_o q v is_q e f = absurd cc
  finish_in_sound t o name (n ∷ s) us y is_t is_task is_o q v is_q e f =
      elim (if_cases (r.is_number_kind n.kind) _ _ _ e) [
        | inl g ↦
            let h = number_kind n.kind g.0 in
            ends (t ∷ o ∷ n ∷ q ∷ []) (t ∷ o ∷ n ∷ s) v us (st.Finish t.at) y (ap (λ l. t ∷ o ∷ n ∷ l) g.1) f (λ c is_c. finish_of t o n q c is_t is_task is_o h.1 is_q is_c)
        | inr g ↦ ends (t ∷ o ∷ q ∷ []) (t ∷ o ∷ n ∷ s) v us (st.Finish t.at) y (ap (λ l. t ∷ o ∷ l) g.1) f (λ c is_c. finish_empty t o q c is_t is_task is_o is_q is_c)
      ]

  finish_sound : (t : Token) (name : List ℕ) (s us : Tokens) (y : Stmt) → t.kind ≡ k.System name → task_of name ≡ Some Finish → r.finish t.at s ≡ Some (y, us) → TookSimple (t ∷ s) us y
  unfolding r.finish
  finish_sound t name s us y is_t is_task e =
      elim (if_cases (is_at m.LeftParen s) _ _ _ e) [
        | inr g ↦ ends (t ∷ []) (t ∷ s) s us (st.Finish t.at) y refl g.1 (λ c is_c. finish_none t c is_t is_task is_c)
        | inl g ↦
            let o = front_of m.LeftParen s g.0 in
            let a = bind_some (expect m.RightParen (past_number (drop 1 s))) _ _ g.1 in
            let q = expect_of m.RightParen (past_number (drop 1 s)) a.0 a.1 in
            subst (λ l. TookSimple (t ∷ l) us y) (sym o.is) (finish_in_sound t o.token name (drop 1 s) us y is_t is_task o.is_mark q.token a.0 q.is_mark q.is a.2)
      ]

  task_sound : (t : Token) (name : List ℕ) (o : Option Task) (s us : Tokens) (y : Stmt) → t.kind ≡ k.System name → task_of name ≡ o → r.task limit D t.at o s ≡ Some (y, us) → TookSimple (t ∷ s) us y
  unfolding r.task
  task_sound t name None s us y is_t is_task e = absurd cc
  task_sound t name (Some Display) s us y is_t is_task e = display_sound t name s us y is_t is_task e
  task_sound t name (Some Finish) s us y is_t is_task e = finish_sound t name s us y is_t is_task e

  simple_by_sound : (t : Token) (kind : TokenKind) (s us : Tokens) (y : Stmt) → t.kind ≡ kind → r.simple_by limit D kind t.at s ≡ Some (y, us) → TookSimple (t ∷ s) us y
  simple_by_sound t (k.Mark m.Semicolon) s us y is e =
      took_as (λ h p. Simple limit D p h) (t ∷ s) s us (st.Null t.at) y (some_is _ _ e) (record { front = t ∷ []; split = refl; derives = null t is })
  simple_by_sound t (k.Word w.Return) s us y is e = returned_sound t s us y is e
  simple_by_sound t (k.Word w.Break) s us y is e = ends (t ∷ []) (t ∷ s) s us (st.Break t.at) y refl e (λ c is_c. break t c is is_c)
  simple_by_sound t (k.Word w.Continue) s us y is e = ends (t ∷ []) (t ∷ s) s us (st.Continue t.at) y refl e (λ c is_c. continue t c is is_c)
  simple_by_sound t (k.Name name) s us y is e = named_sound t name s us y is e
  simple_by_sound t (k.System name) s us y is e = task_sound t name (task_of name) s us y is refl e
  simple_by_sound t _ s us y is e = absurd cc

  pub simple_sound : (s us : Tokens) (y : Stmt) → r.simple limit D s ≡ Some (y, us) → TookSimple s us y
  unfolding r.simple
  simple_sound [] us y e = absurd cc
  simple_sound (t ∷ s) us y e = simple_by_sound t t.kind s us y refl e

  -- ---- what stands before the one statement inside

  abbrev TookLead : Tokens → Tokens → Lead → Type 0
  TookLead s us y = Took (λ p. Leads limit D p y) s us

  -- a word or a mark and what follows it
  with_first : (t : Token) (s t' us : Tokens) (y z : Lead) → (let a : Lead × Tokens = (y, t') in let b : Lead × Tokens = (z, us) in a ≡ b) → (front : Tokens) → s ≡ front ++ t' → Leads limit D (t ∷ front) y → TookLead (t ∷ s) us z
  with_first t s t' us y z e front split i = took_as (λ h p. Leads limit D p h) (t ∷ s) t' us y z e (record { front = t ∷ front; split = ap (λ l. t ∷ l) split; derives = i })

  foreach_sound : (t : Token) (s us : Tokens) (y : Lead) → t.kind ≡ k.Word w.Foreach → r.foreach s ≡ Some (y, us) → TookLead (t ∷ s) us y
  unfolding r.foreach
  foreach_sound t s us y is_t e =
      let a = bind_some (expect m.LeftParen s) _ _ e in
      let o = expect_of m.LeftParen s a.0 a.1 in
      let b = bind_some (take_name a.0) _ _ a.2 in
      let n = name_of a.0 b.0.1 b.0.0 b.1 in
      let c = bind_some (expect m.LeftBracket b.0.1) _ _ b.2 in
      let p = expect_of m.LeftBracket b.0.1 c.0 c.1 in
      let d = bind_some (take_name c.0) _ _ c.2 in
      let i = name_of c.0 d.0.1 d.0.0 d.1 in
      let f = bind_some (expect m.RightBracket d.0.1) _ _ d.2 in
      let q = expect_of m.RightBracket d.0.1 f.0 f.1 in
      let g = bind_some (expect m.RightParen f.0) _ _ f.2 in
      let z = expect_of m.RightParen f.0 g.0 g.1 in
      with_first t s g.0 us (l.Foreach (start a.0) b.0.0 (start c.0) d.0.0) y (some_is _ _ g.2) (o.token ∷ n.token ∷ p.token ∷ i.token ∷ q.token ∷ z.token ∷ [])
      (o.is ∙ ap (λ l. o.token ∷ l) (n.is ∙ ap (λ l. n.token ∷ l) (p.is ∙ ap (λ l. p.token ∷ l) (i.is ∙ ap (λ l. i.token ∷ l) (q.is ∙ ap (λ l. q.token ∷ l) z.is)))))
      (subst (λ v. Leads limit D (t ∷ o.token ∷ n.token ∷ p.token ∷ i.token ∷ q.token ∷ z.token ∷ []) (l.Foreach v b.0.0 (start c.0) d.0.0)) (sym (ap start n.is))
      (subst (λ v. Leads limit D (t ∷ o.token ∷ n.token ∷ p.token ∷ i.token ∷ q.token ∷ z.token ∷ []) (l.Foreach n.token.at b.0.0 v d.0.0)) (sym (ap start i.is))
      (foreach_of t o.token n.token p.token i.token q.token z.token is_t o.is_mark n.is_name p.is_mark i.is_name q.is_mark z.is_mark)))

  record Entered (fresh : Bool) (p : Place) (name : List ℕ) (y : Expr) (s us : Tokens) : Type 0 where
    front : Tokens
    token : Token
    is_mark : token.kind ≡ k.Mark m.Semicolon
    split : s ≡ front ++ (token ∷ us)
    derives : Entering limit D front fresh p name y

  record Plainly (name : List ℕ) (y : Expr) (s us : Tokens) : Type 0 where
    one : Token
    two : Token
    is_name : one.kind ≡ k.Name name
    is_assign : two.kind ≡ k.Mark m.Assign
    front : Tokens
    token : Token
    is_mark : token.kind ≡ k.Mark m.Semicolon
    split : s ≡ one ∷ two ∷ (front ++ (token ∷ us))
    derives : Expression limit D front y

  plainly_sound : (s us : Tokens) (name : List ℕ) (y : Expr) → r.entering limit D s ≡ Some (name, y, us) → Plainly name y s us
  unfolding r.entering
  plainly_sound s us name y e =
      let a = bind_some (take_name s) _ _ e in
      let n = name_of s a.0.1 a.0.0 a.1 in
      let b = bind_some (expect m.Assign a.0.1) _ _ a.2 in
      let q = expect_of m.Assign a.0.1 b.0 b.1 in
      let c = bind_some (x.whole limit (below limit D) b.0) _ _ b.2 in
      let i = expression_sound limit D b.0 c.0.1 c.0.0 c.1 in
      let d = bind_some (expect m.Semicolon c.0.1) _ _ c.2 in
      let z = expect_of m.Semicolon c.0.1 d.0 d.1 in
      let p : (a.0.0, c.0.0, d.0) ≡ (name, y, us) = some_is _ _ d.2 in
      let all : Plainly a.0.0 c.0.0 s d.0 = record {
        one = n.token;
        two = q.token;
        is_name = n.is_name;
        is_assign = q.is_mark;
        front = i.front;
        token = z.token;
        is_mark = z.is_mark;
        split = n.is ∙ ap (λ l. n.token ∷ l) (q.is ∙ ap (λ l. q.token ∷ l) (i.split ∙ ap (λ l. i.front ++ l) z.is));
        derives = i.derives;
      } in
      subst (λ (g : List ℕ × Expr × Tokens). Plainly g.0 g.1 s g.2) p all

  entering_sound : (s us : Tokens) (name : List ℕ) (y : Expr) → r.entering limit D (past_int s) ≡ Some (name, y, us) → Entered (is_word w.Int s) (start (past_int s)) name y s us
  unfolding past_int
  entering_sound s us name y e = by_word (is_word w.Int s) refl
    where
      by_word : (b : Bool) → is_word w.Int s ≡ b → Entered b (start (if b then drop 1 s else s)) name y s us
      by_word true g =
          let i = word_of w.Int s g in
          let v = plainly_sound (drop 1 s) us name y (ap (λ (c : Bool). r.entering limit D (if c then drop 1 s else s)) (sym g) ∙ e) in
          record { front = i.token ∷ v.one ∷ v.two ∷ v.front; token = v.token; is_mark = v.is_mark; split = i.is ∙ ap (λ l. i.token ∷ l) v.split; derives = subst (λ p. Entering limit D (i.token ∷ v.one ∷ v.two ∷ v.front) true p name y) (sym (ap start v.split)) (declared i.token v.one v.two i.is_word v.is_name v.is_assign v.derives) }
      by_word false g =
          let v = plainly_sound s us name y (ap (λ (c : Bool). r.entering limit D (if c then drop 1 s else s)) (sym g) ∙ e) in
          record { front = v.one ∷ v.two ∷ v.front; token = v.token; is_mark = v.is_mark; split = v.split; derives = subst (λ p. Entering limit D (v.one ∷ v.two ∷ v.front) false p name y) (sym (ap start v.split)) (standing v.one v.two v.is_name v.is_assign v.derives) }

  step_sound : (s us : Tokens) (y : Stmt) → r.step limit D s ≡ Some (y, us) → Took (λ p. Step limit D p y) s us
  unfolding r.step
  step_sound s us y e =
      let a = bind_some (take_name s) _ _ e in
      let n = name_of s a.0.1 a.0.0 a.1 in
      let starts : start s ≡ n.token.at = ap start n.is in
      let b = bind_some (r.value limit D (start s) (plain_read (start s) a.0.0) a.0.1) _ _ a.2 in
      let i = value_sound (start s) (plain_read (start s) a.0.0) a.0.1 b.0.1 b.0.0 b.1 in
      let one : Step limit D (n.token ∷ i.front) (st.Assign n.token.at (ex.Read n.token.at (plain_path n.token.at a.0.0)) b.0.0) =
      step n.token n.is_name (subst (λ at. Value limit D at (plain_read at a.0.0) i.front b.0.0) starts i.derives) in
      took_as (λ h p. Step limit D p h) s b.0.1 us (st.Assign (start s) (plain_read (start s) a.0.0) b.0.0) y (some_is _ _ b.2)
      (record { front = n.token ∷ i.front; split = n.is ∙ ap (λ l. n.token ∷ l) i.split; derives = subst (λ at. Step limit D (n.token ∷ i.front) (st.Assign at (plain_read at a.0.0) b.0.0)) (sym starts) one })

  for_sound : (t : Token) (s us : Tokens) (y : Lead) → t.kind ≡ k.Word w.For → r.for_lead limit D s ≡ Some (y, us) → TookLead (t ∷ s) us y
  unfolding r.for_lead r.stepping
  for_sound t s us y is_t e =
      let a = bind_some (expect m.LeftParen s) _ _ e in
      let o = expect_of m.LeftParen s a.0 a.1 in
      let fresh : Bool = is_word w.Int a.0 in
      let b = bind_some (r.entering limit D (past_int a.0)) _ _ a.2 in
      let i = entering_sound a.0 b.0.2 b.0.0 b.0.1 b.1 in
      let c = bind_some (x.whole limit (below limit D) b.0.2) _ _ b.2 in
      let j = expression_sound limit D b.0.2 c.0.1 c.0.0 c.1 in
      let d = bind_some (expect m.Semicolon c.0.1) _ _ c.2 in
      let p = expect_of m.Semicolon c.0.1 d.0 d.1 in
      let f = bind_some (r.step limit D d.0) _ _ d.2 in
      let n = step_sound d.0 f.0.1 f.0.0 f.1 in
      let g = bind_some (expect m.RightParen f.0.1) _ _ f.2 in
      let z = expect_of m.RightParen f.0.1 g.0 g.1 in
      with_first t s g.0 us (l.For fresh (start (past_int a.0)) b.0.0 b.0.1 c.0.0 f.0.0) y (some_is _ _ g.2) (((o.token ∷ i.front ++ i.token ∷ j.front) ++ p.token ∷ n.front) ++ z.token ∷ [])
      (o.is ∙ ap (λ l. o.token ∷ l) (i.split ∙ ap (λ l. i.front ++ (i.token ∷ l)) (j.split ∙ ap (λ l. j.front ++ l) (p.is ∙ ap (λ l. p.token ∷ l) (n.split ∙ ap (λ l. n.front ++ l) z.is))))
      ∙ sym (regroup5 (o.token ∷ i.front) (i.token ∷ j.front) (p.token ∷ n.front) (z.token ∷ []) g.0))
      (for_of t o.token i.token p.token z.token is_t o.is_mark i.derives i.is_mark j.derives p.is_mark n.derives z.is_mark)

  delay_tested_sound : (t : Token) (s us : Tokens) (y : Lead) → t.kind ≡ k.Mark m.Hash → (r.tested limit D s >>= λ p. (let o : Read Lead = Some (l.Delay p.0, p.1) in o)) ≡ Some (y, us) → TookLead (t ∷ s) us y
  delay_tested_sound t s us y is_t e =
      let a = bind_some (r.tested limit D s) _ _ e in
      let i = tested_sound s a.0.1 a.0.0 a.1 in
      with_first t s a.0.1 us (l.Delay a.0.0) y (some_is _ _ a.2) i.front i.split (delay_of t is_t i.derives)

  delay_by_sound : (t n : Token) (kind : TokenKind) (s us : Tokens) (y : Lead) → t.kind ≡ k.Mark m.Hash → n.kind ≡ kind → r.delay_by limit D kind n.at (n ∷ s) s ≡ Some (y, us) → TookLead (t ∷ n ∷ s) us y
  delay_by_sound t n (k.Number v) s us y is_t is_n e = with_first t (n ∷ s) s us (l.Delay (ex.Literal n.at v)) y (some_is _ _ e) (n ∷ []) refl (delay_number t n is_t is_n)
  delay_by_sound t n (k.Name name) s us y is_t is_n e =
      let a = bind_some (x.reference n.at name s) _ _ e in
      let i = reference_sound n name s a.0.1 a.0.0 is_n a.1 in
      let starts : n.at ≡ start i.front = ap start i.split ∙ start_append (reference_begins i.derives) a.0.1 in
      with_first t (n ∷ s) a.0.1 us (l.Delay (ex.Read n.at a.0.0)) y (some_is _ _ a.2) i.front i.split (subst (λ at. Leads limit D (t ∷ i.front) (l.Delay (ex.Read at a.0.0))) (sym starts) (delay_name t is_t i.derives))
  delay_by_sound t n (k.Mark q) s us y is_t is_n e = delay_tested_sound t (n ∷ s) us y is_t e
  delay_by_sound t n (k.Word q) s us y is_t is_n e = delay_tested_sound t (n ∷ s) us y is_t e
  delay_by_sound t n (k.System q) s us y is_t is_n e = delay_tested_sound t (n ∷ s) us y is_t e
  delay_by_sound t n (k.Text q) s us y is_t is_n e = delay_tested_sound t (n ∷ s) us y is_t e
  delay_by_sound t n k.End s us y is_t is_n e = delay_tested_sound t (n ∷ s) us y is_t e

  delay_sound : (t : Token) (s us : Tokens) (y : Lead) → t.kind ≡ k.Mark m.Hash → r.delay limit D s ≡ Some (y, us) → TookLead (t ∷ s) us y
  unfolding r.delay
  delay_sound t [] us y is_t e = delay_tested_sound t [] us y is_t e
  delay_sound t (n ∷ s) us y is_t e = delay_by_sound t n n.kind s us y is_t refl e

  -- ---- events

  edged_first : (s : Tokens) (edge : Edge) → edge_of (first s) ≡ Some edge → (t : Token) × (edge_of t.kind ≡ Some edge) × (s ≡ t ∷ drop 1 s)
  edged_first [] edge e = absurd cc
  edged_first (t ∷ ts) edge e = (t, e, refl)

  event_sound : (s us : Tokens) (y : Edge × Expr) → r.event limit D s ≡ Some (y, us) → Took (λ p. Event limit D p y) s us
  unfolding r.event
  event_sound s us y e =
      elim (either_cases (edge_of (first s)) _ _ _ e) [
        | inl g ↦
            let a = bind_some (x.whole limit (below limit D) s) _ _ g.1 in
            let i = expression_sound limit D s a.0.1 a.0.0 a.1 in
            took_as (λ h p. Event limit D p h) s a.0.1 us (Any, a.0.0) y (some_is _ _ a.2) (record { front = i.front; split = i.split; derives = any i.derives })
        | inr g ↦
            let t = edged_first s g.0 g.1 in
            let a = bind_some (x.whole limit (below limit D) (drop 1 s)) _ _ g.2 in
            let i = expression_sound limit D (drop 1 s) a.0.1 a.0.0 a.1 in
            took_as (λ h p. Event limit D p h) s a.0.1 us (g.0, a.0.0) y (some_is _ _ a.2)
            (record { front = t.0 ∷ i.front; split = t.2 ∙ ap (λ l. t.0 ∷ l) i.split; derives = edged g.0 t.0 t.1 i.derives })
      ]

  events_sound : (t o : Token) (s us : Tokens) (y : Lead) → t.kind ≡ k.Mark m.At → o.kind ≡ k.Mark m.LeftParen → r.events limit D s ≡ Some (y, us) → TookLead (t ∷ o ∷ s) us y
  unfolding r.events
  events_sound t o s us y is_t is_o e =
      let a = bind_some (x.list_of CommaOrWord (r.event limit D) s) _ _ e in
      let i = list_sound CommaOrWord (r.event limit D) (Event limit D) event_sound s a.0.1 a.0.0 a.1 in
      let c = bind_some (expect m.RightParen a.0.1) _ _ a.2 in
      let q = expect_of m.RightParen a.0.1 c.0 c.1 in
      with_first t (o ∷ s) c.0 us (l.Event false a.0.0) y (some_is _ _ c.2) (o ∷ i.front ++ q.token ∷ [])
      (ap (λ l. o ∷ l) (close i.front s a.0.1 c.0 q.token i.split q.is))
      (event_of t o q.token is_t is_o i.derives q.is_mark)

  event_in_sound : (t o : Token) (s us : Tokens) (y : Lead) → t.kind ≡ k.Mark m.At → o.kind ≡ k.Mark m.LeftParen → r.event_in limit D s ≡ Some (y, us) → TookLead (t ∷ o ∷ s) us y
  unfolding r.event_in
  event_in_sound t o s us y is_t is_o e =
      elim (if_cases (is_at m.Star s) _ _ _ e) [
        | inl g ↦
            let a = front_of m.Star s g.0 in
            let c = bind_some (expect m.RightParen (drop 1 s)) _ _ g.1 in
            let q = expect_of m.RightParen (drop 1 s) c.0 c.1 in
            with_first t (o ∷ s) c.0 us (l.Event true []) y (some_is _ _ c.2) (o ∷ a.token ∷ q.token ∷ []) (ap (λ l. o ∷ l) (a.is ∙ ap (λ l. a.token ∷ l) q.is)) (event_any_in t o a.token q.token is_t is_o a.is_mark q.is_mark)
        | inr g ↦ events_sound t o s us y is_t is_o g.1
      ]

  control_by_sound : (t n : Token) (kind : TokenKind) (s us : Tokens) (y : Lead) → t.kind ≡ k.Mark m.At → n.kind ≡ kind → r.control_by limit D kind n.at s ≡ Some (y, us) → TookLead (t ∷ n ∷ s) us y
  control_by_sound t n (k.Name name) s us y is_t is_n e = with_first t (n ∷ s) s us (l.Event false ((Any, plain_read n.at name) ∷ [])) y (some_is _ _ e) (n ∷ []) refl (event_name t n is_t is_n)
  control_by_sound t n (k.Mark m.Star) s us y is_t is_n e = with_first t (n ∷ s) s us (l.Event true []) y (some_is _ _ e) (n ∷ []) refl (event_any t n is_t is_n)
  control_by_sound t n (k.Mark m.LeftParen) s us y is_t is_n e = event_in_sound t n s us y is_t is_n e
  control_by_sound t n _ s us y is_t is_n e = absurd cc

  control_sound : (t : Token) (s us : Tokens) (y : Lead) → t.kind ≡ k.Mark m.At → r.control limit D s ≡ Some (y, us) → TookLead (t ∷ s) us y
  unfolding r.control
  control_sound t [] us y is_t e = absurd cc
  control_sound t (n ∷ s) us y is_t e = control_by_sound t n n.kind s us y is_t refl e

  test_sound : (t : Token) (f : Expr → Lead) (s us : Tokens) (y : Lead) → ((ts : Tokens) (z : Expr) → Tested limit D ts z → Leads limit D (t ∷ ts) (f z))
      → (r.tested limit D s >>= λ p. (let o : Read Lead = Some (f p.0, p.1) in o)) ≡ Some (y, us) → TookLead (t ∷ s) us y
  test_sound t f s us y g e =
      let a = bind_some (r.tested limit D s) _ _ e in
      let i = tested_sound s a.0.1 a.0.0 a.1 in
      with_first t s a.0.1 us (f a.0.0) y (some_is _ _ a.2) i.front i.split (g i.front a.0.0 i.derives)

  lead_by_sound : (t : Token) (kind : TokenKind) (s us : Tokens) (y : Lead) → t.kind ≡ kind → r.lead_by limit D kind s ≡ Some (y, us) → TookLead (t ∷ s) us y
  lead_by_sound t (k.Word w.While) s us y is e = test_sound t l.While s us y (λ ts z i. while_of t is i) e
  lead_by_sound t (k.Word w.Repeat) s us y is e = test_sound t l.Repeat s us y (λ ts z i. repeat_of t is i) e
  lead_by_sound t (k.Word w.Wait) s us y is e = test_sound t l.Wait s us y (λ ts z i. wait_of t is i) e
  lead_by_sound t (k.Word w.Forever) s us y is e = with_first t s s us l.Forever y (some_is _ _ e) [] refl (forever_of t is)
  lead_by_sound t (k.Word w.Foreach) s us y is e = foreach_sound t s us y is e
  lead_by_sound t (k.Word w.For) s us y is e = for_sound t s us y is e
  lead_by_sound t (k.Mark m.Hash) s us y is e = delay_sound t s us y is e
  lead_by_sound t (k.Mark m.At) s us y is e = control_sound t s us y is e
  lead_by_sound t _ s us y is e = absurd cc

  pub lead_sound : (s us : Tokens) (y : Lead) → r.lead limit D s ≡ Some (y, us) → TookLead s us y
  unfolding r.lead
  lead_sound [] us y e = absurd cc
  lead_sound (t ∷ s) us y e = lead_by_sound t t.kind s us y refl e
