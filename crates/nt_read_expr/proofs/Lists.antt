-- The loop over a list, and what it reads, whatever the items are.
use Rattle.std.proofs.Common.{inl, inr, ◌≡◌, ℕ, zero, suc, ◌+◌, ◌-◌, ◌<◌, ◌≤◌, Bool, true, false, if◌then◌else◌, List, [], ◌∷◌, ◌++◌, length, drop, Option, Some, None, refl, sym, ap, ◌∙◌, subst, arith, append_assoc, append-nil, length-append}
use Rattle.nt_lexer.specs.declared.kinds.Mark.TheVariants as m
use Rattle.nt_lexer.specs.declared.kinds.TokenKind.{TokenKind}
use Rattle.nt_lexer.specs.declared.kinds.TokenKind.TheVariants as k
use Rattle.nt_lexer.specs.declared.kinds.Token.{Token}
use Rattle.nt_read_expr.specs.declared.list.Separator.{Separator}
use Rattle.nt_read_expr.specs.declared.list.Separator.TheVariants.{Comma, CommaOrWord}
use Rattle.nt_read_expr.specs.Tables.{Tokens, separates}
use Rattle.nt_read_expr.specs.Lists.{MoreOf, no_item, next_item, ListOf, listed}
use Rattle.nt_read_expr.specs.Reader.{Read, ◌>>=◌, first, more_of, list_of}
use Rattle.nt_read_expr.proofs.Basics.{bind_some, bind_none, some_is, if_cases, if_same, one_and_more, no_and_one, both, Took}

-- ---- separators

pub comma_of : (kind : TokenKind) → separates Comma kind ≡ true → kind ≡ k.Mark m.Comma
comma_of (k.Mark m.Comma) e = refl
comma_of (k.Mark _) e = absurd cc
comma_of _ e = absurd cc

-- a separator that stands first
pub record Separated (by : Separator) (s : Tokens) : Type 0 where
  pub token : Token
  pub is_separator : separates by token.kind ≡ true
  pub is : s ≡ token ∷ drop 1 s

pub separated : (by : Separator) (s : Tokens) → separates by (first s) ≡ true → Separated by s
separated Comma [] e = absurd cc
separated CommaOrWord [] e = absurd cc
separated by (t ∷ ts) e = record { token = t; is_separator = e; is = refl }

module _ {A : Type 0} (by : Separator) (item : Tokens → Read A) where
  -- ---- the loop of src/, which counts its turns up

  pub more_turn : (end at : ℕ) (found : List A) (ts : Tokens) → at < end
      → more_of by item (end - at + 1) found ts
      ≡ (if separates by (first ts) then (item (drop 1 ts) >>= λ p. more_of by item (end - (at + 1) + 1) (found ++ p.0 ∷ []) p.1) else Some (found, ts))
  unfolding more_of
  more_turn end at found ts lt = ap (λ f. more_of by item f found ts) (one_and_more end at lt)

  pub more_end : (end at : ℕ) (found : List A) (ts : Tokens) → end ≤ at
      → more_of by item (end - at + 1) found ts ≡ (if separates by (first ts) then None else Some (found, ts))
  unfolding more_of
  more_end end at found ts le = ap (λ f. more_of by item f found ts) (no_and_one end at le) ∙ if_same (separates by (first ts)) _ None _ (bind_none (item (drop 1 ts)))

  -- ---- steps

  pub list_stops : (f : ℕ) (found : List A) (ts : Tokens) → separates by (first ts) ≡ false → more_of by item (suc f) found ts ≡ Some (found, ts)
  unfolding more_of
  list_stops f found ts g = rw g refl

  pub list_steps : (f : ℕ) (found : List A) (x : A) (ts us : Tokens) → separates by (first ts) ≡ true → item (drop 1 ts) ≡ Some (x, us)
      → more_of by item (suc f) found ts ≡ more_of by item f (found ++ x ∷ []) us
  unfolding more_of
  list_steps f found x ts us g j = rw (g, j) refl

  pub list_opens : (x : A) (ts us : Tokens) → item ts ≡ Some (x, us) → list_of by item ts ≡ more_of by item (length us + 1) (x ∷ []) us
  unfolding list_of
  list_opens x ts us g = rw g refl

  -- ---- what is read is a list

  pub record More (Item : Tokens → A → Type 0) (found : List A) (s us : Tokens) (xs : List A) : Type 0 where
    pub items : List A
    pub all : xs ≡ found ++ items
    pub took : Took (λ p. MoreOf by Item p items) s us

  pub more_sound : (Item : Tokens → A → Type 0) → ((s us : Tokens) (x : A) → item s ≡ Some (x, us) → Took (λ p. Item p x) s us)
      → (f : ℕ) (found : List A) (s us : Tokens) (xs : List A) → more_of by item f found s ≡ Some (xs, us) → More Item found s us xs
  unfolding more_of
  more_sound Item I zero found s us xs e = absurd cc
  more_sound Item I (suc f) found s us xs e =
      elim (if_cases (separates by (first s)) _ _ _ e) [
        | inl c ↦
            let v = separated by s c.0 in
            let a = bind_some (item (drop 1 s)) _ _ c.1 in
            let w = I (drop 1 s) a.0.1 a.0.0 a.1 in
            let i = more_sound Item I f (found ++ a.0.0 ∷ []) a.0.1 us xs a.2 in
            record {
              items = a.0.0 ∷ i.items;
              all = i.all ∙ append_assoc found (a.0.0 ∷ []) i.items;
              took = record {
                front = v.token ∷ w.front ++ i.took.front;
                split = v.is ∙ ap (λ l. v.token ∷ l) (both w.front i.took.front (drop 1 s) a.0.1 us w.split i.took.split);
                derives = next_item v.token v.is_separator w.derives i.took.derives;
              };
            }
        | inr c ↦
            let p : (found, s) ≡ (xs, us) = some_is _ _ c.1 in
            record { items = []; all = sym (ap (λ q. q.0) p) ∙ sym (append-nil found); took = record { front = []; split = ap (λ q. q.1) p; derives = no_item } }
      ]

  pub list_sound : (Item : Tokens → A → Type 0) → ((s us : Tokens) (x : A) → item s ≡ Some (x, us) → Took (λ p. Item p x) s us)
      → (s us : Tokens) (xs : List A) → list_of by item s ≡ Some (xs, us) → Took (λ p. ListOf by Item p xs) s us
  unfolding list_of
  list_sound Item I s us xs e =
      let a = bind_some (item s) _ _ e in
      let w = I s a.0.1 a.0.0 a.1 in
      let i = more_sound Item I (length a.0.1 + 1) (a.0.0 ∷ []) a.0.1 us xs a.2 in
      record {
        front = w.front ++ i.took.front;
        split = both w.front i.took.front s a.0.1 us w.split i.took.split;
        derives = subst (λ l. ListOf by Item (w.front ++ i.took.front) l) (sym i.all) (listed w.derives i.took.derives);
      }

  -- ---- a list is read, before what neither goes on with an item nor separates

  pub record Reads (Item : Tokens → A → Type 0) (Fit : Tokens → Type 0) : Type 0 where
    pub complete : {ts : Tokens} {x : A} → Item ts x → (rest : Tokens) → Fit rest → item (ts ++ rest) ≡ Some (x, rest)
    pub parted : (t : Token) (rest : Tokens) → separates by t.kind ≡ true → Fit (t ∷ rest)

  module _ {Item : Tokens → A → Type 0} {Fit : Tokens → Type 0} (R : Reads Item Fit) where
    more_fit : {us : Tokens} {xs : List A} → MoreOf by Item us xs → (rest : Tokens) → Fit rest → Fit (us ++ rest)
    more_fit no_item rest fit = fit
    more_fit (next_item {ts = ts} {us = us} t g y ys) rest fit = R.parted t ((ts ++ us) ++ rest) g

    shorter : (t : Token) (ts us : Tokens) (f : ℕ) → length (t ∷ ts ++ us) < suc f → length us < f
    shorter t ts us f lt = omega (arith, lt, length-append ts us)

    pub more_complete : {us : Tokens} {xs : List A} → MoreOf by Item us xs → (found : List A) (rest : Tokens) (f : ℕ) → length us < f → Fit rest → separates by (first rest) ≡ false
        → more_of by item f found (us ++ rest) ≡ Some (found ++ xs, rest)
    more_complete l found rest zero lt fit close = absurd (omega arith)
    more_complete no_item found rest (suc f) lt fit close = list_stops f found rest close ∙ ap (λ l. Some (l, rest)) (sym (append-nil found))
    more_complete (next_item {ts = ts} {us = us} {x = x} {xs = xs} t is_t one more) found rest (suc f) lt fit close =
        ap (λ l. more_of by item (suc f) found (t ∷ l)) (append_assoc ts us rest)
        ∙ list_steps f found x (t ∷ (ts ++ (us ++ rest))) (us ++ rest) is_t (R.complete one (us ++ rest) (more_fit more rest fit))
        ∙ more_complete {us = us} {xs = xs} more (found ++ x ∷ []) rest f (shorter t ts us f lt) fit close
        ∙ ap (λ l. Some (l, rest)) (append_assoc found (x ∷ []) xs)

    pub list_complete : {ts : Tokens} {xs : List A} → ListOf by Item ts xs → (rest : Tokens) → Fit rest → separates by (first rest) ≡ false
        → list_of by item (ts ++ rest) ≡ Some (xs, rest)
    list_complete (listed {ts = ts} {us = us} {x = x} {xs = xs} one more) rest fit close =
        ap (list_of by item) (append_assoc ts us rest)
        ∙ list_opens x (ts ++ (us ++ rest)) (us ++ rest) (R.complete one (us ++ rest) (more_fit more rest fit))
        ∙ more_complete more (x ∷ []) rest (length (us ++ rest) + 1) (omega (arith, length-append us rest)) fit close
