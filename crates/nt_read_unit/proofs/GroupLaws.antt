-- The loop over groups, and what it reads, whatever the groups are.
use Rattle.std.proofs.Common.{inl, inr, ◌≡◌, ℕ, zero, suc, ◌<◌, Bool, true, false, List, [], ◌++◌, length, Some, refl, sym, ap, ◌∙◌, arith, append_assoc, append-nil, length-append}
use Rattle.nt_read_expr.specs.Tables.{Tokens}
use Rattle.nt_read_expr.specs.Reader.{Read}
use Rattle.nt_read_expr.proofs.Basics.{bind_some, some_is, if_cases, both, Took}
use Rattle.nt_read_unit.specs.Groups.{Groups, no_group, next_group}
use Rattle.nt_read_unit.specs.Reader.{groups_of}

module _ {A : Type 0} (goes : Tokens → Bool) (group : Tokens → Read (List A)) where
  groups_stop : (f : ℕ) (found : List A) (ts : Tokens) → goes ts ≡ false → groups_of goes group (suc f) found ts ≡ Some (found, ts)
  unfolding groups_of
  groups_stop f found ts g = rw g refl

  groups_step : (f : ℕ) (found xs : List A) (ts us : Tokens) → goes ts ≡ true → group ts ≡ Some (xs, us) → groups_of goes group (suc f) found ts ≡ groups_of goes group f (found ++ xs) us
  unfolding groups_of
  groups_step f found xs ts us g h = rw (g, h) refl

  -- ---- what is read are groups

  pub record Grown (Group : Tokens → List A → Type 0) (found : List A) (s us : Tokens) (ys : List A) : Type 0 where
    pub items : List A
    pub all : ys ≡ found ++ items
    pub took : Took (λ p. Groups Group p items) s us

  pub groups_sound : (Group : Tokens → List A → Type 0) → ((s us : Tokens) (xs : List A) → group s ≡ Some (xs, us) → Took (λ p. Group p xs) s us)
      → (f : ℕ) (found : List A) (s us : Tokens) (ys : List A) → groups_of goes group f found s ≡ Some (ys, us) → Grown Group found s us ys
  unfolding groups_of
  groups_sound Group I zero found s us ys e = absurd cc
  groups_sound Group I (suc f) found s us ys e =
      elim (if_cases (goes s) _ _ _ e) [
        | inl c ↦
            let a = bind_some (group s) _ _ c.1 in
            let w = I s a.0.1 a.0.0 a.1 in
            let i = groups_sound Group I f (found ++ a.0.0) a.0.1 us ys a.2 in
            record {
              items = a.0.0 ++ i.items;
              all = i.all ∙ append_assoc found a.0.0 i.items;
              took = record { front = w.front ++ i.took.front; split = both w.front i.took.front s a.0.1 us w.split i.took.split; derives = next_group w.derives i.took.derives };
            }
        | inr c ↦
            let p : (found, s) ≡ (ys, us) = some_is _ _ c.1 in
            record { items = []; all = sym (ap (λ q. q.0) p) ∙ sym (append-nil found); took = record { front = []; split = ap (λ q. q.1) p; derives = no_group } }
      ]

  -- ---- groups are read, before what neither goes on with a group nor begins one

  pub record Reads (Group : Tokens → List A → Type 0) (Fit : Tokens → Type 0) : Type 0 where
    pub complete : {ts : Tokens} {xs : List A} → Group ts xs → (rest : Tokens) → Fit rest → group (ts ++ rest) ≡ Some (xs, rest)
    pub opens : {ts : Tokens} {xs : List A} → Group ts xs → (rest : Tokens) → goes (ts ++ rest) ≡ true
    pub fits : {ts : Tokens} {xs : List A} → Group ts xs → (rest : Tokens) → Fit (ts ++ rest)
    pub longer : {ts : Tokens} {xs : List A} → Group ts xs → 0 < length ts

  module _ {Group : Tokens → List A → Type 0} {Fit : Tokens → Type 0} (R : Reads Group Fit) where
    groups_fit : {us : Tokens} {ys : List A} → Groups Group us ys → (rest : Tokens) → Fit rest → Fit (us ++ rest)
    groups_fit no_group rest fit = fit
    groups_fit (next_group {ts = ts} {us = us} y ys) rest fit = let P : Tokens → Type 0 = Fit in rw (append_assoc ts us rest) (R.fits y (us ++ rest))

    pub groups_complete : {us : Tokens} {ys : List A} → Groups Group us ys → (found : List A) (rest : Tokens) (f : ℕ) → length us < f → Fit rest → goes rest ≡ false
        → groups_of goes group f found (us ++ rest) ≡ Some (found ++ ys, rest)
    groups_complete l found rest zero lt fit close = absurd (omega arith)
    groups_complete no_group found rest (suc f) lt fit close = groups_stop f found rest close ∙ ap (λ l. Some (l, rest)) (sym (append-nil found))
    groups_complete (next_group {ts = ts} {us = us} {xs = xs} {ys = ys} one more) found rest (suc f) lt fit close =
        ap (λ l. groups_of goes group (suc f) found l) (append_assoc ts us rest)
        ∙ groups_step f found xs (ts ++ (us ++ rest)) (us ++ rest) (R.opens one (us ++ rest)) (R.complete one (us ++ rest) (groups_fit more rest fit))
        ∙ groups_complete {us = us} {ys = ys} more (found ++ xs) rest f (let k = R.longer one in omega (arith, lt, k, length-append ts us)) fit close
        ∙ ap (λ l. Some (l, rest)) (append_assoc found xs ys)
