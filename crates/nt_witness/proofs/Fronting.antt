-- Fronts of what is written piece by piece.
use Rattle.std.proofs.Common.{◌≡◌, ℕ, zero, suc, List, [], ◌∷◌, ◌++◌, take, drop, get_or, length, ◌<◌, arith, OnErr, Result, Ok, Err, refl, sym, ◌∙◌, ap, subst, append_assoc, append-nil}
use Rattle.std.specs.List.{flat_map}
use Rattle.nt_witness.specs.Fronts.{GainsFront}

-- nothing was written
pub none_yet : (a b bytes : List ℕ) → b ≡ a → GainsFront a b bytes
none_yet a b bytes same = ([], bytes, same ∙ sym (append-nil a), refl)

-- a piece was written, and then a front
pub after_piece : (a b c x y : List ℕ) → b ≡ a ++ x → GainsFront b c y → GainsFront a c (x ++ y)
after_piece a b c x y wrote (front, rest, now, whole) =
    (x ++ front, rest, now ∙ ap (λ l. l ++ front) wrote ∙ append_assoc a x front, append_assoc x front rest ∙ ap (λ l. x ++ l) whole)

-- a front of a piece is one of the piece and what follows
pub of_piece : (a c x y : List ℕ) → GainsFront a c x → GainsFront a c (x ++ y)
of_piece a c x y (front, rest, now, whole) =
    (front, rest ++ y, now, sym (append_assoc front rest y) ∙ ap (λ l. l ++ y) whole)

-- whatever failed
pub on_any_err : {A E : Type 0} (r : Result A E) (P : Type 0) → P → OnErr r P
on_any_err (Ok x) P h = tt
on_any_err (Err e) P h = h

module _ {A : Type 0} (f : A → List ℕ) where
  around : (xs : List A) (i : ℕ) (past : A) → i < length xs → flat_map f (take i xs) ++ (f (get_or xs i past) ++ flat_map f (drop (suc i) xs)) ≡ flat_map f xs
  around [] i past h = absurd (omega (arith, h))
  around (y ∷ xs) zero past h = refl
  around (y ∷ xs) (suc i) past h =
      append_assoc (f y) (flat_map f (take i xs)) (f (get_or xs i past) ++ flat_map f (drop (suc i) xs)) ∙ ap (λ l. f y ++ l) (around xs i past (omega (arith, h)))

  -- some items were written whole, and then a front of the next one
  pub in_item : (a b c : List ℕ) (xs : List A) (i : ℕ) (past : A) → i < length xs → b ≡ a ++ flat_map f (take i xs) → GainsFront b c (f (get_or xs i past)) → GainsFront a c (flat_map f xs)
  in_item a b c xs i past h wrote front =
      subst (GainsFront a c) (around xs i past h) (after_piece a b c (flat_map f (take i xs)) (f (get_or xs i past) ++ flat_map f (drop (suc i) xs)) wrote (of_piece b c (f (get_or xs i past)) (flat_map f (drop (suc i) xs)) front))
