-- Digits from one on, read and replaced, as those that are inside and a fill.
use Rattle.std.proofs.Common.{◌≡◌, ◌≤◌, ◌<◌, ℕ, zero, suc, ◌+◌, ◌-◌, List, [], ◌∷◌, ◌++◌, length, map, take, drop, replicate, refl, ap, sym, ◌∙◌, arith}
use Rattle.std.proofs.lemmas.List.{append-nil, drop-drop, length-drop}
use Rattle.std.specs.Prelude.{Bool, true, false, Some, None, min, pos, negsuc, if◌then◌else◌}
use Rattle.nt_value.proofs.Returns.{known_digits}
use Rattle.nt_value.specs.Arithmetic.{padded}
use Rattle.nt_value.specs.Digits.{LeafValue, IsFilled, all_known}
use Rattle.nt_value.specs.Operators.{in_leaf, part_of, put_part_of, two_state, unsigned_leaf}
use Rattle.nt_value.specs.Values.{default_leaf}
use Rattle.nt_value.specs.declared.digit.Digit.{Digit}
use Rattle.nt_value.specs.declared.digit.Digit.TheVariants.{Zero, X}
use Rattle.nt_design.proofs.Filled.{part_filled}
use Rattle.nt_design.specs.Parts.{over_lowest, part_at, with_part}

-- ---- lists
take_none : {A : Type 0} (xs : List A) → take 0 xs ≡ []
take_none [] = refl
take_none (x ∷ xs) = refl

drop_none : {A : Type 0} (xs : List A) → drop 0 xs ≡ xs
drop_none [] = refl
drop_none (x ∷ xs) = refl

take_all : {A : Type 0} (n : ℕ) (xs : List A) → length xs ≤ n → take n xs ≡ xs
take_all zero [] h = refl
take_all (suc n) [] h = refl
take_all zero (x ∷ xs) h = absurd (omega (arith, h))
take_all (suc n) (x ∷ xs) h = ap (λ l. x ∷ l) (take_all n xs (omega (arith, h)))

drop_all : {A : Type 0} (n : ℕ) (xs : List A) → length xs ≤ n → drop n xs ≡ []
drop_all zero [] h = refl
drop_all (suc n) [] h = refl
drop_all zero (x ∷ xs) h = absurd (omega (arith, h))
drop_all (suc n) (x ∷ xs) h = drop_all n xs (omega (arith, h))

-- ---- digits in a leaf
own_digits : (four : Bool) (ds : List Digit) → (four ≡ false → all_known ds ≡ true) → (if four then ds else map two_state ds) ≡ ds
own_digits true ds h = refl
own_digits false ds h = known_digits ds (h refl)

-- a leaf's own digits stay as they are in it
pub in_own : (a : LeafValue) → IsFilled a → in_leaf a.leaf a.digits ≡ a
in_own a h = ap {B = LeafValue} (λ ds. record { leaf = a.leaf; digits = ds }) (own_digits a.leaf.four a.digits h.two)

-- ---- reads
pad_in : (n m : ℕ) (fill : Digit) (ds : List Digit) → m ≡ min n (length ds) → padded n fill ds ≡ take m ds ++ drop m (replicate n fill)
pad_in zero zero fill [] h = refl
pad_in zero zero fill (d ∷ ds) h = refl
pad_in zero (suc m) fill ds h = absurd (omega (arith, h))
pad_in (suc n) zero fill [] h = ap (λ l. fill ∷ l) (pad_in n 0 fill [] (omega arith) ∙ drop_none (replicate n fill))
pad_in (suc n) (suc m) fill [] h = absurd (omega (arith, h))
pad_in (suc n) zero fill (d ∷ ds) h = absurd (omega (arith, h))
pad_in (suc n) (suc m) fill (d ∷ ds) h = ap (λ l. d ∷ l) (pad_in n m fill ds (omega (arith, h)))

zero_more : (n : ℕ) → 0 + n ≡ n
zero_more n = omega arith

one_more : (first below : ℕ) → first ≡ below + 1 → first ≡ suc below
one_more first below h = omega (arith, h)

pad_below : (k n m w t : ℕ) (fill : Digit) (ds : List Digit) → m ≡ min n (length ds) → w ≡ k + n → t ≡ k + m → padded w fill (replicate k fill ++ ds) ≡ take k (replicate w fill) ++ (take m ds ++ drop t (replicate w fill))
pad_below zero n m w t fill ds h e f =
    pad_in w m fill ds (omega (arith, h, e))
    ∙ (ap (λ k. take m ds ++ drop k (replicate w fill)) (omega (arith, f))
    ∙ ap (λ l. l ++ (take m ds ++ drop t (replicate w fill))) (sym (take_none (replicate w fill))))
pad_below (suc k) n m zero t fill ds h e f = absurd (omega (arith, e))
pad_below (suc k) n m (suc w) zero fill ds h e f = absurd (omega (arith, f))
pad_below (suc k) n m (suc w) (suc t) fill ds h e f = ap (λ l. fill ∷ l) (pad_below k n m w t fill ds h (omega (arith, e)) (omega (arith, f)))

-- digits that are all outside
pad_none : (n : ℕ) (fill : Digit) → padded n fill [] ≡ replicate n fill
pad_none zero fill = refl
pad_none (suc n) fill = ap (λ l. fill ∷ l) (pad_none n fill)

pad_fill : (n k : ℕ) (fill : Digit) (ds : List Digit) → n ≤ k → padded n fill (replicate k fill ++ ds) ≡ replicate n fill
pad_fill zero k fill ds h = refl
pad_fill (suc n) zero fill ds h = absurd (omega (arith, h))
pad_fill (suc n) (suc k) fill ds h = ap (λ l. fill ∷ l) (pad_fill n k fill ds (omega (arith, h)))

abbrev fill_in : LeafValue → Digit
fill_in a = if a.leaf.four then X else Zero

abbrev as_part : ℕ → LeafValue → List Digit → LeafValue
as_part width a ds = record { leaf = unsigned_leaf width a.leaf.four; digits = ds }

pub past_end : (a : LeafValue) (low width : ℕ) → IsFilled a → a.leaf.width ≤ low → default_leaf (unsigned_leaf width a.leaf.four) ≡ part_at (Some (pos low)) width a
past_end a low width filled h =
    ap (as_part width a) (sym (ap (padded width (fill_in a)) (drop_all low a.digits (omega (arith, filled.long, h))) ∙ pad_none width (fill_in a)))

pub past_start : (a : LeafValue) (below width : ℕ) → width - 1 ≤ below → default_leaf (unsigned_leaf width a.leaf.four) ≡ part_at (Some (negsuc below)) width a
past_start a below width h =
    ap (as_part width a) (sym (pad_fill width (suc below) (fill_in a) a.digits (omega (arith, h))))

pub part_up : (a : LeafValue) (low width count : ℕ) → IsFilled a → low < a.leaf.width → count ≡ min width (a.leaf.width - low) → put_part_of (default_leaf (unsigned_leaf width a.leaf.four)) 0 (part_of a low count) ≡ part_at (Some (pos low)) width a
part_up a low width count filled h is =
    ap (λ ds. in_leaf (unsigned_leaf width a.leaf.four) ds)
    (ap (λ l. l ++ (take count (drop low a.digits) ++ drop (0 + count) (replicate width (fill_in a)))) (take_none (replicate width (fill_in a)))
    ∙ (ap (λ n. take count (drop low a.digits) ++ drop n (replicate width (fill_in a))) (zero_more count)
    ∙ sym (pad_in width count (fill_in a) (drop low a.digits) (omega (arith, is, length-drop low a.digits, filled.long)))))
    ∙ in_own (part_at (Some (pos low)) width a) (part_filled (Some (pos low)) width a filled)

pub part_down : (a : LeafValue) (below first width count : ℕ) → IsFilled a → first ≡ below + 1 → first ≤ width → count ≡ min a.leaf.width (width - first) → put_part_of (default_leaf (unsigned_leaf width a.leaf.four)) first (part_of a 0 count) ≡ part_at (Some (negsuc below)) width a
part_down a below first width count filled at inside is =
    ap (λ k. put_part_of (default_leaf (unsigned_leaf width a.leaf.four)) k (part_of a 0 count)) (one_more first below at)
    ∙ (ap (λ ds. in_leaf (unsigned_leaf width a.leaf.four) ds)
    (ap (λ l. take (suc below) (replicate width (fill_in a)) ++ (take count l ++ drop (suc below + count) (replicate width (fill_in a)))) (drop_none a.digits)
    ∙ sym (pad_below (suc below) (width - first) count width (suc below + count) (fill_in a) a.digits (omega (arith, is, filled.long)) (omega (arith, at, inside)) (omega arith)))
    ∙ in_own (part_at (Some (negsuc below)) width a) (part_filled (Some (negsuc below)) width a filled))

-- ---- writes
over_none : (ds : List Digit) → over_lowest ds [] ≡ ds
over_none [] = refl
over_none (d ∷ ds) = refl

over_in : (ds new : List Digit) (m : ℕ) → m ≡ min (length new) (length ds) → over_lowest ds new ≡ take m new ++ drop m ds
over_in [] [] zero h = refl
over_in [] (n ∷ new) zero h = refl
over_in [] new (suc m) h = absurd (omega (arith, h))
over_in (d ∷ ds) [] zero h = refl
over_in (d ∷ ds) [] (suc m) h = absurd (omega (arith, h))
over_in (d ∷ ds) (n ∷ new) zero h = absurd (omega (arith, h))
over_in (d ∷ ds) (n ∷ new) (suc m) h = ap (λ l. n ∷ l) (over_in ds new m (omega (arith, h)))

pub nowhere : (new a : LeafValue) → IsFilled a → a ≡ with_part None new a
nowhere new a filled = sym (in_own a filled)

pub above : (new a : LeafValue) (low : ℕ) → IsFilled a → a.leaf.width ≤ low → a ≡ with_part (Some (pos low)) new a
above new a low filled h =
    sym (ap (λ ds. in_leaf a.leaf ds)
    (ap (λ l. take low a.digits ++ over_lowest l new.digits) (drop_all low a.digits (omega (arith, filled.long, h)))
    ∙ (append-nil (take low a.digits) ∙ take_all low a.digits (omega (arith, filled.long, h))))
    ∙ in_own a filled)

pub under : (new a : LeafValue) (below : ℕ) → IsFilled a → IsFilled new → new.leaf.width - 1 ≤ below → a ≡ with_part (Some (negsuc below)) new a
under new a below filled full h =
    sym (ap (λ ds. in_leaf a.leaf ds)
    (ap (λ l. over_lowest a.digits l) (drop_all (suc below) new.digits (omega (arith, full.long, h))) ∙ over_none a.digits)
    ∙ in_own a filled)

pub put_up : (new a : LeafValue) (low count : ℕ) → IsFilled a → IsFilled new → low < a.leaf.width → count ≡ min new.leaf.width (a.leaf.width - low) → put_part_of a low (part_of new 0 count) ≡ with_part (Some (pos low)) new a
put_up new a low count filled full h is =
    ap (λ ds. in_leaf a.leaf (take low a.digits ++ ds))
    (ap (λ l. take count l ++ drop (low + count) a.digits) (drop_none new.digits)
    ∙ (ap (λ l. take count new.digits ++ l) (sym (drop-drop count low a.digits))
    ∙ sym (over_in (drop low a.digits) new.digits count (omega (arith, is, length-drop low a.digits, filled.long, full.long)))))

pub put_down : (new a : LeafValue) (below first count : ℕ) → IsFilled a → IsFilled new → first ≡ below + 1 → count ≡ min a.leaf.width (new.leaf.width - first) → put_part_of a 0 (part_of new first count) ≡ with_part (Some (negsuc below)) new a
put_down new a below first count filled full at is =
    ap (λ k. put_part_of a 0 (part_of new k count)) (one_more first below at)
    ∙ ap (λ ds. in_leaf a.leaf ds)
    (ap (λ l. l ++ (take count (drop (suc below) new.digits) ++ drop (0 + count) a.digits)) (take_none a.digits)
    ∙ (ap (λ n. take count (drop (suc below) new.digits) ++ drop n a.digits) (zero_more count)
    ∙ sym (over_in a.digits (drop (suc below) new.digits) count (omega (arith, at, is, length-drop (suc below) new.digits, filled.long, full.long)))))
