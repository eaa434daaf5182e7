-- Laws of operators that leave digits as they were.
use Rattle.std.proofs.Common.{◌≡◌, ℕ, zero, suc, ◌+◌, ◌≤◌, List, [], ◌∷◌, ◌++◌, length, take, drop, map, Bool, true, false, ◌&&◌, refl, sym, ap, ◌∙◌, subst, arith}
use Rattle.std.specs.Prelude.{if◌then◌else◌}
use Rattle.std.proofs.lemmas.Bool.{false≢true, true≢false}
use Rattle.nt_value.specs.Arithmetic.{padded, fill_of}
use Rattle.nt_value.specs.Digits.{LeafValue, IsFilled, is_known, all_known}
use Rattle.nt_value.specs.Laws.{XnorIsNotXor, ResizeReturns, PartsOfConcat}
use Rattle.nt_value.specs.Logic.{not_digit, pairwise, xor_digit, xnor_digit}
use Rattle.nt_value.specs.Operators.{in_leaf, two_state, resize_of, unary_of, binary_of}
use Rattle.nt_value.specs.declared.operator.Binary.TheVariants.{Xor, Xnor}
use Rattle.nt_value.specs.declared.operator.Unary.TheVariants.{Not}
use Rattle.nt_value.specs.declared.digit.Digit.{Digit}
use Rattle.nt_value.specs.declared.digit.Digit.TheVariants.{Zero, One, X, Z}
use Rattle.nt_value.specs.declared.leaf.Leaf.{Leaf}

-- ---- known digits in two states
known_left : (a b : Bool) → a && b ≡ true → a ≡ true
known_left true b h = refl
known_left false b h = absurd (false≢true h)

known_right : (a b : Bool) → a && b ≡ true → b ≡ true
known_right true b h = h
known_right false b h = absurd (false≢true h)

known_digit : (d : Digit) → is_known d ≡ true → two_state d ≡ d
known_digit Zero h = refl
known_digit One h = refl
known_digit X h = absurd (false≢true h)
known_digit Z h = absurd (false≢true h)

pub known_digits : (ds : List Digit) → all_known ds ≡ true → map two_state ds ≡ ds
known_digits [] h = refl
known_digits (d ∷ ds) h =
    rw (known_digit d (known_left _ _ h)) (ap (λ (es : List Digit). d ∷ es) (known_digits ds (known_right _ _ h)))

known_xor : (a b : Digit) → is_known a ≡ true → is_known b ≡ true → is_known (xor_digit a b) ≡ true
known_xor Zero Zero h k = refl
known_xor Zero One h k = refl
known_xor One Zero h k = refl
known_xor One One h k = refl
known_xor Zero X h k = absurd (false≢true k)
known_xor Zero Z h k = absurd (false≢true k)
known_xor One X h k = absurd (false≢true k)
known_xor One Z h k = absurd (false≢true k)
known_xor X b h k = absurd (false≢true h)
known_xor Z b h k = absurd (false≢true h)

both_true : (a b : Bool) → a ≡ true → b ≡ true → a && b ≡ true
both_true true b h k = k
both_true false b h k = absurd (false≢true h)

known_pairs : (ds es : List Digit) → all_known ds ≡ true → all_known es ≡ true → all_known (pairwise xor_digit ds es) ≡ true
known_pairs [] es h k = refl
known_pairs (d ∷ ds) [] h k = refl
known_pairs (d ∷ ds) (e ∷ es) h k =
    both_true _ _ (known_xor d e (known_left _ _ h) (known_left _ _ k)) (known_pairs ds es (known_right _ _ h) (known_right _ _ k))

-- ---- `~^`
not_xor : (ds es : List Digit) → pairwise xnor_digit ds es ≡ map not_digit (pairwise xor_digit ds es)
not_xor [] es = refl
not_xor (d ∷ ds) [] = refl
not_xor (d ∷ ds) (e ∷ es) = ap (λ (ns : List Digit). not_digit (xor_digit d e) ∷ ns) (not_xor ds es)

xnor_digits : (t : Bool) (ds es : List Digit) → (t ≡ false → all_known ds ≡ true) → (t ≡ false → all_known es ≡ true) → (if t then pairwise xnor_digit ds es else map two_state (pairwise xnor_digit ds es)) ≡ (if t then map not_digit (if t then pairwise xor_digit ds es else map two_state (pairwise xor_digit ds es)) else map two_state (map not_digit (if t then pairwise xor_digit ds es else map two_state (pairwise xor_digit ds es))))
xnor_digits true ds es f g = not_xor ds es
xnor_digits false ds es f g =
    ap (map two_state) (not_xor ds es)
    ∙ ap (λ (ps : List Digit). map two_state (map not_digit ps)) (sym (known_digits (pairwise xor_digit ds es) (known_pairs ds es (f refl) (g refl))))

pub xnor_holds : XnorIsNotXor
xnor_holds a b p q e =
    ap (λ (ds : List Digit). let v : LeafValue = record { leaf = a.leaf; digits = ds } in v)
    (xnor_digits a.leaf.four a.digits b.digits p.two (λ t. q.two (ap (λ (l : Leaf). l.four) (sym e) ∙ t)))

-- ---- resizing
padded_back : (n m : ℕ) (f g : Digit) (ds : List Digit) → length ds ≡ n → n ≤ m → padded n f (padded m g ds) ≡ ds
padded_back zero m f g [] h k = refl
padded_back (suc n) m f g [] h k = absurd (omega arith)
padded_back zero m f g (d ∷ ds) h k = absurd (omega arith)
padded_back (suc n) zero f g (d ∷ ds) h k = absurd (omega arith)
padded_back (suc n) (suc m) f g (d ∷ ds) h k = ap (λ (es : List Digit). d ∷ es) (padded_back n m f g ds (omega arith) (omega arith))

padded_two : (n : ℕ) (g : Digit) (ds : List Digit) → map two_state (padded n g ds) ≡ padded n (two_state g) (map two_state ds)
padded_two zero g ds = refl
padded_two (suc n) g [] = ap (λ (es : List Digit). two_state g ∷ es) (padded_two n g [])
padded_two (suc n) g (d ∷ ds) = ap (λ (es : List Digit). two_state d ∷ es) (padded_two n g ds)

-- the digits at the wider leaf, and back
back_digits : (s t : Bool) (n m : ℕ) (g : Digit) (ds : List Digit) → length ds ≡ n → n ≤ m → (s ≡ false → all_known ds ≡ true) → (s ≡ true → t ≡ true) → (f : List Digit → Digit) → (let es : List Digit = if t then padded m g ds else map two_state (padded m g ds) in (if s then padded n (f es) es else map two_state (padded n (f es) es)) ≡ ds)
back_digits true true n m g ds h k p q f = padded_back n m (f (padded m g ds)) g ds h k
back_digits true false n m g ds h k p q f = absurd (true≢false (sym (q refl)))
back_digits false true n m g ds h k p q f =
    ap (map two_state) (padded_back n m (f (padded m g ds)) g ds h k) ∙ known_digits ds (p refl)
back_digits false false n m g ds h k p q f =
    let es = map two_state (padded m g ds) in
    let same : es ≡ padded m (two_state g) ds = padded_two m g ds ∙ ap (padded m (two_state g)) (known_digits ds (p refl)) in
    ap (λ (xs : List Digit). map two_state (padded n (f es) xs)) same
    ∙ ap (map two_state) (padded_back n m (f es) (two_state g) ds h k)
    ∙ known_digits ds (p refl)

pub resize_holds : ResizeReturns
resize_holds a to p h q =
    ap (λ (ds : List Digit). let v : LeafValue = record { leaf = a.leaf; digits = ds } in v)
    (back_digits a.leaf.four to.four a.leaf.width to.width (fill_of to.signed a.digits) a.digits p.long h p.two q (fill_of a.leaf.signed))

-- ---- concatenation
take_front : (ds es : List Digit) (n : ℕ) → length ds ≡ n → take n (ds ++ es) ≡ ds
take_front [] es zero h = refl
take_front [] es (suc n) h = absurd (omega arith)
take_front (d ∷ ds) es zero h = absurd (omega arith)
take_front (d ∷ ds) es (suc n) h = ap (λ (xs : List Digit). d ∷ xs) (take_front ds es n (omega arith))

drop_front : (ds es : List Digit) (n : ℕ) → length ds ≡ n → drop n (ds ++ es) ≡ es
drop_front [] es zero h = refl
drop_front [] es (suc n) h = absurd (omega arith)
drop_front (d ∷ ds) es zero h = absurd (omega arith)
drop_front (d ∷ ds) es (suc n) h = drop_front ds es n (omega arith)

take_whole : (ds : List Digit) (n : ℕ) → length ds ≡ n → take n ds ≡ ds
take_whole [] zero h = refl
take_whole [] (suc n) h = absurd (omega arith)
take_whole (d ∷ ds) zero h = absurd (omega arith)
take_whole (d ∷ ds) (suc n) h = ap (λ (xs : List Digit). d ∷ xs) (take_whole ds n (omega arith))

pub concat_holds : PartsOfConcat
concat_holds =
    record {
      below = λ a b q. take_front b.digits a.digits b.leaf.width q.long;
      above = λ a b p q. ap (take a.leaf.width) (drop_front b.digits a.digits b.leaf.width q.long) ∙ take_whole a.digits a.leaf.width p.long;
    }
