-- Leaves of lists of types, one after the other; limits.
use Rattle.std.proofs.Common.{◌≡◌, ℕ, zero, suc, ◌+◌, ◌-◌, ◌*◌, ◌<◌, ◌≤◌, inl, inr, List, [], ◌∷◌, ◌++◌, map, length, take, drop, get_or, replicate, min, refl, ap, sym, ◌∙◌, arith, add-one, length-append, drop-cons}
use Rattle.std.specs.Prelude.{slice_get, max}
use Rattle.std.specs.List.{flat_map}
use Rattle.std.proofs.Math.Seq.{take-suc}
use Rattle.std.proofs.Math.Nat.{mul-le-mul_left}
use Rattle.std.proofs.lemmas.Bool.{cases_lt}
use Rattle.std.proofs.lemmas.Grind.{flat_map-append}
use Rattle.nt_value.specs.declared.leaf.Leaf.{Leaf}
use Rattle.nt_kinds.specs.declared.kind.Kind.{Kind}
use Rattle.nt_kinds.specs.declared.kind.Kind.TheVariants as k
use Rattle.nt_kinds.proofs.Opening.{leaves_array}
use Rattle.nt_kinds.specs.Kinds.{span, leaves, member_leaves, levels, greatest, deepest}

pub append_none : {A : Type 0} (xs : List A) → xs ++ [] ≡ xs
append_none [] = refl
append_none (x ∷ xs) = ap (λ ys. x ∷ ys) (append_none xs)

pub take_more : {A : Type 0} (xs : List A) (i : ℕ) (x : A) → i < length xs → x ≡ get_or xs i x → take (i + 1) xs ≡ take i xs ++ x ∷ []
take_more xs i x lt at = ap (λ n. take n xs) (add-one i) ∙ take-suc xs i x lt ∙ ap (λ y. take i xs ++ y ∷ []) (sym at)

pub drop_more : {A : Type 0} (xs : List A) (i : ℕ) (x : A) → i < length xs → x ≡ get_or xs i x → drop i xs ≡ x ∷ drop (i + 1) xs
drop_more xs i x lt at = drop-cons xs i x lt ∙ ap (λ y. y ∷ drop (suc i) xs) (sym at) ∙ ap (λ n. x ∷ drop n xs) (sym (add-one i))

-- ---- how many leaves
pub members_more : (ms : List (List ℕ × Kind)) (i : ℕ) (m : List ℕ × Kind) → i < length ms → m ≡ get_or ms i m → member_leaves (take (i + 1) ms) ≡ member_leaves (take i ms) ++ leaves m.1
members_more ms i m lt at =
    ap member_leaves (take_more ms i m lt at) ∙ flat_map-append (λ (m : List ℕ × Kind). leaves m.1) (take i ms) (m ∷ []) ∙ ap (λ ys. member_leaves (take i ms) ++ ys) (append_none (leaves m.1))

pub size_turn : (ms : List (List ℕ × Kind)) (i : ℕ) (m : List ℕ × Kind) (a b : ℕ) → i < length ms → m ≡ get_or ms i m
    → a ≡ min (length (member_leaves (take i ms))) 65 → b ≡ min (length (leaves m.1)) 65
    → min (a + b) 65 ≡ min (length (member_leaves (take (i + 1) ms))) 65
size_turn ms i m a b lt at e f =
    let g = ap length (members_more ms i m lt at) ∙ length-append (member_leaves (take i ms)) (leaves m.1) in
    omega (arith, e, f, g)

times_more : (n m : ℕ) → m + n * m ≡ suc n * m
times_more n m = grind arith

pub repeated_length : (n : ℕ) (s : List Leaf) → length (flat_map (λ s. s) (replicate n s)) ≡ n * length s
repeated_length zero s = omega arith
repeated_length (suc n) s =
    let e = length-append s (flat_map (λ s. s) (replicate n s)) in let f = repeated_length n s in
    e ∙ (ap (λ m. length s + m) f ∙ times_more n (length s))

capped_small : (n m : ℕ) → m ≤ 65 → min (n * min m 65) 65 ≡ min (n * m) 65
capped_small n m le = let e : min m 65 ≡ m = omega arith in ap (λ k. min (n * k) 65) e

capped_large : (n m : ℕ) → 1 ≤ n → 65 ≤ m → min (n * min m 65) 65 ≡ min (n * m) 65
capped_large n m le ge =
    let e : min m 65 ≡ 65 = omega arith in
    let f : n * 65 ≤ n * m = mul-le-mul_left n ge in
    let g : min (n * 65) 65 ≡ min (n * m) 65 = omega (arith, f) in
    ap (λ k. min (n * k) 65) e ∙ g

pub capped : (n m : ℕ) → 1 ≤ n → min (n * min m 65) 65 ≡ min (n * m) 65
capped n m le = elim (cases_lt m 65) [
  | inl lt ↦ capped_small n m (omega arith)
  | inr ge ↦ capped_large n m le ge
]

pub array_size : (n : ℕ) (s : List Leaf) (b : ℕ) → 1 ≤ n → b ≡ min (length s) 65 → min (n * b) 65 ≡ min (length (flat_map (λ s. s) (replicate n s))) 65
array_size n s b le e = ap (λ k. min (n * k) 65) e ∙ capped n (length s) le ∙ ap (λ k. min k 65) (sym (repeated_length n s))

-- ---- how deep
greatest_append : (xs ys : List ℕ) → greatest (xs ++ ys) ≡ max (greatest xs) (greatest ys)
greatest_append [] ys = omega arith
greatest_append (x ∷ xs) ys = let e = greatest_append xs ys in omega (arith, e)

map_append : {A B : Type 0} (f : A → B) (xs ys : List A) → map f (xs ++ ys) ≡ map f xs ++ map f ys
map_append f [] ys = refl
map_append f (x ∷ xs) ys = ap (λ zs. f x ∷ zs) (map_append f xs ys)

pub depth_turn : (ms : List (List ℕ × Kind)) (i : ℕ) (m : List ℕ × Kind) (a b : ℕ) → i < length ms → m ≡ get_or ms i m
    → a ≡ min (deepest (take i ms)) 65 → b ≡ min (levels m.1) 65
    → max a b ≡ min (deepest (take (i + 1) ms)) 65
depth_turn ms i m a b lt at e f =
    let g = ap deepest (take_more ms i m lt at) ∙ ap greatest (map_append (λ (m : List ℕ × Kind). levels m.1) (take i ms) (m ∷ [])) ∙ greatest_append (map (λ (m : List ℕ × Kind). levels m.1) (take i ms)) (levels m.1 ∷ []) in
    omega (arith, e, f, g)

-- ---- one leaf
pub get_left : {A : Type 0} (xs ys : List A) (i : ℕ) → i < length xs → slice_get (xs ++ ys) i ≡ slice_get xs i
get_left [] ys i lt = absurd (omega arith)
get_left (x ∷ xs) ys zero lt = refl
get_left (x ∷ xs) ys (suc i) lt = get_left xs ys i (omega arith)

pub get_right : {A : Type 0} (xs ys : List A) (i : ℕ) → length xs ≤ i → slice_get (xs ++ ys) i ≡ slice_get ys (i - length xs)
get_right [] ys i le = let e : i ≡ i - 0 = omega arith in ap (slice_get ys) e
get_right (x ∷ xs) ys zero le = absurd (omega arith)
get_right (x ∷ xs) ys (suc i) le = let e : i - length xs ≡ suc i - suc (length xs) = omega arith in get_right xs ys i (omega arith) ∙ ap (slice_get ys) e

pub none_repeated : (n : ℕ) (s : List Leaf) → length s ≡ 0 → flat_map (λ s. s) (replicate n s) ≡ []
none_repeated zero s e = refl
none_repeated (suc n) [] e = none_repeated n [] e
none_repeated (suc n) (x ∷ s) e = absurd (omega (arith, e))

pub no_leaf : (x : Kind) (a b : ℕ) (e y : Kind) (h : ℕ) → x ≡ k.Array a b e → y ≡ e → h ≡ min (length (leaves y)) 65 → h ≡ 0 → leaves x ≡ []
no_leaf x a b e y h is same size none =
    let l : length (leaves e) ≡ 0 = omega (arith, size, none, ap (λ z. length (leaves z)) same) in
    ap leaves is ∙ leaves_array a b e ∙ none_repeated (span a b) (leaves e) l

pub first_here : (xs ys : List Leaf) (i h : ℕ) → h ≡ min (length xs) 65 → i < h → slice_get (xs ++ ys) i ≡ slice_get xs i
first_here xs ys i h e lt = get_left xs ys i (omega (arith, e))

pub past_here : (xs ys : List Leaf) (i h : ℕ) → h ≡ min (length xs) 65 → h ≤ i → i < 64 → slice_get (xs ++ ys) i ≡ slice_get ys (i - h)
past_here xs ys i h e le lt = let f : length xs ≡ h = omega (arith, e) in get_right xs ys i (omega (arith, f)) ∙ ap (λ n. slice_get ys (i - n)) f

less_one : (n i : ℕ) → i < n → n - i ≡ suc (n - (i + 1))
less_one n i lt = omega arith

-- an array's elements from one on
pub elements_more : (n i : ℕ) (s : List Leaf) → i < n → flat_map (λ s. s) (replicate (n - i) s) ≡ s ++ flat_map (λ s. s) (replicate (n - (i + 1)) s)
elements_more n i s lt = ap (λ k. flat_map (λ s. s) (replicate k s)) (less_one n i lt)

-- members from one on
pub rest_of_members : (ms : List (List ℕ × Kind)) (i : ℕ) (m : List ℕ × Kind) → i < length ms → m ≡ get_or ms i m → member_leaves (drop i ms) ≡ leaves m.1 ++ member_leaves (drop (i + 1) ms)
rest_of_members ms i m lt at = ap member_leaves (drop_more ms i m lt at)
