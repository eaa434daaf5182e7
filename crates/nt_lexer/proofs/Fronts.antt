-- Fronts of a text: runs, marks and based literals, each the longest of its shape.
use Rattle.std.proofs.Common.{◌≡◌, ◌⊎◌, ℕ, zero, suc, ◌+◌, ◌<◌, ◌≤◌, Bool, true, false, not, cond, ◌&&◌, ◌||◌, nat_lt, nat_eq, if◌then◌else◌, List, [], ◌∷◌, ◌++◌, length, take, Option, Some, None, inl, inr, refl, sym, ap, subst, ◌∙◌, arith, length-take}
use Rattle.std.specs.Prelude.{slice_get, ◌==◌}
use Rattle.std.specs.List.{list_all, prefix_len, starts_with}
use Rattle.std.proofs.lemmas.Bool.{eq-eqb, eqb-true, ltb-true, or_cases}
use Rattle.std.proofs.lemmas.List.{length-take-le}
use Rattle.std.proofs.lemmas.List.Sums.{prefix_len-le-length}
use lib.Pointwise.{pointwise}
use Rattle.nt_lexer.specs.declared.kinds.Based.{Based}
use Rattle.nt_lexer.specs.declared.kinds.Mark.{Mark}
use Rattle.nt_lexer.specs.declared.kinds.Radix.{Radix}
use Rattle.nt_lexer.specs.Bytes.{Bytes}
use Rattle.nt_lexer.specs.Numbers.{radix_of, is_radix_digit, is_lone, is_underscore, goes_on, digits_len, based_by, with_radix, based_front}
use Rattle.nt_lexer.specs.Pieces.{first_mark}
use Rattle.nt_lexer.specs.Lexemes.{IsDigits, IsTail, AfterSign, IsUnsized}

pub and_both : (a b : Bool) → (a && b) ≡ true → (a ≡ true) × (b ≡ true)
and_both true b e = (refl, e)
and_both false b e = absurd cc

pub and_of : (a b : Bool) → a ≡ true → b ≡ true → (a && b) ≡ true
and_of a b e f = rw (e, f) refl

pub or_false : (a b : Bool) → (a || b) ≡ false → (a ≡ false) × (b ≡ false)
or_false true b e = absurd cc
or_false false b e = (refl, e)

pub if_cases : {A : Type 0} (b : Bool) (x y z : A) → (if b then x else y) ≡ z → ((b ≡ true) × (x ≡ z)) ⊎ ((b ≡ false) × (y ≡ z))
if_cases true x y z e = inl (refl, e)
if_cases false x y z e = inr (refl, e)

pub some_is : {A : Type 0} (x y : A) → (let a : Option A = Some x in let b : Option A = Some y in a ≡ b) → x ≡ y
some_is x y e = cc

-- ---- runs

run_step : (p : ℕ → Bool) (b : ℕ) (bs : Bytes) (t : Bool) → p b ≡ t → list_all p (take (prefix_len p bs) bs) ≡ true
    → list_all p (take (cond t (1 + prefix_len p bs) 0) (b ∷ bs)) ≡ true
run_step p b bs true e i =
    let one : 1 + prefix_len p bs ≡ suc (prefix_len p bs) = omega arith in
    ap (λ n. list_all p (take n (b ∷ bs))) one ∙ and_of (p b) (list_all p (take (prefix_len p bs) bs)) e i
run_step p b bs false e i = refl

pub run_take : (p : ℕ → Bool) (bs : Bytes) → list_all p (take (prefix_len p bs) bs) ≡ true
run_take p [] = refl
run_take p (b ∷ bs) = run_step p b bs (p b) refl (run_take p bs)

pub run_most : (p : ℕ → Bool) (bs : Bytes) (m : ℕ) → m ≤ length bs → list_all p (take m bs) ≡ true → m ≤ prefix_len p bs
run_most p [] m le e = omega arith
run_most p (b ∷ bs) zero le e = omega arith
run_most p (b ∷ bs) (suc m) le e =
    let both = and_both (p b) (list_all p (take m bs)) e in
    let i : m ≤ prefix_len p bs = run_most p bs m (omega arith) both.1 in
    rw both.0 (omega arith)

-- a run that a byte ends, which does not go on with it
pub run_ends : (p : ℕ → Bool) (xs : Bytes) (b : ℕ) (ys : Bytes) → list_all p xs ≡ true → p b ≡ false → prefix_len p (xs ++ b ∷ ys) ≡ length xs
run_ends p [] b ys all e = rw e refl
run_ends p (x ∷ xs) b ys all e =
    let both = and_both (p x) (list_all p xs) all in
    let i : prefix_len p (xs ++ b ∷ ys) ≡ length xs = run_ends p xs b ys both.1 e in
    rw both.0 (omega (arith, i))

-- ---- the table of marks

abbrev pub Table : Type 0
Table = List (Bytes × Mark)

abbrev pub starts : Bytes → Bytes → Bool
starts text sp = starts_with nat_eq text sp

points : (a b : Bytes) → pointwise nat_eq a b ≡ true → a ≡ b
points [] [] e = refl
points [] (y ∷ ys) e = absurd cc
points (x ∷ xs) [] e = absurd cc
points (x ∷ xs) (y ∷ ys) e = let both = and_both (nat_eq x y) (pointwise nat_eq xs ys) e in ap (λ z. z ∷ xs) (eqb-true x y both.0) ∙ ap (λ zs. y ∷ zs) (points xs ys both.1)

starts_is : (text sp : Bytes) → starts text sp ≡ true → sp ≡ take (length sp) text
starts_is text sp e = points sp (take (length sp) text) e

self : (sp : Bytes) → pointwise nat_eq sp sp ≡ true
self [] = refl
self (x ∷ xs) = and_of (nat_eq x x) (pointwise nat_eq xs xs) (eq-eqb x x refl) (self xs)

pub starts_at : (text : Bytes) (m : ℕ) → m ≤ length text → starts text (take m text) ≡ true
starts_at text m le = ap (λ n. pointwise nat_eq (take m text) (take n text)) (length-take-le m text le) ∙ self (take m text)

-- two spellings that begin with unlike bytes
abbrev apart : Bytes → Bytes → Bool
apart [] b = false
apart (x ∷ xs) [] = false
apart (x ∷ xs) (y ∷ ys) = not (nat_eq x y)

not_both : (text a b : Bytes) → starts text a ≡ true → starts text b ≡ true → apart a b ≡ true → ⊥
not_both text [] b e f g = absurd cc
not_both text (x ∷ xs) [] e f g = absurd cc
not_both [] (x ∷ xs) (y ∷ ys) e f g = absurd cc
not_both (t ∷ ts) (x ∷ xs) (y ∷ ys) e f g =
    let one : x ≡ t = eqb-true x t (and_both (nat_eq x t) (pointwise nat_eq xs (take (length xs) ts)) e).0 in
    let two : y ≡ t = eqb-true y t (and_both (nat_eq y t) (pointwise nat_eq ys (take (length ys) ts)) f).0 in
    let same : nat_eq x y ≡ true = eq-eqb x y (one ∙ sym two) in
    let bad = sym g ∙ ap not same in cc

-- each later spelling is no longer, or begins with another byte
abbrev no_longer : Bytes → Table → Bool
no_longer sp table = list_all (λ e. nat_lt (length e.0) (suc (length sp)) || apart sp e.0) table

abbrev pub ordered : Table → Bool
ordered [] = true
ordered (e ∷ es) = no_longer e.0 es && ordered es

-- what each entry passes, an entry passes
pub entry_passes : (test : Bytes × Mark → Bool) (table : Table) (j : ℕ) (e : Bytes × Mark) → list_all test table ≡ true → slice_get table j ≡ Some e → test e ≡ true
entry_passes test [] j e all is = absurd cc
entry_passes test (x ∷ xs) zero e all is = let same : x ≡ e = cc in ap test (sym same) ∙ (and_both (test x) (list_all test xs) all).0
entry_passes test (x ∷ xs) (suc j) e all is = entry_passes test xs j e (and_both (test x) (list_all test xs) all).1 is

-- the mark that is found first
pub record FoundMark (table : Table) (text : Bytes) (n : ℕ) : Type 0 where
  pub place : ℕ
  pub mark : Mark
  pub spelling : Bytes
  pub is : slice_get table place ≡ Some (spelling, mark)
  pub len : n ≡ length spelling
  pub begins : starts text spelling ≡ true
  pub most : (j : ℕ) (sp : Bytes) (m : Mark) → slice_get table j ≡ Some (sp, m) → starts text sp ≡ true → length sp ≤ n

here_most : (x : Bytes × Mark) (xs : Table) (text : Bytes) → no_longer x.0 xs ≡ true → starts text x.0 ≡ true
    → (j : ℕ) (sp : Bytes) (m : Mark) → slice_get (x ∷ xs) j ≡ Some (sp, m) → starts text sp ≡ true → length sp ≤ length x.0
here_most x xs text ok begins zero sp m is b = let same : x ≡ (sp, m) = some_is x (sp, m) is in omega (arith, ap (λ q. length q.0) same)
here_most x xs text ok begins (suc j) sp m is b =
    elim (or_cases (nat_lt (length sp) (suc (length x.0))) (apart x.0 sp) (entry_passes (λ e. nat_lt (length e.0) (suc (length x.0)) || apart x.0 e.0) xs j (sp, m) ok is)) [
      | inl t ↦ omega (arith, ltb-true (length sp) (suc (length x.0)) t)
      | inr t ↦ absurd (not_both text x.0 sp begins b t)
    ]

later_most : (x : Bytes × Mark) (xs : Table) (text : Bytes) (n : ℕ) → starts text x.0 ≡ false
    → ((j : ℕ) (sp : Bytes) (m : Mark) → slice_get xs j ≡ Some (sp, m) → starts text sp ≡ true → length sp ≤ n)
    → (j : ℕ) (sp : Bytes) (m : Mark) → slice_get (x ∷ xs) j ≡ Some (sp, m) → starts text sp ≡ true → length sp ≤ n
later_most x xs text n a i zero sp m is b =
    let same : x ≡ (sp, m) = some_is x (sp, m) is in
    let yes' : starts text x.0 ≡ true = ap (λ q. starts text q.0) same ∙ b in
    absurd (let bad = sym a ∙ yes' in cc)
later_most x xs text n a i (suc j) sp m is b = i j sp m is b

pub first_found : (table : Table) (text : Bytes) (found : Mark × ℕ) → ordered table ≡ true → first_mark table text ≡ Some found → FoundMark table text found.1
first_found [] text found ok e = absurd cc
first_found (x ∷ xs) text found ok e =
    elim (if_cases (starts text x.0) (Some (x.1, length x.0)) (first_mark xs text) (Some found) e) [
      | inl h ↦
          let q : (x.1, length x.0) ≡ found = some_is (x.1, length x.0) found h.1 in
          let len : length x.0 ≡ found.1 = ap (λ z. z.1) q in
          record {
            place = 0;
            mark = x.1;
            spelling = x.0;
            is = refl;
            len = sym len;
            begins = h.0;
            most = λ j sp m is b. omega (arith, len, here_most x xs text (and_both (no_longer x.0 xs) (ordered xs) ok).0 h.0 j sp m is b);
          }
      | inr h ↦
          let i = first_found xs text found (and_both (no_longer x.0 xs) (ordered xs) ok).1 h.1 in
          record {
            place = suc i.place;
            mark = i.mark;
            spelling = i.spelling;
            is = i.is;
            len = i.len;
            begins = i.begins;
            most = later_most x xs text found.1 h.0 i.most;
          }
    ]

pub found_is : (table : Table) (text : Bytes) (n : ℕ) (f : FoundMark table text n) → (n ≤ length text) × (slice_get table f.place ≡ Some (take n text, f.mark))
found_is table text n f =
    let is : f.spelling ≡ take n text = starts_is text f.spelling f.begins ∙ ap (λ k. take k text) (sym f.len) in
    (omega (arith, length-take n text, ap length is, f.len), f.is ∙ ap (λ t. Some (t, f.mark)) is)

pub first_none : (table : Table) (text : Bytes) (j : ℕ) (sp : Bytes) (m : Mark) → first_mark table text ≡ None → slice_get table j ≡ Some (sp, m) → starts text sp ≡ true → ⊥
first_none [] text j sp m e is a = cc
first_none (x ∷ xs) text zero sp m e is a =
    elim (if_cases (starts text x.0) (Some (x.1, length x.0)) (first_mark xs text) None e) [
      | inl h ↦ let bad = h.1 in cc
      | inr h ↦ let same : x ≡ (sp, m) = some_is x (sp, m) is in let yes' : starts text x.0 ≡ true = ap (λ q. starts text q.0) same ∙ a in let bad = sym h.0 ∙ yes' in cc
    ]
first_none (x ∷ xs) text (suc j) sp m e is a =
    elim (if_cases (starts text x.0) (Some (x.1, length x.0)) (first_mark xs text) None e) [
      | inl h ↦ let bad = h.1 in cc
      | inr h ↦ first_none xs text j sp m h.1 is a
    ]

-- ---- based literals

pub record DigitsLaw (radix : Radix) (ds : Bytes) (n : ℕ) : Type 0 where
  pub fits : n ≤ length ds
  pub is : 0 < n → IsDigits radix (take n ds)
  pub most : (m : ℕ) → m ≤ length ds → IsDigits radix (take m ds) → m ≤ n

or_true : (t : Bool) → (t || true) ≡ true
or_true true = refl
or_true false = refl

-- `_` goes on with the digits of each radix
under_goes : (radix : Radix) (xs : Bytes) → list_all is_underscore xs ≡ true → list_all (goes_on radix) xs ≡ true
unfolding goes_on
under_goes radix [] e = refl
under_goes radix (b ∷ bs) e =
    let p = and_both (is_underscore b) (list_all is_underscore bs) e in
    let one : (is_radix_digit radix b || (b == 95)) ≡ true = ap (λ t. is_radix_digit radix b || t) p.0 ∙ or_true (is_radix_digit radix b) in
    ap (λ t. t && list_all (goes_on radix) bs) one ∙ under_goes radix bs p.1

digits_by : (radix : Radix) (d : ℕ) (ds : Bytes) (t l : Bool) → is_radix_digit radix d ≡ t → is_lone radix d ≡ l
    → DigitsLaw radix (d ∷ ds) (if t then 1 + prefix_len (goes_on radix) ds else if l then 1 + prefix_len is_underscore ds else 0)
digits_by radix d ds true l e f =
    let one : 1 + prefix_len (goes_on radix) ds ≡ suc (prefix_len (goes_on radix) ds) = omega arith in
    record {
      fits = omega (arith, prefix_len-le-length (goes_on radix) ds);
      is = λ lt. subst (λ n. IsDigits radix (take n (d ∷ ds))) (sym one) (inl (e, run_take (goes_on radix) ds));
      most = λ m le x. by m le x;
    }
  where
    by : (m : ℕ) → m ≤ length (d ∷ ds) → IsDigits radix (take m (d ∷ ds)) → m ≤ 1 + prefix_len (goes_on radix) ds
    by zero le x = absurd x
    by (suc j) le (inl x) = omega (arith, run_most (goes_on radix) ds j (omega (arith, le)) x.1)
    by (suc j) le (inr x) = omega (arith, run_most (goes_on radix) ds j (omega (arith, le)) (under_goes radix (take j ds) x.1))
digits_by radix d ds false true e f =
    let one : 1 + prefix_len is_underscore ds ≡ suc (prefix_len is_underscore ds) = omega arith in
    record {
      fits = omega (arith, prefix_len-le-length is_underscore ds);
      is = λ lt. subst (λ n. IsDigits radix (take n (d ∷ ds))) (sym one) (inr (f, run_take is_underscore ds));
      most = λ m le x. by m le x;
    }
  where
    by : (m : ℕ) → m ≤ length (d ∷ ds) → IsDigits radix (take m (d ∷ ds)) → m ≤ 1 + prefix_len is_underscore ds
    by zero le x = absurd x
    by (suc j) le (inl x) = absurd (let bad = sym e ∙ x.0 in cc)
    by (suc j) le (inr x) = omega (arith, run_most is_underscore ds j (omega (arith, le)) x.1)
digits_by radix d ds false false e f = record {
  fits = omega arith;
  is = λ lt. absurd (omega (arith, lt));
  most = λ m le x. by m le x;
}
  where
    by : (m : ℕ) → m ≤ length (d ∷ ds) → IsDigits radix (take m (d ∷ ds)) → m ≤ 0
    by zero le x = absurd x
    by (suc j) le (inl x) = absurd (let bad = sym e ∙ x.0 in cc)
    by (suc j) le (inr x) = absurd (let bad = sym f ∙ x.0 in cc)

digits_law : (radix : Radix) (ds : Bytes) → DigitsLaw radix ds (digits_len radix ds)
unfolding digits_len
digits_law radix [] = record { fits = omega arith; is = λ lt. absurd (omega (arith, lt)); most = λ m le x. omega (arith, le) }
digits_law radix (d ∷ ds) = digits_by radix d ds (is_radix_digit radix d) (is_lone radix d) refl refl

pub record TailLaw (text : Bytes) (before : ℕ) (q : Based) : Type 0 where
  pub before_is : q.before ≡ before + 1
  pub fits : 1 + q.len ≤ length text
  pub is : IsTail (take (1 + q.len) text)
  pub most : (m : ℕ) → m ≤ length text → IsTail (take m text) → m ≤ 1 + q.len

abbrev TailBy : Bytes → ℕ → Option Based → Type 0
TailBy text before (Some q) = TailLaw text before q
TailBy text before None = (m : ℕ) → m ≤ length text → IsTail (take m text) → ⊥

tail_by : (signed : Bool) (before b : ℕ) (bs : Bytes) (o : Option Radix) → radix_of b ≡ o → TailBy (b ∷ bs) before (based_by signed (before + 1) bs o)
tail_by signed before b bs None e = none
  where
    none : (m : ℕ) → m ≤ length (b ∷ bs) → IsTail (take m (b ∷ bs)) → ⊥
    none zero le x = x
    none (suc j) le x = let bad = sym e ∙ x.1 in cc
tail_by signed before b bs (Some radix) e = by (digits_len radix bs) (digits_len radix bs == 0) refl (digits_law radix bs)
  where
    same : (x : Radix) → radix_of b ≡ Some x → x ≡ radix
    same x f = some_is x radix (sym f ∙ e)

    most : (n : ℕ) → DigitsLaw radix bs n → (m : ℕ) → m ≤ length (b ∷ bs) → IsTail (take m (b ∷ bs)) → m ≤ 1 + n
    most n law zero le x = absurd x
    most n law (suc j) le x = omega (arith, law.most j (omega (arith, le)) (subst (λ k. IsDigits k (take j bs)) (same x.0 x.1) x.2))

    by : (n : ℕ) (t : Bool) → (n == 0) ≡ t → DigitsLaw radix bs n
        → TailBy (b ∷ bs) before (if t then None else Some (record { signed = signed; radix = radix; before = before + 1; len = n }))
    by n true f law = none
      where
        none : (m : ℕ) → m ≤ length (b ∷ bs) → IsTail (take m (b ∷ bs)) → ⊥
        none zero le x = x
        none (suc j) le x = nothing j (subst (λ k. IsDigits k (take j bs)) (same x.0 x.1) x.2) (omega (arith, most n law (suc j) le x, eqb-true n 0 f))
          where
            nothing : (j : ℕ) → IsDigits radix (take j bs) → j ≤ 0 → ⊥
            nothing zero y k = y
            nothing (suc i) y k = absurd (omega (arith, k))
    by n false f law =
        let one : 1 + n ≡ suc n = omega arith in
        let lt : 0 < n = some n f in
        record {
          before_is = refl;
          fits = omega (arith, law.fits);
          is = subst (λ k. IsTail (take k (b ∷ bs))) (sym one) (radix, e, law.is lt);
          most = most n law;
        }
      where
        some : (n : ℕ) → (n == 0) ≡ false → 0 < n
        some zero f = absurd cc
        some (suc n) f = omega arith

pub tail_law : (signed : Bool) (before : ℕ) (text : Bytes) → TailBy text before (with_radix signed before text)
unfolding with_radix
tail_law signed before [] = λ m le x. none m le x
  where
    none : (m : ℕ) → m ≤ 0 → IsTail (take m []) → ⊥
    none zero le x = x
    none (suc j) le x = absurd (omega (arith, le))
tail_law signed before (b ∷ bs) = tail_by signed before b bs (radix_of b) refl

pub record UnsizedLaw (text : Bytes) (q : Based) : Type 0 where
  pub long : 2 ≤ q.before + q.len
  pub fits : q.before + q.len ≤ length text
  pub is : IsUnsized (take (q.before + q.len) text)
  pub most : (m : ℕ) → m ≤ length text → IsUnsized (take m text) → m ≤ q.before + q.len

abbrev pub UnsizedBy : Bytes → Option Based → Type 0
UnsizedBy text (Some q) = UnsizedLaw text q
UnsizedBy text None = (m : ℕ) → m ≤ length text → IsUnsized (take m text) → ⊥

unsized_by : (a b : ℕ) (bs : Bytes) (t s : Bool) → (a == 39) ≡ t → (b == 115 || b == 83) ≡ s
    → UnsizedBy (a ∷ b ∷ bs) (if t then (if s then with_radix true 2 bs else with_radix false 1 (b ∷ bs)) else None)
unsized_by a b bs false s e f = none
  where
    none : (m : ℕ) → m ≤ length (a ∷ b ∷ bs) → IsUnsized (take m (a ∷ b ∷ bs)) → ⊥
    none zero le x = x
    none (suc zero) le x = x
    none (suc (suc j)) le x = let bad = sym e ∙ eq-eqb a 39 x.0 in cc
unsized_by a b bs true true e f = by (with_radix true 2 bs) (tail_law true 2 bs)
  where
    tail_of : (j : ℕ) (s : Bool) → s ≡ true → AfterSign s (take j bs) (b ∷ take j bs) → IsTail (take j bs)
    tail_of j true g x = x
    tail_of j false g x = absurd cc

    by : (o : Option Based) → TailBy bs 2 o → UnsizedBy (a ∷ b ∷ bs) o
    by None law = none
      where
        none : (m : ℕ) → m ≤ length (a ∷ b ∷ bs) → IsUnsized (take m (a ∷ b ∷ bs)) → ⊥
        none zero le x = x
        none (suc zero) le x = x
        none (suc (suc j)) le x = law j (omega (arith, le)) (tail_of j (b == 115 || b == 83) f x.1)
    by (Some q) law =
        let total : q.before + q.len ≡ suc (suc (1 + q.len)) = omega (arith, law.before_is) in
        record {
          long = omega (arith, total);
          fits = omega (arith, law.fits, total);
          is = subst (λ k. IsUnsized (take k (a ∷ b ∷ bs))) (sym total) (eqb-true a 39 e, subst (λ s. AfterSign s (take (1 + q.len) bs) (b ∷ take (1 + q.len) bs)) (sym f) law.is);
          most = most;
        }
      where
        most : (m : ℕ) → m ≤ length (a ∷ b ∷ bs) → IsUnsized (take m (a ∷ b ∷ bs)) → m ≤ q.before + q.len
        most zero le x = absurd x
        most (suc zero) le x = absurd x
        most (suc (suc j)) le x = omega (arith, law.before_is, law.most j (omega (arith, le)) (tail_of j (b == 115 || b == 83) f x.1))
unsized_by a b bs true false e f = by (with_radix false 1 (b ∷ bs)) (tail_law false 1 (b ∷ bs))
  where
    tail_of : (j : ℕ) (s : Bool) → s ≡ false → AfterSign s (take j bs) (b ∷ take j bs) → IsTail (b ∷ take j bs)
    tail_of j true g x = absurd cc
    tail_of j false g x = x

    by : (o : Option Based) → TailBy (b ∷ bs) 1 o → UnsizedBy (a ∷ b ∷ bs) o
    by None law = none
      where
        none : (m : ℕ) → m ≤ length (a ∷ b ∷ bs) → IsUnsized (take m (a ∷ b ∷ bs)) → ⊥
        none zero le x = x
        none (suc zero) le x = x
        none (suc (suc j)) le x = law (suc j) (omega (arith, le)) (tail_of j (b == 115 || b == 83) f x.1)
    by (Some q) law =
        let one : 1 + q.len ≡ suc q.len = omega arith in
        let total : q.before + q.len ≡ suc (suc q.len) = omega (arith, law.before_is) in
        record {
          long = omega (arith, total);
          fits = omega (arith, law.fits, total);
          is = subst (λ k. IsUnsized (take k (a ∷ b ∷ bs))) (sym total)
              (eqb-true a 39 e, subst (λ s. AfterSign s (take q.len bs) (b ∷ take q.len bs)) (sym f) (subst (λ k. IsTail (take k (b ∷ bs))) one law.is));
          most = most;
        }
      where
        most : (m : ℕ) → m ≤ length (a ∷ b ∷ bs) → IsUnsized (take m (a ∷ b ∷ bs)) → m ≤ q.before + q.len
        most zero le x = absurd x
        most (suc zero) le x = absurd x
        most (suc (suc j)) le x = omega (arith, law.before_is, law.most (suc j) (omega (arith, le)) (tail_of j (b == 115 || b == 83) f x.1))

pub unsized_law : (text : Bytes) → UnsizedBy text (based_front text)
unfolding based_front
unsized_law [] = λ m le x. none m le x
  where
    none : (m : ℕ) → m ≤ 0 → IsUnsized (take m []) → ⊥
    none zero le x = x
    none (suc j) le x = absurd (omega (arith, le))
unsized_law (a ∷ []) = λ m le x. none m le x
  where
    none : (m : ℕ) → m ≤ 1 → IsUnsized (take m (a ∷ [])) → ⊥
    none zero le x = x
    none (suc zero) le x = x
    none (suc (suc j)) le x = absurd (omega (arith, le))
unsized_law (a ∷ b ∷ bs) = unsized_by a b bs (a == 39) (b == 115 || b == 83) refl refl
