-- Classes by number, and assignments that go to the lists of their nets.
use Rattle.std.proofs.Common.{◌≡◌, ℕ, ◌+◌, ◌<◌, Bool, true, false, cond, eqb, List, [], ◌∷◌, ◌++◌, length, get_or, set, map, replicate, refl, sym, ap, ◌∙◌, subst, arith, inl, inr, Some, None}
use Rattle.std.proofs.Common.{length-set, get_or-set_other}
use Rattle.std.specs.Prelude.{Vec, vec_len}
use Rattle.std.specs.List.{filter, range_with_len}
use Rattle.std.specs.declared.alloc.Global.{Global}
use Rattle.std.proofs.lemmas.Bool.{cases_eq, eq-eqb, ne_eqb}
use Rattle.std.proofs.lemmas.Grind.{get_or-set_at}
use Rattle.std.proofs.lemmas.List.{append-nil, map-id, length_push, get_or_push, get_or_append_left, get_or-map, length-map, ext_get_or, get_or-replicate, length-replicate}
use Rattle.std.proofs.lemmas.List.FromFn.{map-range_with_len_more}
use Rattle.std.proofs.lemmas.List.Elements.{filter-append}
use Rattle.nt_merge.specs.declared.drivers.DriverFault.{DriverFault}
use Rattle.nt_merge.specs.declared.drivers.DriverFault.TheVariants as fault
use Rattle.nt_merge.specs.Drivers.{class_of, drivers_within, leaders_within, drivers_by_class, earlier_drivers, IsFault, second, too_many, NoFault, FaultOf}
use Rattle.nt_merge.specs.Numbers.{IsNumbering, Judged, contents}

range_more : (n : ℕ) → range_with_len 0 (n + 1) ≡ range_with_len 0 n ++ n ∷ []
range_more n = sym (map-id (range_with_len 0 (n + 1))) ∙ map-range_with_len_more (λ (x : ℕ). x) 0 n n (omega arith) ∙ ap (λ l. l ++ n ∷ []) (map-id (range_with_len 0 n))

kept_more : (p : ℕ → Bool) (n : ℕ) → filter p (range_with_len 0 (n + 1)) ≡ filter p (range_with_len 0 n) ++ cond (p n) (n ∷ []) []
kept_more p n = ap (filter p) (range_more n) ∙ filter-append p (range_with_len 0 n) (n ∷ [])

pub more_yes : (p : ℕ → Bool) (n : ℕ) → p n ≡ true → filter p (range_with_len 0 (n + 1)) ≡ filter p (range_with_len 0 n) ++ n ∷ []
more_yes p n e = kept_more p n ∙ ap (λ b. filter p (range_with_len 0 n) ++ cond b (n ∷ []) []) e

pub more_no : (p : ℕ → Bool) (n : ℕ) → p n ≡ false → filter p (range_with_len 0 (n + 1)) ≡ filter p (range_with_len 0 n)
more_no p n e = kept_more p n ∙ ap (λ b. filter p (range_with_len 0 n) ++ cond b (n ∷ []) []) e ∙ append-nil (filter p (range_with_len 0 n))

pub numbers_none : (least : List ℕ) → IsNumbering least 0 [] 0
numbers_none least = record {
  size = refl;
  many = refl;
  within = λ a lt. absurd (omega arith);
  leader = λ a lt. absurd (omega arith);
  low = λ k lt. absurd (omega arith);
  own = λ k lt. absurd (omega arith);
}

-- a segment that stands for itself is a class more
pub numbers_leader : {least : List ℕ} {n : ℕ} {numbers : List ℕ} {count : ℕ} → IsNumbering least n numbers count → get_or least n 0 ≡ n → IsNumbering least (n + 1) (numbers ++ count ∷ []) (count + 1)
numbers_leader {least = least} {n = n} {numbers = numbers} {count = count} h own =
    let ls = leaders_within least n in
    let e : leaders_within least (n + 1) ≡ ls ++ n ∷ [] = more_yes (λ segment. eqb (get_or least segment 0) segment) n (eq-eqb (get_or least n 0) n own) in
    let size = h.size in let long = h.many in
    let number_last : get_or (numbers ++ count ∷ []) n 0 ≡ count = get_or_push numbers count 0 n h.size in
    let number_old : (a : ℕ) → a < n → get_or (numbers ++ count ∷ []) a 0 ≡ get_or numbers a 0 = λ a lt. get_or_append_left numbers (count ∷ []) 0 a (omega arith) in
    let leader_last : get_or (leaders_within least (n + 1)) count 0 ≡ n = ap (λ l. get_or l count 0) e ∙ get_or_push ls n 0 count h.many in
    let leader_old : (k : ℕ) → k < count → get_or (leaders_within least (n + 1)) k 0 ≡ get_or ls k 0 = λ k lt. ap (λ l. get_or l k 0) e ∙ get_or_append_left ls (n ∷ []) 0 k (omega arith) in
    record {
      size = length_push numbers count ∙ ap (λ m. m + 1) h.size;
      many = ap length e ∙ length_push ls n ∙ ap (λ m. m + 1) h.many;
      within = λ a lt. elim (cases_eq a n) [
        | inl same ↦ let f : get_or (numbers ++ count ∷ []) a 0 ≡ count = ap (λ z. get_or (numbers ++ count ∷ []) z 0) same ∙ number_last in omega arith
        | inr ne ↦ let f = number_old a (omega arith) in let w = h.within a (omega arith) in omega arith
      ];
      leader = λ a lt. elim (cases_eq a n) [
        | inl same ↦ ap (λ z. get_or (leaders_within least (n + 1)) z 0) (ap (λ z. get_or (numbers ++ count ∷ []) z 0) same ∙ number_last) ∙ leader_last ∙ sym (ap (λ z. get_or least z 0) same ∙ own)
        | inr ne ↦ ap (λ z. get_or (leaders_within least (n + 1)) z 0) (number_old a (omega arith)) ∙ leader_old (get_or numbers a 0) (h.within a (omega arith)) ∙ h.leader a (omega arith)
      ];
      low = λ k lt. elim (cases_eq k count) [
        | inl same ↦ let f : get_or (leaders_within least (n + 1)) k 0 ≡ n = ap (λ z. get_or (leaders_within least (n + 1)) z 0) same ∙ leader_last in omega arith
        | inr ne ↦ let f = leader_old k (omega arith) in let w = h.low k (omega arith) in omega arith
      ];
      own = λ k lt. elim (cases_eq k count) [
        | inl same ↦ ap (λ z. get_or (numbers ++ count ∷ []) z 0) (ap (λ z. get_or (leaders_within least (n + 1)) z 0) same ∙ leader_last) ∙ number_last ∙ sym same
        | inr ne ↦ ap (λ z. get_or (numbers ++ count ∷ []) z 0) (leader_old k (omega arith)) ∙ number_old (get_or ls k 0) (h.low k (omega arith)) ∙ h.own k (omega arith)
      ];
    }

-- another one has the number of the segment that stands for it
pub numbers_other : {least : List ℕ} {n : ℕ} {numbers : List ℕ} {count : ℕ} → IsNumbering least n numbers count → get_or least n 0 < n → get_or least (get_or least n 0) 0 ≡ get_or least n 0
    → IsNumbering least (n + 1) (numbers ++ get_or numbers (get_or least n 0) 0 ∷ []) count
numbers_other {least = least} {n = n} {numbers = numbers} {count = count} h lower own =
    let ls = leaders_within least n in
    let up = get_or least n 0 in
    let number = get_or numbers up 0 in
    let e : leaders_within least (n + 1) ≡ ls = more_no (λ segment. eqb (get_or least segment 0) segment) n (ne_eqb up n (λ same. absurd (omega arith))) in
    let size = h.size in
    let number_last : get_or (numbers ++ number ∷ []) n 0 ≡ number = get_or_push numbers number 0 n h.size in
    let number_old : (a : ℕ) → a < n → get_or (numbers ++ number ∷ []) a 0 ≡ get_or numbers a 0 = λ a lt. get_or_append_left numbers (number ∷ []) 0 a (omega arith) in
    let leader_old : (k : ℕ) → get_or (leaders_within least (n + 1)) k 0 ≡ get_or ls k 0 = λ k. ap (λ l. get_or l k 0) e in
    record {
      size = length_push numbers number ∙ ap (λ m. m + 1) h.size;
      many = ap length e ∙ h.many;
      within = λ a lt. elim (cases_eq a n) [
        | inl same ↦ let f : get_or (numbers ++ number ∷ []) a 0 ≡ number = ap (λ z. get_or (numbers ++ number ∷ []) z 0) same ∙ number_last in let w = h.within up lower in omega arith
        | inr ne ↦ let f = number_old a (omega arith) in let w = h.within a (omega arith) in omega arith
      ];
      leader = λ a lt. elim (cases_eq a n) [
        | inl same ↦ leader_old (get_or (numbers ++ number ∷ []) a 0) ∙ ap (λ z. get_or ls z 0) (ap (λ z. get_or (numbers ++ number ∷ []) z 0) same ∙ number_last) ∙ h.leader up lower ∙ own ∙ sym (ap (λ z. get_or least z 0) same)
        | inr ne ↦ leader_old (get_or (numbers ++ number ∷ []) a 0) ∙ ap (λ z. get_or ls z 0) (number_old a (omega arith)) ∙ h.leader a (omega arith)
      ];
      low = λ k lt. let f = leader_old k in let w = h.low k lt in omega arith;
      own = λ k lt. ap (λ z. get_or (numbers ++ number ∷ []) z 0) (leader_old k) ∙ number_old (get_or ls k 0) (h.low k lt) ∙ h.own k lt;
    }

-- the first j assignments stand in the lists of their nets, and none of them has a fault
pub record Filled (least driven : List ℕ) (resolved : List Bool) (count j : ℕ) (lists : List (List ℕ)) : Type 0 where
  pub size : length lists ≡ count
  pub each : (k : ℕ) → k < count → get_or lists k [] ≡ drivers_within least driven j (get_or (leaders_within least (length least)) k 0)
  pub clean : (i : ℕ) (f : DriverFault) → i < j → IsFault least driven resolved i f → ⊥

pub filled_none : (least driven : List ℕ) (resolved : List Bool) (count : ℕ) (lists : List (List ℕ)) → lists ≡ replicate count [] → Filled least driven resolved count 0 lists
filled_none least driven resolved count lists e = record {
  size = ap length e ∙ length-replicate count [];
  each = λ k lt. ap (λ l. get_or l k []) e ∙ get_or-replicate count k [] [] lt;
  clean = λ i f lt x. absurd (omega arith);
}

-- the list of an assignment's net holds the earlier drivers of its class
pub seen_drivers : {least driven : List ℕ} {resolved : List Bool} {count j : ℕ} {lists : List (List ℕ)} (numbers : List ℕ) (net : ℕ) → Filled least driven resolved count j lists
    → IsNumbering least (length least) numbers count → get_or driven j 0 < length least → net ≡ get_or numbers (get_or driven j 0) 0
    → get_or lists net [] ≡ drivers_within least driven j (class_of least driven j)
seen_drivers {least = least} {driven = driven} {count = count} {j = j} {lists = lists} numbers net f h lt e =
    let segment = get_or driven j 0 in
    let w : get_or numbers segment 0 < count = h.within segment lt in
    ap (λ z. get_or lists z []) e ∙ f.each (get_or numbers segment 0) w ∙ ap (drivers_within least driven j) (h.leader segment lt)

pub filled_stop : {least driven : List ℕ} {resolved : List Bool} {count j : ℕ} {lists : List (List ℕ)} (n : ℕ) (f : DriverFault) → Filled least driven resolved count j lists → j < length driven
    → n ≡ earlier_drivers least driven j → Judged j n (get_or resolved (get_or driven j 0) false) (Some f) → FaultOf least driven resolved f
filled_stop {least = least} {driven = driven} {resolved = resolved} {j = j} n f h lt e judged = elim judged [
  | inl p ↦ subst (FaultOf least driven resolved) (sym p.2) (record { at = j; is = second j lt p.0 (sym e ∙ p.1); none_before = h.clean })
  | inr p ↦ subst (FaultOf least driven resolved) (sym p.1) (record { at = j; is = too_many j lt (sym e ∙ p.0); none_before = h.clean })
]

no_fault : {least driven : List ℕ} {resolved : List Bool} {j n : ℕ} {f : DriverFault} → n ≡ earlier_drivers least driven j → Judged j n (get_or resolved (get_or driven j 0) false) None → IsFault least driven resolved j f → ⊥
no_fault e judged (second _ lt single one) = judged.0 single (e ∙ one)
no_fault e judged (too_many _ lt many) = judged.1 (e ∙ many)

pub filled_more : {least driven : List ℕ} {resolved : List Bool} {count j : ℕ} {lists : List (List ℕ)} (numbers : List ℕ) (net n : ℕ) → Filled least driven resolved count j lists
    → IsNumbering least (length least) numbers count → get_or driven j 0 < length least → net ≡ get_or numbers (get_or driven j 0) 0
    → n ≡ earlier_drivers least driven j → Judged j n (get_or resolved (get_or driven j 0) false) None → Filled least driven resolved count (j + 1) (set lists net (get_or lists net [] ++ j ∷ []))
filled_more {least = least} {driven = driven} {resolved = resolved} {count = count} {j = j} {lists = lists} numbers net n f h lt e en judged =
    let segment = get_or driven j 0 in
    let class = class_of least driven j in
    let ls = leaders_within least (length least) in
    let now = set lists net (get_or lists net [] ++ j ∷ []) in
    let size = f.size in
    let w : get_or numbers segment 0 < count = h.within segment lt in
    let leader : get_or ls net 0 ≡ class = ap (λ z. get_or ls z 0) e ∙ h.leader segment lt in
    record {
      size = length-set lists net (get_or lists net [] ++ j ∷ []) ∙ f.size;
      each = λ k lk. elim (cases_eq k net) [
        | inl same ↦
            let is : get_or ls k 0 ≡ class = ap (λ z. get_or ls z 0) same ∙ leader in
            get_or-set_at lists net k (get_or lists net [] ++ j ∷ []) [] same (omega arith) ∙ ap (λ l. l ++ j ∷ []) (seen_drivers numbers net f h lt e)
            ∙ sym (ap (drivers_within least driven (j + 1)) is ∙ more_yes (λ at. eqb (class_of least driven at) class) j (eq-eqb class class refl))
        | inr ne ↦
            let other : class ≡ get_or ls k 0 → ⊥ = λ one. ne (sym (h.own k lk) ∙ ap (λ z. get_or numbers z 0) (sym one ∙ sym leader) ∙ h.own net (omega arith)) in
            get_or-set_other lists net k (get_or lists net [] ++ j ∷ []) [] ne ∙ f.each k lk
            ∙ sym (more_no (λ at. eqb (class_of least driven at) (get_or ls k 0)) j (ne_eqb class (get_or ls k 0) other))
      ];
      clean = λ i g li x. elim (cases_eq i j) [
        | inl same ↦ no_fault en judged (subst (λ z. IsFault least driven resolved z g) same x)
        | inr ne ↦ f.clean i g (omega arith) x
      ];
    }

pub filled_all : {least driven : List ℕ} {resolved : List Bool} {count j : ℕ} {lists : List (List ℕ)} {numbers : List ℕ} → Filled least driven resolved count j lists
    → IsNumbering least (length least) numbers count → j ≡ length driven → (lists ≡ drivers_by_class least driven) × NoFault least driven resolved
filled_all {least = least} {driven = driven} {resolved = resolved} {count = count} {j = j} {lists = lists} f h end =
    let ls = leaders_within least (length least) in
    let of = drivers_within least driven (length driven) in
    let size = f.size in let long = h.many in (
      ext_get_or [] lists (map of ls) (f.size ∙ sym (length-map ls of ∙ h.many))
          (λ k lk. f.each k (omega arith) ∙ ap (λ z. drivers_within least driven z (get_or ls k 0)) end ∙ sym (get_or-map of ls k 0 [] (omega arith))),
      none,
    )
  where
    none : NoFault least driven resolved
    none at g (second _ lt single one) = f.clean at (fault.Second at) (omega arith) (second at lt single one)
    none at g (too_many _ lt many) = f.clean at (fault.TooMany at) (omega arith) (too_many at lt many)

-- so many as the code counts
pub counted : {least driven : List ℕ} {resolved : List Bool} {count j : ℕ} (lists : List (Vec ℕ Global)) (read : Vec ℕ Global) (numbers : List ℕ) (net n : ℕ) → Filled least driven resolved count j (contents lists)
    → IsNumbering least (length least) numbers count → get_or driven j 0 < length least → net ≡ get_or numbers (get_or driven j 0) 0 → n ≡ vec_len (get_or lists net read) → n ≡ earlier_drivers least driven j
counted {least = least} {driven = driven} {count = count} {j = j} lists read numbers net n f h lt e en =
    let items = λ (l : Vec ℕ Global). l.items in
    let size = f.size in
    let long : length (contents lists) ≡ length lists = length-map lists items in
    let w : get_or numbers (get_or driven j 0) 0 < count = h.within (get_or driven j 0) lt in
    let at : get_or (contents lists) net [] ≡ (get_or lists net read).items = get_or-map items lists net read [] (omega arith) in
    let many : length (get_or lists net read).items ≡ earlier_drivers least driven j = ap length (sym at ∙ seen_drivers numbers net f h lt e) in
    let ok = (get_or lists net read).ok.0 in
    omega (arith, en, many, ok)

pub how_many : (lists : List (Vec ℕ Global)) (count : ℕ) → contents lists ≡ replicate count [] → length lists ≡ count
how_many lists count e = sym (length-map lists (λ (l : Vec ℕ Global). l.items)) ∙ ap length e ∙ length-replicate count []

pub numbering_at : (least found numbers held : List ℕ) (count n : ℕ) → found ≡ least → held ≡ numbers → n ≡ count → IsNumbering found (length found) numbers count → IsNumbering least (length least) held n
numbering_at least found numbers held count n e f g h =
    subst (λ z. IsNumbering z (length z) held n) e (subst (λ z. IsNumbering found (length found) z n) (sym f) (subst (λ z. IsNumbering found (length found) numbers z) (sym g) h))
