-- The loop that gives segments the names of their classes.
use Rattle.std.proofs.Common.{◌≡◌, ℕ, ◌+◌, ◌<◌, ◌≤◌, ◌⊎◌, min, max, List, length, get_or, take, refl, sym, ap, ◌∙◌, subst, arith, inl, inr}
use Rattle.std.specs.List.{All, Contains}
use Rattle.std.proofs.lemmas.Bool.{cases_eq, cases_lt, eq-eqb, ne_eqb}
use Rattle.std.proofs.lemmas.List.{take_all, ext_get_or}
use Rattle.std.proofs.lemmas.List.Elements.{All-more, All-get_or, All-from_get_or, All-contains, Contains-get_or}
use Rattle.nt_merge.specs.declared.segments.Link.{Link}
use Rattle.nt_merge.specs.Classes.{Joined, linked, itself, back, through, IsClasses, IsNaming, Within}
use Rattle.nt_merge.specs.Forest.{renamed}

-- a link whose ends have one name
pub record Fine (n : ℕ) (cs : List ℕ) (l : Link) : Type 0 where
  pub within : Within n l
  pub same : get_or cs l.a 0 ≡ get_or cs l.b 0

pub record Named (n : ℕ) (links : List Link) (i : ℕ) (cs : List ℕ) : Type 0 where
  pub size : length cs ≡ n
  pub joined : (a : ℕ) → a < n → Joined links a (get_or cs a 0)
  pub low : (a : ℕ) → a < n → get_or cs a 0 ≤ a
  pub fine : All (Fine n cs) (take i links)

pub renamed_hit : (hi lo x : ℕ) → x ≡ hi → renamed hi lo x ≡ lo
renamed_hit hi lo x e = rw (eq-eqb x hi e) refl

pub renamed_miss : (hi lo x : ℕ) → (x ≡ hi → ⊥) → renamed hi lo x ≡ x
renamed_miss hi lo x ne = rw (ne_eqb x hi ne) refl

-- one class taken into another
record Taken (cs ds : List ℕ) (hi lo : ℕ) : Type 0 where
  size : length ds ≡ length cs
  each : (k : ℕ) → k < length ds → get_or ds k 0 ≡ renamed hi lo (get_or cs k 0)

taken_joined : {n : ℕ} {links : List Link} {i : ℕ} {cs : List ℕ} (ds : List ℕ) (hi lo : ℕ) → Named n links i cs → Taken cs ds hi lo → Joined links hi lo → (a : ℕ) → a < n → Joined links a (get_or ds a 0)
taken_joined {n = n} {links = links} {cs = cs} ds hi lo h t j a lt =
    let s = t.size in let m = h.size in
    let e = t.each a (omega arith) in
    elim (cases_eq (get_or cs a 0) hi) [
      | inl hit ↦ subst (λ x. Joined links a x) (sym (e ∙ renamed_hit hi lo _ hit)) (through (subst (λ x. Joined links a x) hit (h.joined a lt)) j)
      | inr miss ↦ subst (λ x. Joined links a x) (sym (e ∙ renamed_miss hi lo _ miss)) (h.joined a lt)
    ]

taken_low : {n : ℕ} {links : List Link} {i : ℕ} {cs : List ℕ} (ds : List ℕ) (hi lo : ℕ) → Named n links i cs → Taken cs ds hi lo → lo ≤ hi → (a : ℕ) → a < n → get_or ds a 0 ≤ a
taken_low {n = n} {cs = cs} ds hi lo h t le a lt =
    let s = t.size in let m = h.size in let w = h.low a lt in
    let e = t.each a (omega arith) in
    elim (cases_eq (get_or cs a 0) hi) [
      | inl hit ↦ let f = renamed_hit hi lo (get_or cs a 0) hit in omega arith
      | inr miss ↦ let f = renamed_miss hi lo (get_or cs a 0) miss in omega arith
    ]

taken_fine : {n : ℕ} {cs : List ℕ} (ds : List ℕ) (hi lo : ℕ) → length cs ≡ n → Taken cs ds hi lo → (l : Link) → Fine n cs l → Fine n ds l
taken_fine {cs = cs} ds hi lo m t l f =
    let s = t.size in let wa = f.within.a in let wb = f.within.b in
    record { within = f.within; same = t.each l.a (omega arith) ∙ ap (renamed hi lo) f.same ∙ sym (t.each l.b (omega arith)) }

-- a link more
pub named_more : {n : ℕ} {links : List Link} {i : ℕ} {cs : List ℕ} (ds : List ℕ) (hi lo : ℕ) (d l : Link) → l ≡ get_or links i d → Named n links i cs → All (Within n) links → i < length links
    → length ds ≡ length cs → ((k : ℕ) → k < length ds → get_or ds k 0 ≡ renamed hi lo (get_or cs k 0)) → lo ≤ hi
    → ((hi ≡ get_or cs l.b 0) × (lo ≡ get_or cs l.a 0)) ⊎ ((hi ≡ get_or cs l.a 0) × (lo ≡ get_or cs l.b 0)) → Named n links (i + 1) ds
named_more {n = n} {links = links} {i = i} {cs = cs} ds hi lo d l is h all lt size each le ends =
    let t : Taken cs ds hi lo = record { size = size; each = each } in
    let has : Contains links l = subst (λ x. Contains links x) (sym is) (Contains-get_or links i d lt) in
    let w : Within n l = All-contains (Within n) links l all has in
    let wa = w.a in let wb = w.b in let m = h.size in
    let ja = h.joined l.a w.a in let jb = h.joined l.b w.b in
    let across : Joined links (get_or cs l.a 0) (get_or cs l.b 0) = through (back ja) (through (linked l has) jb) in
    let j : Joined links hi lo = elim ends [
      | inl e ↦ subst (λ x. Joined links x lo) (sym e.0) (subst (λ x. Joined links (get_or cs l.b 0) x) (sym e.1) (back across))
      | inr e ↦ subst (λ x. Joined links x lo) (sym e.0) (subst (λ x. Joined links (get_or cs l.a 0) x) (sym e.1) across)
    ] in
    let lo_stays : (x : ℕ) → x ≡ lo → renamed hi lo x ≡ lo = λ x e. elim (cases_eq x hi) [ inl hit ↦ renamed_hit hi lo x hit | inr miss ↦ renamed_miss hi lo x miss ∙ e ] in
    let one : get_or ds l.a 0 ≡ get_or ds l.b 0 = elim ends [
      | inl e ↦ each l.a (omega arith) ∙ lo_stays _ (sym e.1) ∙ sym (each l.b (omega arith) ∙ renamed_hit hi lo _ (sym e.0))
      | inr e ↦ each l.a (omega arith) ∙ renamed_hit hi lo _ (sym e.0) ∙ sym (each l.b (omega arith) ∙ lo_stays _ (sym e.1))
    ] in
    let fine : Fine n ds l = record { within = w; same = one } in
    record {
      size = size ∙ h.size;
      joined = taken_joined ds hi lo h t j;
      low = taken_low ds hi lo h t le;
      fine = All-more (Fine n ds) links i d lt (All-from_get_or (Fine n ds) (take i links) l (λ k kt. taken_fine ds hi lo h.size t _ (All-get_or (Fine n cs) (take i links) k l kt h.fine))) (subst (λ x. Fine n ds x) is fine);
    }

-- joined segments have one name
joined_same : {n : ℕ} {links : List Link} {cs : List ℕ} {a b : ℕ} → All (Fine n cs) links → Joined links a b → get_or cs a 0 ≡ get_or cs b 0
joined_same {n = n} {links = links} {cs = cs} all (linked l has) = (All-contains (Fine n cs) links l all has).same
joined_same all (itself a) = refl
joined_same all (back j) = sym (joined_same all j)
joined_same all (through j h) = joined_same all j ∙ joined_same all h

pub named_all : {n : ℕ} {links : List Link} {i : ℕ} {cs : List ℕ} → length links ≤ i → Named n links i cs → IsClasses n links cs
named_all {n = n} {links = links} {i = i} {cs = cs} le h =
    let all : All (Fine n cs) links = subst (λ ls. All (Fine n cs) ls) (take_all i links le) h.fine in
    record {
      size = h.size;
      joined = h.joined;
      least = λ a b la lb j. let e : get_or cs a 0 ≡ get_or cs b 0 = joined_same all j in let f = h.low b lb in omega arith;
    }

pub ends_of : (a b : ℕ) → ((max a b ≡ b) × (min a b ≡ a)) ⊎ ((max a b ≡ a) × (min a b ≡ b))
ends_of a b = elim (cases_lt a b) [ inl le ↦ inl (omega arith, omega arith) | inr gt ↦ inr (omega arith, omega arith) ]

pub named_none : (n : ℕ) (links : List Link) (cs : List ℕ) → length cs ≡ n → ((k : ℕ) → k < n → get_or cs k 0 ≡ k) → Named n links 0 cs
named_none n links cs e own =
    record {
      size = e;
      joined = λ a lt. subst (λ x. Joined links a x) (sym (own a lt)) (itself a);
      low = λ a lt. let f = own a lt in omega arith;
      fine = λ k d lt. absurd (omega arith);
    }

name_below : {n : ℕ} {links : List Link} {cs : List ℕ} → IsClasses n links cs → (a : ℕ) → a < n → get_or cs a 0 < n
name_below h a lt = let f = h.least a a lt lt (itself a) in omega arith

pub one_class : {n : ℕ} {links : List Link} {cs : List ℕ} → IsClasses n links cs → (a b : ℕ) → a < n → b < n → Joined links a b → get_or cs a 0 ≡ get_or cs b 0
one_class {cs = cs} h a b la lb j =
    let e = h.least a (get_or cs b 0) la (name_below h b lb) (through j (h.joined b lb)) in
    let f = h.least b (get_or cs a 0) lb (name_below h a la) (through (back j) (h.joined a la)) in
    omega arith

pub same_class : {n : ℕ} {links : List Link} {cs : List ℕ} → IsClasses n links cs → (a b : ℕ) → a < n → b < n → get_or cs a 0 ≡ get_or cs b 0 → Joined links a b
same_class {links = links} h a b la lb e = through (subst (λ x. Joined links a x) e (h.joined a la)) (back (h.joined b lb))

-- classes are a naming
pub naming : {n : ℕ} {links : List Link} {cs : List ℕ} → IsClasses n links cs → IsNaming cs
naming {cs = cs} h =
    let m = h.size in
    record {
      low = λ a lt. h.least a a (omega arith) (omega arith) (itself a);
      own = λ a lt. sym (one_class h a (get_or cs a 0) (omega arith) (name_below h a (omega arith)) (h.joined a (omega arith)));
    }

only_name : {n : ℕ} {links : List Link} {cs ds : List ℕ} → IsClasses n links cs → IsClasses n links ds → (a : ℕ) → a < n → get_or cs a 0 ≡ get_or ds a 0
only_name {cs = cs} {ds = ds} h i a lt =
    let e = h.least a (get_or ds a 0) lt (name_below i a lt) (i.joined a lt) in
    let f = i.least a (get_or cs a 0) lt (name_below h a lt) (h.joined a lt) in
    omega arith

pub only_classes : {n : ℕ} {links : List Link} {cs ds : List ℕ} → IsClasses n links cs → IsClasses n links ds → cs ≡ ds
only_classes {cs = cs} {ds = ds} h i =
    let m = h.size in let k = i.size in
    ext_get_or 0 cs ds (m ∙ sym k) (λ a lt. only_name h i a (omega arith))

pub named_step : {n : ℕ} {links : List Link} {i : ℕ} {cs : List ℕ} (ds : List ℕ) (hi lo : ℕ) (d : Link) → Named n links i cs → All (Within n) links → i < length links
    → length ds ≡ length cs → ((k : ℕ) → k < length ds → get_or ds k 0 ≡ renamed hi lo (get_or cs k 0))
    → hi ≡ max (get_or cs (get_or links i d).a 0) (get_or cs (get_or links i d).b 0) → lo ≡ min (get_or cs (get_or links i d).a 0) (get_or cs (get_or links i d).b 0) → Named n links (i + 1) ds
named_step {links = links} {i = i} {cs = cs} ds hi lo d h all lt size each e f =
    let a = get_or cs (get_or links i d).a 0 in let b = get_or cs (get_or links i d).b 0 in
    named_more ds hi lo d (get_or links i d) refl h all lt size each (omega arith)
    (elim (ends_of a b) [ inl p ↦ inl (e ∙ p.0, f ∙ p.1) | inr p ↦ inr (e ∙ p.0, f ∙ p.1) ])
