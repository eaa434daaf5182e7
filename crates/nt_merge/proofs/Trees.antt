-- Trees of parents: a segment gets its parent's parent, and two trees become one.
use Rattle.std.proofs.Common.{◌≡◌, ℕ, ◌+◌, ◌<◌, ◌≤◌, List, length, get_or, set, refl, sym, ap, ◌∙◌, subst, arith, inl, inr, length-set, get_or-set_other}
use Rattle.std.specs.Prelude.{min, max, map, ◌⊎◌}
use Rattle.std.specs.List.{All}
use Rattle.std.proofs.lemmas.Bool.{cases_eq, cases_lt}
use Rattle.std.proofs.lemmas.Grind.{get_or-set_at}
use Rattle.std.proofs.lemmas.List.{get_or-map, length-map}
use Rattle.nt_merge.specs.declared.segments.Link.{Link}
use Rattle.nt_merge.specs.Classes.{IsClasses, Within}
use Rattle.nt_merge.specs.Forest.{Downward, HasRoots, renamed, merged, Merges}
use Rattle.nt_merge.proofs.Naming.{renamed_hit, renamed_miss, Named, named_none, named_step, named_all}

-- a segment gets a lesser parent, or itself
pub down_set : (ps : List ℕ) (x p : ℕ) → Downward ps → x < length ps → p ≤ x → Downward (set ps x p)
down_set ps x p down lt le a la = elim (cases_eq a x) [
  | inl e ↦ let f : get_or (set ps x p) a 0 ≡ p = get_or-set_at ps x a p 0 e lt in omega arith
  | inr ne ↦ let f : get_or (set ps x p) a 0 ≡ get_or ps a 0 = get_or-set_other ps x a p 0 ne in let m = length-set ps x p in let w : get_or ps a 0 ≤ a = down a (omega arith) in omega arith
]

abbrev pub grandparent : List ℕ → ℕ → ℕ
grandparent ps x = get_or ps (get_or ps x 0) 0

pub grandparent_low : (ps : List ℕ) (x : ℕ) → Downward ps → x < length ps → grandparent ps x ≤ get_or ps x 0
grandparent_low ps x down lt = let w = down x lt in down (get_or ps x 0) (omega arith)

-- a parent's parent is of the same tree
pub same_tree : (ps roots : List ℕ) (x : ℕ) → Downward ps → x < length ps → HasRoots ps roots → get_or roots (grandparent ps x) 0 ≡ get_or roots x 0
same_tree ps roots x down lt h = let w : get_or ps x 0 ≤ x = down x lt in h.kept (get_or ps x 0) (omega arith) ∙ h.kept x lt

pub halved : (ps roots : List ℕ) (x : ℕ) → Downward ps → x < length ps → HasRoots ps roots → HasRoots (set ps x (grandparent ps x)) roots
halved ps roots x down lt h =
    let p = grandparent ps x in
    let m : length (set ps x p) ≡ length ps = length-set ps x p in
    let le : get_or ps x 0 ≤ x = down x lt in
    let up : p ≤ get_or ps x 0 = grandparent_low ps x down lt in
    let same : get_or roots p 0 ≡ get_or roots x 0 = same_tree ps roots x down lt h in
    record {
      size = h.size ∙ sym m;
      kept = λ a la. elim (cases_eq a x) [
        | inl e ↦ let f : get_or (set ps x p) a 0 ≡ p = get_or-set_at ps x a p 0 e lt in ap (λ k. get_or roots k 0) f ∙ same ∙ ap (λ k. get_or roots k 0) (sym e)
        | inr ne ↦ let f : get_or (set ps x p) a 0 ≡ get_or ps a 0 = get_or-set_other ps x a p 0 ne in ap (λ k. get_or roots k 0) f ∙ h.kept a (omega arith)
      ];
      own = λ a la is. elim (cases_eq a x) [
        | inl e ↦ let f : get_or (set ps x p) a 0 ≡ p = get_or-set_at ps x a p 0 e lt in
            let g : get_or ps x 0 ≡ x = omega arith in ap (λ k. get_or roots k 0) e ∙ h.own x lt g ∙ sym e
        | inr ne ↦ let f : get_or (set ps x p) a 0 ≡ get_or ps a 0 = get_or-set_other ps x a p 0 ne in h.own a (omega arith) (sym f ∙ is)
      ];
      low = λ a la. h.low a (omega arith);
      top = λ a la. h.top a (omega arith);
    }

renamed_stays : (hi lo r : ℕ) → r ≡ lo → renamed hi lo r ≡ lo
renamed_stays hi lo r e = elim (cases_eq r hi) [ inl hit ↦ renamed_hit hi lo r hit | inr miss ↦ renamed_miss hi lo r miss ∙ e ]

-- a root gets a lesser one as its parent
joins : (ps roots : List ℕ) (hi lo : ℕ) → Downward ps → hi < length ps → lo ≤ hi → get_or roots hi 0 ≡ hi → get_or roots lo 0 ≡ lo → HasRoots ps roots → HasRoots (set ps hi lo) (map (renamed hi lo) roots)
joins ps roots hi lo down lt le is_hi is_lo h =
    let f = renamed hi lo in
    let now = map f roots in
    let m : length (set ps hi lo) ≡ length ps = length-set ps hi lo in
    let size = h.size in
    let each : (k : ℕ) → k < length ps → get_or now k 0 ≡ f (get_or roots k 0) = λ k lk. get_or-map f roots k 0 0 (omega arith) in
    let at_lo : get_or now lo 0 ≡ lo = each lo (omega arith) ∙ renamed_stays hi lo (get_or roots lo 0) is_lo in
    record {
      size = length-map roots f ∙ h.size ∙ sym m;
      kept = λ a la. elim (cases_eq a hi) [
        | inl e ↦ let g : get_or (set ps hi lo) a 0 ≡ lo = get_or-set_at ps hi a lo 0 e lt in
            let r : get_or roots a 0 ≡ hi = ap (λ k. get_or roots k 0) e ∙ is_hi in
            ap (λ k. get_or now k 0) g ∙ at_lo ∙ sym (each a (omega arith) ∙ renamed_hit hi lo (get_or roots a 0) r)
        | inr ne ↦ let g : get_or (set ps hi lo) a 0 ≡ get_or ps a 0 = get_or-set_other ps hi a lo 0 ne in
            let w : get_or ps a 0 ≤ a = down a (omega arith) in
            ap (λ k. get_or now k 0) g ∙ each (get_or ps a 0) (omega arith) ∙ ap f (h.kept a (omega arith)) ∙ sym (each a (omega arith))
      ];
      own = λ a la is. elim (cases_eq a hi) [
        | inl e ↦ let g : get_or (set ps hi lo) a 0 ≡ lo = get_or-set_at ps hi a lo 0 e lt in
            let r : get_or roots a 0 ≡ hi = ap (λ k. get_or roots k 0) e ∙ is_hi in
            each a (omega arith) ∙ renamed_hit hi lo (get_or roots a 0) r ∙ sym g ∙ is
        | inr ne ↦ let g : get_or (set ps hi lo) a 0 ≡ get_or ps a 0 = get_or-set_other ps hi a lo 0 ne in
            let r : get_or roots a 0 ≡ a = h.own a (omega arith) (sym g ∙ is) in
            each a (omega arith) ∙ ap f r ∙ renamed_miss hi lo a ne
      ];
      low = λ a la. let w : get_or roots a 0 ≤ a = h.low a (omega arith) in elim (cases_eq (get_or roots a 0) hi) [
        | inl e ↦ let g : get_or now a 0 ≡ lo = each a (omega arith) ∙ renamed_hit hi lo (get_or roots a 0) e in omega arith
        | inr ne ↦ let g : get_or now a 0 ≡ get_or roots a 0 = each a (omega arith) ∙ renamed_miss hi lo (get_or roots a 0) ne in omega arith
      ];
      top = λ a la. let w : get_or roots a 0 ≤ a = h.low a (omega arith) in elim (cases_eq (get_or roots a 0) hi) [
        | inl e ↦ let g : get_or now a 0 ≡ lo = each a (omega arith) ∙ renamed_hit hi lo (get_or roots a 0) e in ap (λ k. get_or now k 0) g ∙ at_lo ∙ sym g
        | inr ne ↦ let g : get_or now a 0 ≡ get_or roots a 0 = each a (omega arith) ∙ renamed_miss hi lo (get_or roots a 0) ne in
            ap (λ k. get_or now k 0) g ∙ each (get_or roots a 0) (omega arith) ∙ ap f (h.top a (omega arith)) ∙ sym (each a (omega arith))
      ];
    }

joined_trees : (ps roots : List ℕ) (a b : ℕ) → Downward ps → a < length ps → b < length ps → HasRoots ps roots
    → HasRoots (set ps (max (get_or roots a 0) (get_or roots b 0)) (min (get_or roots a 0) (get_or roots b 0))) (merged (get_or roots a 0) (get_or roots b 0) roots)
joined_trees ps roots a b down la lb h =
    let x = get_or roots a 0 in let y = get_or roots b 0 in
    let wa : x ≤ a = h.low a la in let wb : y ≤ b = h.low b lb in
    let is : (z : ℕ) → (z ≡ x) ⊎ (z ≡ y) → get_or roots z 0 ≡ z = λ z e. elim e [
      | inl e ↦ ap (λ k. get_or roots k 0) e ∙ h.top a la ∙ sym e
      | inr e ↦ ap (λ k. get_or roots k 0) e ∙ h.top b lb ∙ sym e
    ] in
    joins ps roots (max x y) (min x y) down (omega arith) (omega arith) (is (max x y) (either x y)) (is (min x y) (other x y)) h
  where
    either : (x y : ℕ) → (max x y ≡ x) ⊎ (max x y ≡ y)
    either x y = elim (cases_lt x y) [ inl lt ↦ inr (omega arith) | inr le ↦ inl (omega arith) ]

    other : (x y : ℕ) → (min x y ≡ x) ⊎ (min x y ≡ y)
    other x y = elim (cases_lt x y) [ inl lt ↦ inl (omega arith) | inr le ↦ inr (omega arith) ]

-- the greater of the roots of a link's ends gets the lesser one as its parent
pub merges : (ps roots : List ℕ) (l : Link) (x y hi lo : ℕ) → Downward ps → l.a < length ps → l.b < length ps → x ≡ get_or roots l.a 0 → y ≡ get_or roots l.b 0 → hi ≡ max x y → lo ≡ min x y
    → HasRoots ps roots → HasRoots (set ps hi lo) (merged (get_or roots l.a 0) (get_or roots l.b 0) roots)
merges ps roots l x y hi lo down la lb ex ey eh el h =
    let a = get_or roots l.a 0 in let b = get_or roots l.b 0 in
    let f : hi ≡ max a b = omega arith in let g : lo ≡ min a b = omega arith in
    subst (λ z. HasRoots (set ps z lo) (merged a b roots)) (sym f) (subst (λ z. HasRoots (set ps (max a b) z) (merged a b roots)) (sym g) (joined_trees ps roots l.a l.b down la lb h))

-- trees that stand for the first i links
pub record Merged (n : ℕ) (links : List Link) (i : ℕ) (ps : List ℕ) : Type 0 where
  pub downward : Downward ps
  pub roots : List ℕ
  pub has : HasRoots ps roots
  pub named : Named n links i roots

pub merged_none : (links : List Link) (ps : List ℕ) → ((k : ℕ) → k < length ps → get_or ps k 0 ≡ k) → Merged (length ps) links 0 ps
merged_none links ps own = record {
  downward = λ a la. let e = own a la in omega arith;
  roots = ps;
  has = record {
    size = refl;
    kept = λ a la. let e = own a la in ap (λ k. get_or ps k 0) e;
    own = λ a la e. e;
    low = λ a la. let e = own a la in omega arith;
    top = λ a la. let e = own a la in ap (λ k. get_or ps k 0) e;
  };
  named = named_none (length ps) links ps refl own;
}

pub merged_more : {n : ℕ} {links : List Link} {i : ℕ} {ps : List ℕ} (qs : List ℕ) (d : Link) → Merged n links i ps → All (Within n) links → i < length links
    → Downward qs → Merges ps qs (get_or links i d) → Merged n links (i + 1) qs
merged_more {links = links} {i = i} qs d h all lt down m =
    let l = get_or links i d in
    let a = get_or h.roots l.a 0 in let b = get_or h.roots l.b 0 in
    let f = renamed (max a b) (min a b) in
    record {
      downward = down;
      roots = merged a b h.roots;
      has = m h.roots h.has;
      named = named_step (merged a b h.roots) (max a b) (min a b) d h.named all lt (length-map h.roots f)
          (λ k lk. let size = length-map h.roots f in get_or-map f h.roots k 0 0 (omega arith)) refl refl;
    }

pub merged_all : {n : ℕ} {links : List Link} {i : ℕ} {ps : List ℕ} → Merged n links i ps → length links ≤ i → (roots : List ℕ) × HasRoots ps roots × IsClasses n links roots
merged_all h le = (h.roots, h.has, named_all le h.named)

-- where all lesser segments have their root as their parent, a parent's parent is the root
pub flat_more : (ps roots : List ℕ) (x : ℕ) → Downward ps → x < length ps → HasRoots ps roots → ((k : ℕ) → k < x → get_or ps k 0 ≡ get_or roots k 0)
    → (k : ℕ) → k < x + 1 → get_or (set ps x (grandparent ps x)) k 0 ≡ get_or roots k 0
flat_more ps roots x down lt h done k lk = elim (cases_eq k x) [
  | inl e ↦ get_or-set_at ps x k (grandparent ps x) 0 e lt ∙ here ∙ ap (λ j. get_or roots j 0) (sym e)
  | inr ne ↦ get_or-set_other ps x k (grandparent ps x) 0 ne ∙ done k (omega arith)
]
  where
    here : grandparent ps x ≡ get_or roots x 0
    here = let w : get_or ps x 0 ≤ x = down x lt in elim (cases_eq (get_or ps x 0) x) [
      | inl e ↦ ap (λ j. get_or ps j 0) e ∙ e ∙ sym (h.own x lt e)
      | inr ne ↦ done (get_or ps x 0) (omega arith) ∙ h.kept x lt
    ]
