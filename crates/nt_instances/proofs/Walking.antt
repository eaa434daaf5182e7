-- The walk over instances, cut at a limit.
use Rattle.std.proofs.Common.{◌≡◌, ℕ, zero, suc, ◌+◌, ◌-◌, ◌<◌, ◌≤◌, ◌⊎◌, List, [], ◌∷◌, ◌++◌, length, get_or, take, drop, slice_get, refl, sym, ap, ◌∙◌, inl, inr, arith, append_assoc, append-nil, length-append, length-take, add-one}
use Rattle.std.proofs.lemmas.Bool.{cases_lt}
use Rattle.std.proofs.lemmas.List.{take_all, take-append-le, take-take}
use Rattle.std.proofs.Math.Seq.{drop-cons}
use native.Mathlib.Numerals.{unary_clauses}
use Rattle.nt_items.specs.declared.item.Item.{Item}
use Rattle.nt_items.specs.declared.item.Item.TheViews.{out-Item}
use Rattle.nt_instances.specs.declared.rows.Row.{Row}
use Rattle.nt_instances.specs.Modules.{items_of}
use Rattle.nt_instances.specs.Rows.{instances, item_rows, from_child, child}

take_over : (limit : ℕ) (zs us : List Row) → limit ≤ length zs → take limit (zs ++ us) ≡ take limit zs
take_over limit zs us le = take-append-le limit zs us le

-- what is appended is cut, and so is what follows it
pub cut_more : (limit : ℕ) (xs ys : List Row) (rest : ℕ → List Row) →
    take limit (take limit (xs ++ ys) ++ rest (length (take limit (xs ++ ys)))) ≡ take limit (xs ++ (ys ++ rest (length xs + length ys)))
cut_more limit xs ys rest = elim (cases_lt limit (length (xs ++ ys))) [
  | inl more ↦ let short : limit ≤ length (take limit (xs ++ ys)) = omega (arith, length-take limit (xs ++ ys)) in
      take-append-le limit (take limit (xs ++ ys)) (rest (length (take limit (xs ++ ys)))) short ∙ take-take limit limit (xs ++ ys) (omega arith)
      ∙ sym (ap (take limit) (sym (append_assoc xs ys (rest (length xs + length ys)))) ∙ take-append-le limit (xs ++ ys) (rest (length xs + length ys)) (omega arith))
  | inr less ↦ let all : take limit (xs ++ ys) ≡ xs ++ ys = take_all limit (xs ++ ys) less in
      ap (λ zs. take limit (zs ++ rest (length zs))) all ∙ ap (λ n. take limit ((xs ++ ys) ++ rest n)) (length-append xs ys) ∙ ap (take limit) (append_assoc xs ys (rest (length xs + length ys)))
]

pub instances-open : (depth : ℕ) (ms : List Item) (n : ℕ) (row : Row) → (depth ≡ 0 → ⊥) →
    instances depth ms n row ≡ row ∷ item_rows (instances (depth - 1) ms) ms n row (n + 1) 0 (items_of (slice_get ms row.definition))
unfolding instances
instances-open zero ms n row some = absurd (some refl)
instances-open (suc depth) ms n row some = simp unary_clauses refl

-- without depth there is nothing
pub no_depth : (depth : ℕ) (ms : List Item) (n : ℕ) (row : Row) → depth ≡ 0 → instances depth ms n row ≡ []
unfolding instances
no_depth zero ms n row e = refl
no_depth (suc depth) ms n row e = absurd (omega arith)

pub nothing_more : (limit depth : ℕ) (ms : List Item) (row : Row) (rows : List Row) → length rows ≤ limit → (depth ≡ 0) ⊎ (limit ≤ length rows) →
    rows ≡ take limit (rows ++ instances depth ms (length rows) row)
nothing_more limit depth ms row rows room (inl e) = sym (ap (take limit) (ap (λ us. rows ++ us) (no_depth depth ms (length rows) row e) ∙ append-nil rows) ∙ take_all limit rows room)
nothing_more limit depth ms row rows room (inr full) = sym (take-append-le limit rows _ full ∙ take_all limit rows room)

-- the walk begins
pub walk_begins : (limit depth : ℕ) (ms : List Item) (row : Row) (old rows : List Row) (items : List Item) (here : ℕ) → here ≡ length old → (depth ≡ 0 → ⊥) → rows ≡ old ++ row ∷ [] → items ≡ items_of (slice_get ms row.definition) →
    take limit (rows ++ item_rows (instances (depth - 1) ms) ms here row (length rows) 0 (drop 0 items)) ≡ take limit (old ++ instances depth ms (length old) row)
walk_begins limit depth ms row old rows items here at some e f =
    let n : length rows ≡ length old + 1 = omega (arith, ap length e, length-append old (row ∷ [])) in
    let rest : ℕ → List Item → List Row = λ k us. item_rows (instances (depth - 1) ms) ms (length old) row k 0 us in
    ap (λ k. take limit (rows ++ item_rows (instances (depth - 1) ms) ms k row (length rows) 0 items)) at ∙
    ap (take limit) (ap (λ us. us ++ rest (length rows) items) e ∙ append_assoc old (row ∷ []) (rest (length rows) items)
    ∙ ap (λ us. old ++ us) (ap (λ k. row ∷ rest k items) n ∙ ap (λ us. row ∷ rest (length old + 1) us) f ∙ sym (instances-open depth ms (length old) row some)))

-- one item more
pub walk_goes : (limit : ℕ) (below : ℕ → Row → List Row) (ms : List Item) (here : ℕ) (row : Row) (rows new : List Row) (index : ℕ) (items : List Item) (x : Item) → index < length items → x ≡ get_or items index x →
    new ≡ take limit (rows ++ from_child below (length rows) (child ms here row index (out-Item x))) →
    take limit (new ++ item_rows below ms here row (length new) (index + 1) (drop (index + 1) items)) ≡ take limit (rows ++ item_rows below ms here row (length rows) index (drop index items))
walk_goes limit below ms here row rows new index items x lt is e =
    let first = from_child below (length rows) (child ms here row index (out-Item x)) in
    let rest : ℕ → List Row = λ k. item_rows below ms here row k (index + 1) (drop (index + 1) items) in
    let split : drop index items ≡ x ∷ drop (index + 1) items = drop-cons items index x lt ∙ ap (λ y. y ∷ drop (suc index) items) (sym is) ∙ ap (λ k. x ∷ drop k items) (sym (add-one index)) in
    ap (λ us. take limit (us ++ rest (length us))) e ∙ cut_more limit rows first rest
    ∙ ap (λ us. take limit (rows ++ item_rows below ms here row (length rows) index us)) (sym split)
