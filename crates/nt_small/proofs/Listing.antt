-- A list of items has one spelling.
use Rattle.std.proofs.Common.{◌≡◌, ◌≢◌, ℕ, List, [], ◌∷◌, ◌++◌, refl, sym, ◌∙◌, ap, codes, append_assoc}
use Rattle.std.specs.List.{flat_map}
use Rattle.std.proofs.lemmas.List.{flat_map_more}
use Rattle.nt_small.specs.Grammar.{Item, Declare, Drive, item_tokens, items_tokens}

-- what is left of the items behind this one
pub record GoesOn (nettype : List ℕ) (item : Item) (rest : List (List ℕ)) (items : List Item) : Type 0 where
  pub more : List Item
  pub first : items ≡ item ∷ more
  pub left : items_tokens nettype more ≡ rest

pub next_only : (nettype : List ℕ) (item : Item) (rest : List (List ℕ)) (items : List Item) → nettype ≢ codes "assign" → items_tokens nettype items ≡ item_tokens nettype item ++ rest → GoesOn nettype item rest items
next_only n (Declare a) rest [] other is = cc
next_only n (Drive a v) rest [] other is = cc
next_only n (Declare a) rest (Declare b ∷ more) other is = record { more = more; first = let e : b ≡ a = cc in ap (λ k. Declare k ∷ more) e; left = cc }
next_only n (Declare a) rest (Drive b w ∷ more) other is = absurd (other (cc))
next_only n (Drive a v) rest (Declare b ∷ more) other is = absurd (other (cc))
next_only n (Drive a v) rest (Drive b w ∷ more) other is =
    record { more = more; first = let e : b ≡ a = cc in let f : w ≡ v = cc in ap (λ k. Drive k w ∷ more) e ∙ ap (λ k. Drive a k ∷ more) f; left = cc }

-- The pieces begin with the items found so far, and no other items lead to the rest.
pub record SoFar (nettype : List ℕ) (pieces : List (List ℕ)) (found : List Item) (rest : List (List ℕ)) : Type 0 where
  pub front : flat_map (item_tokens nettype) found ++ rest ≡ pieces
  pub only : (items : List Item) → items_tokens nettype items ≡ pieces → (more : List Item) × (items ≡ found ++ more) × (items_tokens nettype more ≡ rest)

pub nothing_yet : (nettype : List ℕ) (pieces : List (List ℕ)) → SoFar nettype pieces [] pieces
nothing_yet n pieces = record { front = refl; only = λ items is. (items, refl, is) }

pub one_item_more : (nettype : List ℕ) (pieces : List (List ℕ)) (found : List Item) (rest after : List (List ℕ)) (item : Item) → nettype ≢ codes "assign" → SoFar nettype pieces found rest → rest ≡ item_tokens nettype item ++ after → SoFar nettype pieces (found ++ item ∷ []) after
one_item_more n pieces found rest after item other so_far is = record {
  front = ap (λ (l : List (List ℕ)). l ++ after) (sym (flat_map_more (item_tokens n) [] found item)) ∙ append_assoc (flat_map (item_tokens n) found) (item_tokens n item) after ∙ ap (λ (l : List (List ℕ)). flat_map (item_tokens n) found ++ l) (sym is) ∙ so_far.front;
  only = λ items spelled.
      let before = so_far.only items spelled in
      let next = next_only n item after before.0 other (before.2 ∙ is) in
      (next.more, before.1 ∙ ap (λ (l : List Item). found ++ l) next.first ∙ sym (append_assoc found (item ∷ []) next.more), next.left);
}

pub at_end : (nettype : List ℕ) (pieces : List (List ℕ)) (found : List Item) (rest : List (List ℕ)) → SoFar nettype pieces found rest → rest ≡ codes "endmodule" ∷ [] → items_tokens nettype found ≡ pieces
at_end n pieces found rest so_far is = ap (λ (l : List (List ℕ)). flat_map (item_tokens n) found ++ l) (sym is) ∙ so_far.front

pub no_items : (nettype : List ℕ) (pieces : List (List ℕ)) (found : List Item) (rest : List (List ℕ)) → SoFar nettype pieces found rest → (rest ≡ codes "endmodule" ∷ [] → ⊥) → ((item : Item) (after : List (List ℕ)) → rest ≡ item_tokens nettype item ++ after → ⊥) → (items : List Item) → items_tokens nettype items ≡ pieces → ⊥
no_items n pieces found rest so_far not_end no_item items spelled =
    let left = so_far.only items spelled in none left.0 left.2
  where
    none : (more : List Item) → items_tokens n more ≡ rest → ⊥
    none [] is = not_end (sym is)
    none (item ∷ more) is = no_item item (items_tokens n more) (sym is ∙ append_assoc (item_tokens n item) (flat_map (item_tokens n) more) (codes "endmodule" ∷ []))

-- items are determined by their tokens
pub same_items : (nettype : List ℕ) (xs ys : List Item) → nettype ≢ codes "assign" → items_tokens nettype xs ≡ items_tokens nettype ys → xs ≡ ys
same_items n [] [] other is = refl
same_items n [] (Declare b ∷ ys) other is = cc
same_items n [] (Drive b w ∷ ys) other is = cc
same_items n (x ∷ xs) ys other is =
    let next = next_only n x (items_tokens n xs) ys other (sym is ∙ append_assoc (item_tokens n x) (flat_map (item_tokens n) xs) (codes "endmodule" ∷ [])) in
    ap (λ l. x ∷ l) (same_items n xs next.more other (sym next.left)) ∙ sym next.first
