-- Whether keys serve the slots of a type.
use Rattle.std.proofs.Common.{◌≡◌, ℕ, zero, suc, Bool, true, false, List, [], ◌∷◌, map, replicate, refl, ap, arith}
use Rattle.std.specs.Prelude.{◌&&◌, Option, Some, None, nat_le, length}
use Rattle.nt_ast.specs.declared.expr.Key.{Key}
use Rattle.nt_ast.specs.declared.expr.Key.TheVariants as key
use Rattle.nt_ast.specs.declared.expr.Expr.{Expr}
use Rattle.nt_kinds.specs.declared.kind.Kind.{Kind}
use Rattle.nt_typing.specs.Tables.{all_keyed, all_unkeyed, has_slot}
use Rattle.nt_patterns.specs.Keys.{is_single, key_other}
use Rattle.nt_patterns.specs.Picks.{Items, Slots, IsFound, no_item, one_item, many_items}
use Rattle.nt_patterns.specs.declared.found.Found.{Found}

abbrev pub named_slots : List (List ℕ × Kind) → Slots
named_slots members = map (λ m. (Some m.0, m.1)) members

abbrev pub element_slots : ℕ → Kind → Slots
element_slots n element = replicate n (None, element)

-- one item of a list of them
pub keyed_first : (slots : Slots) (i : Option Key × Expr) (items : Items) → all_keyed slots (i ∷ items) ≡ (all_keyed slots (i ∷ []) && all_keyed slots items)
keyed_first slots (None, x) items = refl
keyed_first slots (Some key.Other, x) items = refl
keyed_first slots (Some (key.Member name), x) items = and_true (has_slot slots name) (all_keyed slots items)
  where
    and_true : (a b : Bool) → (a && b) ≡ ((a && true) && b)
    and_true true b = refl
    and_true false b = refl

pub no_slot : (n : ℕ) (element : Kind) (name : List ℕ) → has_slot (element_slots n element) name ≡ false
no_slot zero element name = refl
no_slot (suc n) element name = no_slot n element name

pub unkeyed_first : (k : Option Key) (x : Expr) (items : Items) → k ≡ None → all_unkeyed ((k, x) ∷ items) ≡ all_unkeyed items
unkeyed_first k x items e = ap (λ k. all_unkeyed ((k, x) ∷ items)) e

pub single_is : {items : Items} {xs : List Expr} (f : Found) → IsFound items xs f → nat_le (length xs) 1 ≡ is_single f
single_is _ no_item = refl
single_is _ (one_item i item e) = refl
single_is _ (many_items x y rest) = many_more (length rest)
  where
    many_more : (n : ℕ) → nat_le (suc (suc n)) 1 ≡ false
    many_more n = grind arith

pub keyed_default : (n : ℕ) (element : Kind) (k : Option Key) (x : Expr) → all_keyed (element_slots n element) ((k, x) ∷ []) ≡ key_other k
keyed_default n element None x = refl
keyed_default n element (Some key.Other) x = refl
keyed_default n element (Some (key.Member name)) x = ap (λ b. b && true) (no_slot n element name)
