-- The member of a name, member by member.
use Rattle.std.proofs.Common.{◌≡◌, ◌≤◌, ℕ, ◌+◌, Bool, true, false, List, ◌∷◌, ◌++◌, length, drop, Some, None, Result, refl, ap, sym, ◌∙◌, subst, arith}
use Rattle.std.specs.Prelude.{All, if◌then◌else◌, nat_eq}
use Rattle.std.specs.Cmp.Lexicographic.{pointwise}
use Rattle.std.proofs.lemmas.List.{drop_all, length-append}
use Rattle.std.proofs.lemmas.List.Elements.{All-take, All-drop}
use Rattle.std.proofs.Math.Seq.{take-append_seam, drop-append_seam}
use Rattle.nt_value.specs.Digits.{IsLeaf}
use Rattle.nt_value.specs.declared.place.Place.{Place}
use Rattle.nt_kinds.specs.Kinds.{IsSound, leaves, member_leaves}
use Rattle.nt_kinds.specs.declared.kind.Kind.TheOpen.{Kind-F}
use Rattle.nt_kinds.specs.declared.kind.Kind.TheVariants as k
use Rattle.nt_kinds.specs.declared.kind.Kind.TheViews.{out-Kind, roll-Kind, out-roll-Kind}
use denote.Hole.Carrier.{roll}
use Rattle.nt_design.specs.declared.tree.Tree.{Tree}
use Rattle.nt_typing.proofs.Leaves.{struct_leaves}
use Rattle.nt_typing.specs.Tables.{member_in, found_member}
use Rattle.nt_typing.specs.declared.thing.Thing.{Thing}
use Rattle.nt_drafts.specs.Gives.{Gives}
use Rattle.nt_drafts.specs.declared.unfit.Unfit.{Unfit}
use Rattle.nt_kinds.specs.declared.kind.Kind.{Kind}
use Rattle.nt_typing.specs.Kinds.{found_from}

abbrev Members : Type 0
Members = List (List ℕ × Kind)

pub record Finding (ms : Members) (name : List ℕ) (i first : ℕ) : Type 0 where
  pub is : found_from 0 ms name ≡ found_from first (drop i ms) name
  pub within : first + length (member_leaves (drop i ms)) ≤ 64
  pub valid : All IsLeaf (member_leaves (drop i ms))

pub finding_first : (ms : Members) (name : List ℕ) → length (member_leaves ms) ≤ 64 → All IsLeaf (member_leaves ms) → Finding ms name 0 0
finding_first ms name n v = record { is = refl; within = omega (arith, n); valid = v }

pub front_within : (m : List ℕ × Kind) (ms : Members) (first : ℕ) → first + length (member_leaves (m ∷ ms)) ≤ 64 → first + length (leaves m.1) + length (member_leaves ms) ≤ 64
front_within m ms first h = let e = length-append (leaves m.1) (member_leaves ms) in omega (arith, h, e)

front_valid : (m : List ℕ × Kind) (ms : Members) → All IsLeaf (member_leaves (m ∷ ms)) → All IsLeaf (leaves m.1)
front_valid m ms h = subst (λ ls. All IsLeaf ls) (take-append_seam (leaves m.1) (member_leaves ms)) (All-take IsLeaf (length (leaves m.1)) (leaves m.1 ++ member_leaves ms) h)

rest_valid : (m : List ℕ × Kind) (ms : Members) → All IsLeaf (member_leaves (m ∷ ms)) → All IsLeaf (member_leaves ms)
rest_valid m ms h = subst (λ ls. All IsLeaf ls) (drop-append_seam (leaves m.1) (member_leaves ms)) (All-drop IsLeaf (length (leaves m.1)) (leaves m.1 ++ member_leaves ms) h)

module _ (ms : Members) (name : List ℕ) (i first : ℕ) (m : List ℕ × Kind) (e : drop i ms ≡ m ∷ drop (i + 1) ms) (h : Finding ms name i first) where
  now_within : first + length (leaves m.1) + length (member_leaves (drop (i + 1) ms)) ≤ 64
  now_within = front_within m (drop (i + 1) ms) first (subst (λ xs. first + length (member_leaves xs) ≤ 64) e h.within)

  pub here_within : length (leaves m.1) ≤ 64
  here_within = let a = now_within in omega (arith, a)

  pub here_valid : All IsLeaf (leaves m.1)
  here_valid = front_valid m (drop (i + 1) ms) (subst (λ xs. All IsLeaf (member_leaves xs)) e h.valid)

  here_is : found_from 0 ms name ≡ (if pointwise nat_eq m.0 name then Some (record { kind = m.1; first = first }) else found_from (first + length (leaves m.1)) (drop (i + 1) ms) name)
  here_is = h.is ∙ ap (λ xs. found_from first xs name) e

  pub found_here : pointwise nat_eq m.0 name ≡ true → found_from 0 ms name ≡ Some (record { kind = m.1; first = first })
  found_here b = here_is ∙ ap (λ (b : Bool). if b then Some (record { kind = m.1; first = first }) else found_from (first + length (leaves m.1)) (drop (i + 1) ms) name) b

  pub finding_more : pointwise nat_eq m.0 name ≡ false → (next : ℕ) → next ≡ first + length (leaves m.1) → Finding ms name (i + 1) next
  finding_more b next f = record {
    is = here_is ∙ ap (λ (b : Bool). if b then Some (record { kind = m.1; first = first }) else found_from (first + length (leaves m.1)) (drop (i + 1) ms) name) b
        ∙ ap (λ n. found_from n (drop (i + 1) ms) name) (sym f);
    within = subst (λ n. n + length (member_leaves (drop (i + 1) ms)) ≤ 64) (sym f) now_within;
    valid = rest_valid m (drop (i + 1) ms) (subst (λ xs. All IsLeaf (member_leaves xs)) e h.valid);
  }

pub finding_none : (ms : Members) (name : List ℕ) (i first : ℕ) → length ms ≤ i → Finding ms name i first → found_from 0 ms name ≡ None
finding_none ms name i first le h = h.is ∙ ap (λ xs. found_from first xs name) (drop_all i ms le)

-- ---- the members of a structure
pub seen_struct : (x : Kind) (at : Place) (ms : Members) → x ≡ k.Struct at ms → out-Kind x ≡ Kind-F.Struct at ms
unfolding roll-Kind roll
seen_struct x at ms h = ap out-Kind h ∙ out-roll-Kind (Kind-F.Struct at ms)

pub struct_within : (x : Kind) (at : Place) (ms ns : Members) → x ≡ k.Struct at ms → ns ≡ ms → IsSound x → length (member_leaves ns) ≤ 64
struct_within x at ms ns h e u = subst (λ ls. length ls ≤ 64) (struct_leaves x at ms (seen_struct x at ms h) ∙ ap member_leaves (sym e)) u.within

pub struct_valid : (x : Kind) (at : Place) (ms ns : Members) → x ≡ k.Struct at ms → ns ≡ ms → IsSound x → All IsLeaf (member_leaves ns)
struct_valid x at ms ns h e u = subst (λ ls. All IsLeaf ls) (struct_leaves x at ms (seen_struct x at ms h) ∙ ap member_leaves (sym e)) u.valid

pub struct_gives : (x : Kind) (at : Place) (ms ns : Members) (a : Tree) (name : List ℕ) (r : Result Thing Unfit) → x ≡ k.Struct at ms → ns ≡ ms
    → Gives (found_member (found_from 0 ns name) a) r → Gives (member_in (out-Kind x) a name) r
struct_gives x at ms ns a name r h e g =
    subst (λ y. Gives (member_in y a name) r) (sym (seen_struct x at ms h)) (subst (λ ms. Gives (found_member (found_from 0 ms name) a) r) e g)
