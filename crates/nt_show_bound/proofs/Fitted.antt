-- Types that are made of usable ones; scopes of usable names.
use Rattle.std.proofs.Common.{◌≡◌, ◌≤◌, ◌<◌, ℕ, zero, suc, Bool, true, false, List, [], ◌∷◌, length, replicate, Option, Some, None, refl, sym, subst, arith}
use Rattle.std.specs.Prelude.{All, nat_eq, if◌then◌else◌}
use Rattle.std.specs.List.{flat_map}
use Rattle.std.specs.Cmp.Lexicographic.{pointwise}
use Rattle.std.proofs.lemmas.List.Elements.{All-append, All-cons, All-nil, All-head, All-tail}
use Rattle.nt_value.specs.Digits.{IsLeaf}
use Rattle.nt_value.specs.declared.leaf.Leaf.{Leaf}
use Rattle.nt_value.specs.declared.place.Place.{Place}
use Rattle.nt_kinds.specs.Kinds.{span, leaves, IsSmall}
use Rattle.nt_kinds.specs.declared.kind.Kind.{Kind}
use Rattle.nt_kinds.specs.declared.kind.Kind.TheOpen.{Kind-F}
use Rattle.nt_kinds.specs.declared.kind.Kind.TheVariants as k
use Rattle.nt_kinds.specs.declared.kind.Kind.TheViews.{out-Kind, roll-Kind, out-roll-Kind}
use denote.Hole.Carrier.{roll}
use Rattle.nt_typing.specs.Names.{last_of, or_last}
use Rattle.nt_typing.specs.declared.scope.Entity.{Entity}
use Rattle.nt_typing.specs.declared.scope.Scope.{Scope}
use Rattle.nt_typing.proofs.Leaves.{one_leaves, struct_leaves, array_leaves}
use Rattle.nt_things.specs.Usable.{Few, few_one, few_members, few_elements, FewEach, no_members, more_members, IsUsable, AllUsable, no_kinds, more_kinds, UsableEntity, UsableScope}
use Rattle.nt_forms.proofs.Kinding.{one_leaf}
use Rattle.nt_show_bound.specs.Usable.{Fitting, AllEntities}

seen_one : (l : Leaf) (a b : ℕ) → out-Kind (k.One l a b) ≡ Kind-F.One l a b
unfolding roll-Kind roll
seen_one l a b = out-roll-Kind (Kind-F.One l a b)

seen_struct : (at : Place) (ms : List (List ℕ × Kind)) → out-Kind (k.Struct at ms) ≡ Kind-F.Struct at ms
unfolding roll-Kind roll
seen_struct at ms = out-roll-Kind (Kind-F.Struct at ms)

seen_array : (l r : ℕ) (e : Kind) → out-Kind (k.Array l r e) ≡ Kind-F.Array l r e
unfolding roll-Kind roll
seen_array l r e = out-roll-Kind (Kind-F.Array l r e)

pub one_usable : (l : Leaf) (a b : ℕ) → IsLeaf l → IsUsable (k.One l a b)
one_usable l a b h =
    let e = one_leaves (k.One l a b) l (one_leaf (k.One l a b) l a b refl) in
    record {
      sound = record { within = subst (λ ls. length ls ≤ 64) (sym e) (omega arith); valid = subst (All IsLeaf) (sym e) (All-cons IsLeaf l [] h (All-nil IsLeaf)) };
      few = subst Few (sym (seen_one l a b)) (few_one l a b);
    }

pub fitting_small : (x : Kind) → Fitting x → IsSmall x → IsUsable x
fitting_small x f s = record { sound = record { within = s.wide; valid = f.valid }; few = f.few }

members_valid : (ms : List (List ℕ × Kind)) → All (λ m. IsUsable m.1) ms → All IsLeaf (flat_map (λ m. leaves m.1) ms)
members_valid [] h = All-nil IsLeaf
members_valid (m ∷ ms) h =
    All-append IsLeaf (leaves m.1) (flat_map (λ m. leaves m.1) ms) (All-head (λ (m : List ℕ × Kind). IsUsable m.1) m ms h).sound.valid (members_valid ms (All-tail (λ (m : List ℕ × Kind). IsUsable m.1) m ms h))

members_few : (ms : List (List ℕ × Kind)) → All (λ m. IsUsable m.1) ms → FewEach ms
members_few [] h = no_members
members_few (m ∷ ms) h = more_members m ms (All-head (λ (m : List ℕ × Kind). IsUsable m.1) m ms h).few (members_few ms (All-tail (λ (m : List ℕ × Kind). IsUsable m.1) m ms h))

pub struct_fits : (at : Place) (ms : List (List ℕ × Kind)) → All (λ m. IsUsable m.1) ms → Fitting (k.Struct at ms)
struct_fits at ms h = record {
  valid = subst (All IsLeaf) (sym (struct_leaves (k.Struct at ms) at ms (seen_struct at ms))) (members_valid ms h);
  few = subst Few (sym (seen_struct at ms)) (few_members at ms (members_few ms h));
}

repeated_valid : (n : ℕ) (ls : List Leaf) → All IsLeaf ls → All IsLeaf (flat_map (λ s. s) (replicate n ls))
repeated_valid zero ls h = All-nil IsLeaf
repeated_valid (suc n) ls h = All-append IsLeaf ls (flat_map (λ s. s) (replicate n ls)) h (repeated_valid n ls h)

pub array_fits : (l r : ℕ) (e : Kind) → l < 256 → r < 256 → IsUsable e → Fitting (k.Array l r e)
array_fits l r e p q u = record {
  valid = subst (All IsLeaf) (sym (array_leaves (k.Array l r e) l r e (seen_array l r e))) (repeated_valid (span l r) (leaves e) u.sound.valid);
  few = subst Few (sym (seen_array l r e)) (few_elements l r e (omega (arith, p, q)) u.few);
}

-- ---- names
some_back : {A : Type 0} {a b : A} → Some a ≡ Some b → a ≡ b
some_back e = cc

last_by : (b : Bool) (o : Option Entity) (y x : Entity) → UsableEntity y → ((x : Entity) → o ≡ Some x → UsableEntity x) → or_last o (if b then Some y else None) ≡ Some x → UsableEntity x
last_by b (Some z) y x u go e = subst UsableEntity (some_back e) (go z refl)
last_by true None y x u go e = subst UsableEntity (some_back e) u
last_by false None y x u go e = cc

pub entities_last : (ns : List (List ℕ × Entity)) (name : List ℕ) (x : Entity) → AllEntities ns → last_of ns name ≡ Some x → UsableEntity x
entities_last [] name x h e = cc
entities_last (n ∷ ns) name x h e =
    last_by (pointwise nat_eq n.0 name) (last_of ns name) n.1 x (All-head (λ (n : List ℕ × Entity). UsableEntity n.1) n ns h) (λ x e. entities_last ns name x (All-tail (λ (n : List ℕ × Entity). UsableEntity n.1) n ns h) e) e

pub entities_usable : (s : Scope) → AllEntities s.names → UsableScope s
entities_usable s h = record { means = λ name x e. entities_last s.names name x h e }

pub all_usable : (ks : List Kind) → All IsUsable ks → AllUsable ks
all_usable [] h = no_kinds
all_usable (k ∷ ks) h = more_kinds k ks (All-head IsUsable k ks h) (all_usable ks (All-tail IsUsable k ks h))
