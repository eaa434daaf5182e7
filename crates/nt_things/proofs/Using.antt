-- In a usable scope an expression stands for something usable.
use Rattle.std.proofs.Common.{◌≡◌, ◌≤◌, ◌<◌, ◌^◌, ℕ, suc, ◌+◌, ◌*◌, List, [], ◌∷◌, length, drop, replicate, refl, sym, subst, arith}
use Rattle.std.specs.Prelude.{Bool, true, false, Option, Some, None, Ok, Err, All, ◌-◌, max, min, nat_eq, if◌then◌else◌}
use Rattle.std.specs.List.{flat_map}
use Rattle.std.specs.Cmp.Lexicographic.{pointwise}
use Rattle.std.proofs.lemmas.List.{length-append}
use Rattle.std.proofs.Math.Seq.{take-append_seam}
use Rattle.std.proofs.lemmas.List.Elements.{All-take, All-drop}
use Rattle.nt_value.specs.Digits.{IsLeaf}
use Rattle.nt_value.specs.Operators.{unsigned_leaf}
use Rattle.nt_value.specs.declared.leaf.Leaf.{Leaf}
use Rattle.nt_value.specs.declared.place.Place.{Place}
use Rattle.nt_diag.specs.declared.rule.Rule.TheVariants as rule
use Rattle.nt_ast.specs.Names.{path_name}
use Rattle.nt_ast.specs.Places.{Node}
use Rattle.nt_const.specs.Tables.{with_sign, count_of}
use Rattle.nt_design.specs.Parts.{leaves_at}
use Rattle.nt_design.specs.Shapes.{is_width}
use Rattle.nt_design.specs.declared.tree.Tree.{Tree}
use Rattle.nt_design.specs.declared.tree.Tree.TheVariants as t
use Rattle.nt_kinds.specs.Kinds.{IsSound, leaves, span}
use Rattle.nt_kinds.specs.declared.kind.Kind.{Kind}
use Rattle.nt_kinds.specs.declared.kind.Kind.TheOpen.{Kind-F}
use Rattle.nt_kinds.specs.declared.kind.Kind.TheViews.{out-Kind, roll-Kind, out-roll-Kind}
use denote.Hole.Carrier.{roll}
use Rattle.nt_typing.specs.declared.scope.Callable.{Callable}
use Rattle.nt_typing.specs.declared.scope.Entity.{Entity}
use Rattle.nt_typing.specs.declared.scope.Entity.TheVariants as e
use Rattle.nt_typing.specs.declared.scope.Inside.{Inside}
use Rattle.nt_typing.specs.declared.scope.Inside.TheVariants as inside
use Rattle.nt_typing.specs.declared.scope.Scope.{Scope}
use Rattle.nt_typing.specs.declared.thing.Thing.{Thing}
use Rattle.nt_typing.specs.declared.thing.Thing.TheVariants.{Value as value, Many as many}
use Rattle.nt_typing.specs.Kinds.{plain, Found, found_from}
use Rattle.nt_typing.specs.Tables.{thing_of, found_member, member_in, member_of, number_tree, indexed_low, part_low, part_width, digits_thing, item_in, item_of, part_in, part_of, indexed_in, indexed_of, size_of, time_in, concat_thing, copies, callable_of, called, answer_of, thing_leaf}
use Rattle.nt_typing.specs.Typing.{Stands, read, member, item, part, indexed, concat, repeated, call, size, time, sign, Alone, stands, literal, unary, binary, choose, itself}
use Rattle.nt_typing.proofs.Leaves.{struct_leaves, array_leaves, found_part}
use Rattle.nt_typing.proofs.Pieces.{ok_back, clash, width_back, plain_kind, leaf_is}
use Rattle.nt_typing.proofs.Shaping.{unary_is, binary_is, choice_is}
use Rattle.nt_things.specs.Usable.{Few, few_one, few_members, few_elements, FewEach, more_members, IsUsable, UsableResult, UsableFunction, UsableEntity, UsableScope, UsableThing}
use Rattle.nt_things.specs.Laws.{StandsUsable}

pub few_at : (k : Kind) (y : Kind-F Kind) → out-Kind k ≡ y → Few (out-Kind k) → Few y
few_at k y e h = subst Few e h

pub few_plain : (l : Leaf) → Few (out-Kind (plain l))
unfolding roll-Kind roll
few_plain l = subst Few (sym (out-roll-Kind (Kind-F.One l (l.width - 1) 0))) (few_one l (l.width - 1) 0)

pub plain_usable : (l : Leaf) → IsLeaf l → IsUsable (plain l)
plain_usable l h = record { sound = plain_kind l h; few = few_plain l }

part_sound : (k : Kind) (ls : List Leaf) (first count : ℕ) (j : Kind) → IsSound k → leaves k ≡ ls → first + count ≤ length ls → leaves_at first count ls ≡ leaves j → count ≡ length (leaves j) → IsSound j
part_sound k ls first count j h e n f c = record {
  within =
      let a : length ls ≤ 64 = subst (λ ls. length ls ≤ 64) e h.within in omega (arith, a, n, c);
  valid = subst (λ ls. All IsLeaf ls) f (All-take IsLeaf count (drop first ls) (All-drop IsLeaf first ls (subst (λ ls. All IsLeaf ls) e h.valid)));
}

some_back : {A : Type 0} {a b : A} → Some a ≡ Some b → a ≡ b
some_back e = cc

found_few_by : (b : Bool) (m : List ℕ × Kind) (first : ℕ) (rest : Option Found) (f : Found) → Few (out-Kind m.1) → (rest ≡ Some f → Few (out-Kind f.kind))
    → (if b then Some (record { kind = m.1; first = first }) else rest) ≡ Some f → Few (out-Kind f.kind)
found_few_by true m first rest f h go e = subst (λ (f : Found). Few (out-Kind f.kind)) (some_back e) h
found_few_by false m first rest f h go e = go e

found_few : (ms : List (List ℕ × Kind)) (first : ℕ) (name : List ℕ) (f : Found) → FewEach ms → found_from first ms name ≡ Some f → Few (out-Kind f.kind)
found_few [] first name f h e = cc
found_few (m ∷ ms) first name f (more_members _ _ a r) e =
    found_few_by (pointwise nat_eq m.0 name) m first (found_from (first + length (leaves m.1)) ms name) f a (λ e. found_few ms (first + length (leaves m.1)) name f r e) e

few_each : {at : Place} {ms : List (List ℕ × Kind)} → Few (Kind-F.Struct at ms) → FewEach ms
few_each (few_members _ _ h) = h

few_of : {l r : ℕ} {element : Kind} → Few (Kind-F.Array l r element) → Few (out-Kind element)
few_of (few_elements _ _ _ n h) = h

pub few_span : {l r : ℕ} {element : Kind} → Few (Kind-F.Array l r element) → span l r < 2 ^ 32
few_span (few_elements _ _ _ n h) = n

found_usable : (k : Kind) (a : Tree) (at : Place) (ms : List (List ℕ × Kind)) (name : List ℕ) (o : Option Found) (h : Thing) → IsUsable k → out-Kind k ≡ Kind-F.Struct at ms
    → found_from 0 ms name ≡ o → found_member o a ≡ Ok h → UsableThing h
found_usable k a at ms name None h u e f r = absurd (clash refl r)
found_usable k a at ms name (Some found) h u e f r =
    let p = found_part ms [] 0 name found refl f in
    subst UsableThing (ok_back refl r)
    (record {
      sound = part_sound k (flat_map (λ (m : List ℕ × Kind). leaves m.1) ms) found.first (length (leaves found.kind)) found.kind u.sound (struct_leaves k at ms e) p.within p.is refl;
      few = found_few ms 0 name found (few_each (few_at k _ e u.few)) f;
    })

member_usable_at : (y : Kind-F Kind) (k : Kind) (a : Tree) (name : List ℕ) (h : Thing) → IsUsable k → out-Kind k ≡ y → member_in y a name ≡ Ok h → UsableThing h
member_usable_at (Kind-F.One leaf l r) k a name h u e f = absurd (clash refl f)
member_usable_at (Kind-F.Struct at ms) k a name h u e f = found_usable k a at ms name (found_from 0 ms name) h u e refl f
member_usable_at (Kind-F.Array l r element) k a name h u e f = absurd (clash refl f)

pub member_usable : (g h : Thing) (name : List ℕ) → UsableThing g → member_of g name ≡ Ok h → UsableThing h
member_usable (value k a) h name u f = member_usable_at (out-Kind k) k a name h u refl f
member_usable (many k) h name u f = absurd (clash refl f)

digits_by : (b : Bool) (leaf : Leaf) (a low : Tree) (width : ℕ) (h : Thing) → b ≡ is_width width
    → (if b then Ok (value (plain (unsigned_leaf width leaf.four)) (t.Part a low width)) else Err rule.T2) ≡ Ok h → UsableThing h
digits_by true leaf a low width h w g =
    let l : IsLeaf (unsigned_leaf width leaf.four) = width_back width (sym w) in subst UsableThing (ok_back refl g) (plain_usable (unsigned_leaf width leaf.four) l)
digits_by false leaf a low width h w g = absurd (clash refl g)

digits_usable : (leaf : Leaf) (a low : Tree) (width : ℕ) (h : Thing) → digits_thing leaf a low width ≡ Ok h → UsableThing h
digits_usable leaf a low width h g = digits_by (is_width width) leaf a low width h refl g

element_usable : (k : Kind) (l r : ℕ) (element : Kind) → IsUsable k → out-Kind k ≡ Kind-F.Array l r element → IsUsable element
element_usable k l r element u e =
    let n = max l r - min l r in
    let rest = flat_map (λ s. s) (replicate n (leaves element)) in
    let c = length-append (leaves element) rest in
    record {
      sound = part_sound k (flat_map (λ s. s) (replicate (suc n) (leaves element))) 0 (length (leaves element)) element u.sound (array_leaves k l r element e) (omega (arith, c)) (take-append_seam (leaves element) rest) refl;
      few = few_of (few_at k _ e u.few);
    }

item_usable_at : (y : Kind-F Kind) (k : Kind) (a : Tree) (m : Leaf) (i : Tree) (h : Thing) → IsUsable k → out-Kind k ≡ y → item_in y a m i ≡ Ok h → UsableThing h
item_usable_at (Kind-F.One leaf l r) k a m i h u f q = digits_usable leaf a (indexed_low l r true 1 m i) 1 h q
item_usable_at (Kind-F.Struct at ms) k a m i h u f q = absurd (clash refl q)
item_usable_at (Kind-F.Array l r element) k a m i h u f q = subst UsableThing (ok_back refl q) (element_usable k l r element u f)

pub item_usable : (g h : Thing) (m : Leaf) (i : Tree) → UsableThing g → item_of g m i ≡ Ok h → UsableThing h
item_usable (value k a) h m i u f = item_usable_at (out-Kind k) k a m i h u refl f
item_usable (many k) h m i u f = subst UsableThing (ok_back refl f) u

part_usable_at : (y : Kind-F Kind) (a : Tree) (l r : ℕ) (h : Thing) → part_in y a l r ≡ Ok h → UsableThing h
part_usable_at (Kind-F.One leaf left right) a l r h q = digits_usable leaf a (number_tree false (part_low left right r)) (part_width left right l r) h q
part_usable_at (Kind-F.Struct at ms) a l r h q = absurd (clash refl q)
part_usable_at (Kind-F.Array left right element) a l r h q = absurd (clash refl q)

pub part_usable : (g h : Thing) (l r : ℕ) → part_of g l r ≡ Ok h → UsableThing h
part_usable (value k a) h l r f = part_usable_at (out-Kind k) a l r h f
part_usable (many k) h l r f = absurd (clash refl f)

indexed_usable_at : (y : Kind-F Kind) (a : Tree) (up : Bool) (m : Leaf) (i : Tree) (width : ℕ) (h : Thing) → indexed_in y a up m i width ≡ Ok h → UsableThing h
indexed_usable_at (Kind-F.One leaf l r) a up m i width h q = digits_usable leaf a (indexed_low l r up width m i) width h q
indexed_usable_at (Kind-F.Struct at ms) a up m i width h q = absurd (clash refl q)
indexed_usable_at (Kind-F.Array l r element) a up m i width h q = absurd (clash refl q)

pub indexed_usable : (g h : Thing) (up : Bool) (m : Leaf) (i : Tree) (width : ℕ) → indexed_of g up m i width ≡ Ok h → UsableThing h
indexed_usable (value k a) h up m i width f = indexed_usable_at (out-Kind k) a up m i width h f
indexed_usable (many k) h up m i width f = absurd (clash refl f)

pub size_usable : (g h : Thing) → size_of g ≡ Ok h → UsableThing h
size_usable (value k a) h f = absurd (clash refl f)
size_usable (many k) h f = subst UsableThing (ok_back refl f) (plain_usable _ (omega arith, omega arith))

pub time_usable : (w : Inside) (h : Thing) → time_in w ≡ Ok h → UsableThing h
time_usable inside.Procedure h f = subst UsableThing (ok_back refl f) (plain_usable _ (omega arith, omega arith))
time_usable (inside.Function result) h f = absurd (clash refl f)
time_usable inside.Other h f = absurd (clash refl f)

concat_by : (b : Bool) (n : ℕ) (four : Bool) (ts : List Tree) (h : Thing) → b ≡ is_width n
    → (if b then Ok (value (plain (unsigned_leaf n four)) (t.Concat ts)) else Err rule.T2) ≡ Ok h → UsableThing h
concat_by true n four ts h w g =
    let l : IsLeaf (unsigned_leaf n four) = width_back n (sym w) in subst UsableThing (ok_back refl g) (plain_usable (unsigned_leaf n four) l)
concat_by false n four ts h w g = absurd (clash refl g)

pub concat_usable : (n : ℕ) (four : Bool) (ts : List Tree) (h : Thing) → concat_thing n four ts ≡ Ok h → UsableThing h
concat_usable n four ts h g = concat_by (is_width n) n four ts h refl g

entity_usable : (x : Entity) (h : Thing) → UsableEntity x → thing_of (Some x) ≡ Ok h → UsableThing h
entity_usable (e.Net net k user) h u f = subst UsableThing (ok_back refl f) u
entity_usable e.Interconnect h u f = absurd (clash refl f)
entity_usable (e.Var var k) h u f = subst UsableThing (ok_back refl f) u
entity_usable (e.Local local k) h u f = subst UsableThing (ok_back refl f) u
entity_usable (e.Array element) h u f = subst UsableThing (ok_back refl f) u
entity_usable (e.Constant v) h u f = subst UsableThing (ok_back refl f) (plain_usable v.leaf u)
entity_usable (e.Function c) h u f = absurd (clash refl f)

pub name_usable : (o : Option Entity) (h : Thing) → ((x : Entity) → o ≡ Some x → UsableEntity x) → thing_of o ≡ Ok h → UsableThing h
name_usable None h u f = absurd (clash refl f)
name_usable (Some x) h u f = entity_usable x h (u x refl) f

-- ---- calls
callable_by : (b c : Bool) (f g : Callable) → (if b then Err rule.T8 else if c then Ok f else Err rule.T16) ≡ Ok g → f ≡ g
callable_by true c f g e = absurd (clash refl e)
callable_by false true f g e = ok_back refl e
callable_by false false f g e = absurd (clash refl e)

callable_is : (f g : Callable) (n : ℕ) → callable_of f n ≡ Ok g → f ≡ g
callable_is f g n e = callable_by _ _ f g e

pub called_usable : (o : Option Entity) (n : ℕ) (f : Callable) → ((x : Entity) → o ≡ Some x → UsableEntity x) → called o n ≡ Ok f → UsableFunction f
called_usable None n f u q = absurd (clash refl q)
called_usable (Some (e.Net net k user)) n f u q = absurd (clash refl q)
called_usable (Some e.Interconnect) n f u q = absurd (clash refl q)
called_usable (Some (e.Var var k)) n f u q = absurd (clash refl q)
called_usable (Some (e.Local local k)) n f u q = absurd (clash refl q)
called_usable (Some (e.Array element)) n f u q = absurd (clash refl q)
called_usable (Some (e.Constant v)) n f u q = absurd (clash refl q)
called_usable (Some (e.Function g)) n f u q = subst UsableFunction (callable_is g f n q) (u (e.Function g) refl)

pub answer_usable : (o : Option Kind) (n : ℕ) (ts : List Tree) (h : Thing) → UsableResult o → answer_of o n ts ≡ Ok h → UsableThing h
answer_usable None n ts h u q = absurd (clash refl q)
answer_usable (Some k) n ts h u q = subst UsableThing (ok_back refl q) u

usable_leaf : (h : Thing) (l : Leaf) → UsableThing h → thing_leaf h ≡ Some l → IsLeaf l
usable_leaf (value k a) l u e = leaf_is k l u.sound e
usable_leaf (many k) l u e = cc

module _ {s : Scope} (scope : UsableScope s) where
  mutual
    pub stands_is : {x : Node} {h : Thing} → Stands s x h → UsableThing h
    stands_is (read {h = h} at path e) = name_usable _ h (λ x f. scope.means (path_name path) x f) e
    stands_is (member {h = h} at x name_at name a e) = member_usable _ h name (stands_is a) e
    stands_is (item {h = h} at x y a i e) = item_usable _ h _ _ (stands_is a) e
    stands_is (part {h = h} at x y z a u g v w e) = part_usable _ h _ _ e
    stands_is (indexed {h = h} at x y z up a i u g e) = indexed_usable _ h up _ _ _ e
    stands_is (concat {h = h} {n = n} {four = four} {ts = ts} at xs p e) = concat_usable n four ts h e
    stands_is (repeated {h = h} {v = v} {n = n} {four = four} {ts = ts} at x xs u g p e) = concat_usable (count_of v * n) four (copies (count_of v) ts) h e
    stands_is (call {h = h} at path xs e p g) =
        let f = called_usable _ _ _ (λ x f. scope.means (path_name path) x f) e in answer_usable _ _ _ h f.result g
    stands_is (size {h = h} at x a e) = size_usable _ h e
    stands_is (time {h = h} at e) = time_usable _ h e
    stands_is (sign {l = l} at b x (itself _ a t)) = plain_usable (with_sign b l) (alone_is a)

    pub alone_is : {x : Node} {l : Leaf} → Alone s x l → IsLeaf l
    alone_is (stands {h = h} {l = l} a e) = usable_leaf h l (stands_is a) e
    alone_is (literal at v w) = w
    alone_is (unary at op x a) = unary_is op _ (alone_is a)
    alone_is (binary at op x y a b) = binary_is op _ _ (alone_is a) (alone_is b)
    alone_is (choose {p = p} {l = l} {m = m} at z x y q a b) = choice_is p l m (alone_is a) (alone_is b)

pub stands_usable : StandsUsable
stands_usable s x h u a = stands_is u a
