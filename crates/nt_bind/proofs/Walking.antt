-- What the parts of the walk owe one another: usable things, operands of calls, slots of patterns.
use Rattle.std.proofs.Common.{◌≡◌, ◌≤◌, ℕ, false, zero, suc, ◌+◌, ◌++◌, List, [], ◌∷◌, length, drop, map, replicate, Option, Some, None, Result, Ok, Err, refl, sym, ap, ◌∙◌, subst, arith, slice_get}
use Rattle.std.specs.Prelude.{option_map}
use Rattle.std.specs.Prelude.{All, max, min, ◌-◌}
use Rattle.std.specs.List.{flat_map}
use Rattle.std.proofs.lemmas.List.{append_assoc, length-append}
use Rattle.std.proofs.lemmas.List.Elements.{All-take, All-drop}
use Rattle.std.proofs.Math.Seq.{take-append_seam, drop-append_seam}
use Rattle.std.proofs.lemmas.Option.{slice_get_within, get_or_from_slice_get}
use Rattle.nt_value.specs.declared.place.Place.{Place}
use Rattle.nt_diag.specs.declared.refusal.Fault.{Fault as Failure}
use Rattle.nt_diag.specs.declared.refusal.Fault.TheVariants as fault
use Rattle.nt_ast.specs.Places.{Node}
use Rattle.nt_ast.specs.Names.{path_name}
use Rattle.nt_ast.specs.declared.path.Path.{Path}
use Rattle.nt_ast.specs.declared.expr.Key.{Key}
use Rattle.nt_ast.specs.declared.expr.Expr.{Expr}
use Rattle.nt_ast.specs.declared.expr.Expr.TheOpen.{Expr-F}
use Rattle.nt_ast.specs.declared.expr.Expr.TheViews.{out-Expr, roll-Expr, roll-out-Expr}
use Rattle.nt_ast.specs.declared.expr.Expr.TheVariants as e
use Rattle.nt_diag.specs.declared.rule.Rule.TheVariants as rule
use Rattle.nt_typing.proofs.LeastTo.{refuse_unplanned}
use Rattle.nt_const.specs.Tells.{refusal}
use Rattle.nt_design.specs.declared.tree.Tree.{Tree}
use Rattle.nt_value.specs.Digits.{IsLeaf}
use Rattle.nt_value.specs.declared.leaf.Leaf.{Leaf}
use Rattle.nt_kinds.specs.Kinds.{span, leaves, IsSound}
use Rattle.nt_typing.proofs.Leaves.{struct_leaves, array_leaves}
use Rattle.nt_patterns.proofs.Kept.{opened}
use Rattle.nt_kinds.specs.declared.kind.Kind.{Kind}
use Rattle.nt_kinds.specs.declared.kind.Kind.TheOpen.{Kind-F}
use Rattle.nt_kinds.specs.declared.kind.Kind.TheViews.{out-Kind, roll-Kind, out-roll-Kind}
use Rattle.nt_kinds.specs.declared.kind.Kind.TheVariants as k
use denote.Hole.Carrier.{roll}
use Rattle.nt_typing.specs.Names.{meaning_of}
use Rattle.nt_typing.specs.Tables.{called, given, planned, plan_for, slots_of}
use Rattle.nt_typing.specs.Typing.{AllGo, none_go}
use Rattle.nt_typing.specs.Faults.{is_pattern}
use Rattle.nt_typing.specs.declared.scope.Callable.{Callable}
use Rattle.nt_typing.specs.declared.scope.Scope.{Scope}
use Rattle.nt_typing.specs.declared.thing.Thing.{Thing}
use Rattle.nt_drafts.specs.declared.drafts.Draft.{Draft}
use Rattle.nt_things.specs.Usable.{Few, few_members, few_elements, FewEach, more_members, IsUsable, AllUsable, more_kinds, UsableFunction, UsableScope, OnUsable}
use Rattle.nt_things.proofs.Using.{stands_is, called_usable, few_at}
use Rattle.nt_patterns.specs.Picks.{Items, Slots, Plan, Picks, no_picks, more_picks, PicksFor}
use Rattle.nt_forms.specs.Walks.{Bases, Drafts, Sends}
use Rattle.nt_forms.proofs.Assigning.{usable_draft}
use Rattle.nt_bind.specs.Patterns.{OnUsableDraft}
use Rattle.nt_bind.proofs.Rising.{Sending}

-- ---- a node and its operands
pub moved : (P : Node → Type 0) (x y : Expr) → x ≡ y → P (out-Expr x) → P (out-Expr y)
moved P x y e h = subst (λ x. P (out-Expr x)) e h

pub at_node : (s : Scope) (x n : Node) (r : Result Draft Failure) → x ≡ n → Drafts s n r → Drafts s x r
at_node s x n r e h = subst (λ n. Drafts s n r) (sym e) h

-- ---- usable things
pub bases_usable : (s : Scope) (x : Node) (r : Result Thing Failure) → UsableScope s → Bases s x r → OnUsable r
bases_usable s x (Ok h) u b = stands_is u b
bases_usable s x (Err f) u b = tt

pub drafts_usable : (s : Scope) (x : Node) (r : Result Draft Failure) → UsableScope s → Drafts s x r → OnUsableDraft r
drafts_usable s x (Ok d) u h = usable_draft u h
drafts_usable s x (Err f) u h = tt

pub callee_usable : (s : Scope) (path : Path) (n : ℕ) (f : Callable) → UsableScope s → called (meaning_of s path) n ≡ Ok f → UsableFunction f
callee_usable s path n f u e = called_usable (meaning_of s path) n f (λ x g. u.means (path_name path) x g) e

some_back : {A : Type 0} {a b : A} → Some a ≡ Some b → a ≡ b
some_back e = cc

some_none : {A : Type 0} {a : A} → Some a ≡ None → ⊥
some_none e = cc

pub usable_at : (ks : List Kind) (i : ℕ) (k : Kind) → AllUsable ks → slice_get ks i ≡ Some k → IsUsable k
usable_at [] i k u e = cc
usable_at (x ∷ ks) zero k (more_kinds _ _ a r) e = subst IsUsable (some_back e) a
usable_at (x ∷ ks) (suc i) k (more_kinds _ _ a r) e = usable_at ks i k r e

-- ---- the operands of a call
pub at_index : {A : Type 0} (xs : List A) (i : ℕ) (x : A) → slice_get xs i ≡ Some x → drop i xs ≡ x ∷ drop (suc i) xs
at_index [] i x e = cc
at_index (y ∷ xs) zero x e = ap (λ z. z ∷ xs) (some_back e)
at_index (y ∷ xs) (suc i) x e = at_index xs i x e

given_none : (xs : List Expr) → given xs [] ≡ []
given_none [] = refl
given_none (x ∷ xs) = refl

given_drop : (i : ℕ) (xs : List Expr) (ks : List Kind) → drop i (given xs ks) ≡ given (drop i xs) (drop i ks)
given_drop zero xs ks = refl
given_drop (suc i) [] ks = refl
given_drop (suc i) (x ∷ xs) [] = sym (given_none (drop i xs))
given_drop (suc i) (x ∷ xs) (k ∷ ks) = given_drop i xs ks

pub given_at : (i : ℕ) (xs : List Expr) (ks : List Kind) (x : Expr) (k : Kind) → drop i xs ≡ x ∷ drop (i + 1) xs → drop i ks ≡ k ∷ drop (i + 1) ks → drop i (given xs ks) ≡ (x, k) ∷ drop (i + 1) (given xs ks)
given_at i xs ks x k e f =
    given_drop i xs ks ∙ ap (λ ys. given ys (drop i ks)) e ∙ ap (λ js. given (x ∷ drop (i + 1) xs) js) f ∙ ap (λ ps. (x, k) ∷ ps) (sym (given_drop (i + 1) xs ks))

pub given_past_args : (i : ℕ) (xs : List Expr) (ks : List Kind) → drop i xs ≡ [] → drop i (given xs ks) ≡ []
given_past_args i xs ks e = given_drop i xs ks ∙ ap (λ ys. given ys (drop i ks)) e

pub given_past_kinds : (i : ℕ) (xs : List Expr) (ks : List Kind) → drop i ks ≡ [] → drop i (given xs ks) ≡ []
given_past_kinds i xs ks e = given_drop i xs ks ∙ ap (λ js. given (drop i xs) js) e ∙ given_none (drop i xs)

append_none : (ts : List Tree) → ts ++ [] ≡ ts
append_none [] = refl
append_none (t ∷ ts) = ap (λ us. t ∷ us) (append_none ts)

pub sending_end : (s : Scope) (plan : List (Expr × Kind)) (i : ℕ) (ts : List Tree) → drop i plan ≡ [] → Sending s plan i ts → AllGo s plan ts
sending_end s plan i ts e h = subst (AllGo s plan) (append_none ts) (h.goes [] (subst (λ ys. AllGo s ys []) (sym e) none_go))

-- ---- the slots of a pattern
pub record Slot (items : Items) (slots : Slots) (n : ℕ) (plan : Plan) (i : ℕ) : Type 0 where
  pub item : Option Key × Expr
  pub slot : Option (List ℕ) × Kind
  pub item_is : slice_get items n ≡ Some item
  pub slot_is : slice_get slots i ≡ Some slot
  pub rest : drop i plan ≡ (item.1, slot.1) ∷ drop (suc i) plan

pub picks_at : {items : Items} {slots : Slots} {is : List ℕ} {plan : Plan} (i n : ℕ) → Picks items slots is plan → slice_get is i ≡ Some n → Slot items slots n plan i
picks_at i n no_picks e = cc
picks_at {items = items} zero n (more_picks slot j item h p) e = record { item = item; slot = slot; item_is = subst (λ j. slice_get items j ≡ Some item) (some_back e) h; slot_is = refl; rest = refl }
picks_at (suc i) n (more_picks slot j item h p) e =
    let r = picks_at i n p e in record { item = r.item; slot = r.slot; item_is = r.item_is; slot_is = r.slot_is; rest = r.rest }

-- the slots of a plan and its numbers
pub record Numbered (o : Option Slots) (items : Items) (is : List ℕ) (plan : Plan) : Type 0 where
  pub slots : Slots
  pub is_slots : o ≡ Some slots
  pub picks : Picks items slots is plan

pub numbered : (o : Option Slots) (items : Items) (is : List ℕ) (plan : Plan) → PicksFor (λ v. v) items o (Some is) → plan_for o items ≡ Some plan → Numbered o items is plan
numbered None items is plan h e = cc
numbered (Some slots) items is plan h e = record { slots = slots; is_slots = refl; picks = subst (Picks items slots is) (some_back (sym h.is_plan ∙ e)) h.picks }

one_slot : (n : ℕ) (p : Option (List ℕ) × Kind) (i : ℕ) (slot : Option (List ℕ) × Kind) → slice_get (replicate n p) i ≡ Some slot → p ≡ slot
one_slot zero p i slot e = cc
one_slot (suc n) p zero slot e = some_back e
one_slot (suc n) p (suc i) slot e = one_slot n p i slot e

-- the type of a member, of an element
pub member_slot : (ms : List (List ℕ × Kind)) (i : ℕ) (slots : Slots) (slot : Option (List ℕ) × Kind) → map (λ m. (Some m.0, m.1)) ms ≡ slots → slice_get slots i ≡ Some slot → option_map (λ m. m.1) (slice_get ms i) ≡ Some slot.1
member_slot [] i slots slot e f = cc
member_slot (m ∷ ms) zero slots slot e f =
    let g : (let p : Option (List ℕ) × Kind = (Some m.0, m.1) in p) ≡ slot = some_back (ap (λ s. slice_get s zero) e ∙ f) in ap (λ p. Some p.1) g
member_slot (m ∷ ms) (suc i) slots slot e f = member_slot ms i (map (λ m. (Some m.0, m.1)) ms) slot refl (ap (λ s. slice_get s (suc i)) e ∙ f)

pub element_slot : (n : ℕ) (element : Kind) (i : ℕ) (slots : Slots) (slot : Option (List ℕ) × Kind) → replicate n (None, element) ≡ slots → slice_get slots i ≡ Some slot → element ≡ slot.1
element_slot n element i slots slot e f = ap (λ p. p.1) (one_slot n (None, element) i slot (ap (λ s. slice_get s i) e ∙ f))

seen_struct : (x : Kind) (at : Place) (ms : List (List ℕ × Kind)) → x ≡ k.Struct at ms → out-Kind x ≡ Kind-F.Struct at ms
unfolding roll-Kind roll
seen_struct x at ms h = ap out-Kind h ∙ out-roll-Kind (Kind-F.Struct at ms)

seen_array : (x : Kind) (l r : ℕ) (e : Kind) → x ≡ k.Array l r e → out-Kind x ≡ Kind-F.Array l r e
unfolding roll-Kind roll
seen_array x l r e h = ap out-Kind h ∙ out-roll-Kind (Kind-F.Array l r e)

struct_slots : (x : Kind) (at : Place) (ms : List (List ℕ × Kind)) (slots : Slots) → x ≡ k.Struct at ms → slots_of (out-Kind x) ≡ Some slots → map (λ m. (Some m.0, m.1)) ms ≡ slots
struct_slots x at ms slots h e = some_back (sym (ap slots_of (seen_struct x at ms h)) ∙ e)

pub struct_some : (x : Kind) (at : Place) (ms : List (List ℕ × Kind)) (slots : Slots) (i : ℕ) (slot : Option (List ℕ) × Kind) (m : List ℕ × Kind) → x ≡ k.Struct at ms → slice_get ms i ≡ Some m
    → slots_of (out-Kind x) ≡ Some slots → slice_get slots i ≡ Some slot → Some m.1 ≡ Some slot.1
struct_some x at ms slots i slot m h f e g = ap (option_map (λ m. m.1)) (sym f) ∙ member_slot ms i slots slot (struct_slots x at ms slots h e) g

pub struct_none : (x : Kind) (at : Place) (ms : List (List ℕ × Kind)) (slots : Slots) (i : ℕ) (slot : Option (List ℕ) × Kind) → x ≡ k.Struct at ms → slice_get ms i ≡ None
    → slots_of (out-Kind x) ≡ Some slots → slice_get slots i ≡ Some slot → None ≡ Some slot.1
struct_none x at ms slots i slot h f e g = ap (option_map (λ m. m.1)) (sym f) ∙ member_slot ms i slots slot (struct_slots x at ms slots h e) g

pub array_some : (x : Kind) (l r : ℕ) (e : Kind) (slots : Slots) (i : ℕ) (slot : Option (List ℕ) × Kind) (y : Kind) → x ≡ k.Array l r e → y ≡ e
    → slots_of (out-Kind x) ≡ Some slots → slice_get slots i ≡ Some slot → Some y ≡ Some slot.1
array_some x l r e slots i slot y h q f g = ap Some (q ∙ element_slot (span l r) e i slots slot (some_back (sym (ap slots_of (seen_array x l r e h)) ∙ f)) g)

-- ---- patterns
unplanned_at : {A : Type 0} (now : A → List ℕ) (o : Option Slots) (items : Items) → PicksFor now items o None → plan_for o items ≡ None
unplanned_at now None items h = refl
unplanned_at now (Some slots) items h = h

pub pattern_unplanned : {A : Type 0} (s : Scope) (k : Kind) (at : Place) (items : Items) (now : A → List ℕ) (f : Failure) {r : Option A} → f ≡ fault.Refused (refusal rule.T8 at) → PicksFor now items (slots_of (out-Kind k)) r → r ≡ None
    → Sends s (Expr-F.Pattern at items) k (Err f)
pattern_unplanned s k at items now f e h n =
    subst (λ f. Sends s (Expr-F.Pattern at items) k (Err f)) (sym e)
    (refuse_unplanned k at items (unplanned_at now (slots_of (out-Kind k)) items (subst (λ r. PicksFor now items (slots_of (out-Kind k)) r) n h)))

pub record HasPlan (k : Kind) (items : Items) : Type 0 where
  pub plan : Plan
  pub is : planned k items ≡ Some plan

planned_at : {A : Type 0} (now : A → List ℕ) (o : Option Slots) (items : Items) (v : A) (P : Type 0) → PicksFor now items o (Some v) → ((plan : Plan) → plan_for o items ≡ Some plan → P) → P
planned_at now None items v P h go = absurd (some_none h)
planned_at now (Some slots) items v P h go = go h.plan h.is_plan

pub pattern_planned : {A : Type 0} (k : Kind) (items : Items) (now : A → List ℕ) {r : Option A} {v : A} → PicksFor now items (slots_of (out-Kind k)) r → r ≡ Some v → HasPlan k items
pattern_planned k items now {v = v} h e =
    planned_at now (slots_of (out-Kind k)) items v (HasPlan k items) (subst (λ r. PicksFor now items (slots_of (out-Kind k)) r) e h) (λ plan e. record { plan = plan; is = e })

past_end : {items : Items} {slots : Slots} {is : List ℕ} {plan : Plan} (i : ℕ) → Picks items slots is plan → length is ≤ i → drop i plan ≡ []
past_end zero no_picks le = refl
past_end (suc i) no_picks le = refl
past_end zero (more_picks slot j item h p) le = absurd (omega arith)
past_end (suc i) (more_picks slot j item h p) le = past_end i p (omega arith)

pub plan_past : (k : Kind) (items : Items) (is : List ℕ) (plan : Plan) (i : ℕ) → PicksFor (λ v. v) items (slots_of (out-Kind k)) (Some is) → planned k items ≡ Some plan → length is ≤ i → drop i plan ≡ []
plan_past k items is plan i h e le = past_end i (numbered (slots_of (out-Kind k)) items is plan h e).picks le

-- ---- what is no pattern
other_node : (x : Expr) (y : Node) → out-Expr x ≡ y → ((at : Place) (items : Items) → x ≡ e.Pattern at items → ⊥) → is_pattern y ≡ false
unfolding roll-Expr roll
other_node x (Expr-F.Literal at v) h never = refl
other_node x (Expr-F.Read at path) h never = refl
other_node x (Expr-F.Member at y p name) h never = refl
other_node x (Expr-F.Item at y z) h never = refl
other_node x (Expr-F.Part at y z w) h never = refl
other_node x (Expr-F.Indexed at y z w up) h never = refl
other_node x (Expr-F.Unary at op y) h never = refl
other_node x (Expr-F.Binary at op y z) h never = refl
other_node x (Expr-F.Choose at y z w) h never = refl
other_node x (Expr-F.Concat at xs) h never = refl
other_node x (Expr-F.Repeat at y xs) h never = refl
other_node x (Expr-F.Pattern at items) h never = absurd (never at items (sym (roll-out-Expr x) ∙ ap roll-Expr h))
other_node x (Expr-F.Call at path xs) h never = refl
other_node x (Expr-F.Size at y) h never = refl
other_node x (Expr-F.Time at) h never = refl
other_node x (Expr-F.Sign at b y) h never = refl

pub no_pattern : (x : Expr) → ((at : Place) (items : Items) → x ≡ e.Pattern at items → ⊥) → is_pattern (out-Expr x) ≡ false
no_pattern x never = other_node x (out-Expr x) refl never

-- ---- by numbers
pub at_plus : {A : Type 0} (xs : List A) (i : ℕ) (x : A) → slice_get xs i ≡ Some x → drop i xs ≡ x ∷ drop (i + 1) xs
at_plus xs i x e = opened xs i x (slice_get_within xs i x e) (sym (get_or_from_slice_get xs i x x e))

pub past_index : {A : Type 0} (xs : List A) (i : ℕ) → slice_get xs i ≡ None → drop i xs ≡ []
past_index [] zero e = refl
past_index [] (suc i) e = refl
past_index (x ∷ xs) zero e = cc
past_index (x ∷ xs) (suc i) e = past_index xs i e

-- ---- the types of members and elements
all_left : (xs ys : List Leaf) → All IsLeaf (xs ++ ys) → All IsLeaf xs
all_left xs ys h = subst (All IsLeaf) (take-append_seam xs ys) (All-take IsLeaf (length xs) (xs ++ ys) h)

all_right : (xs ys : List Leaf) → All IsLeaf (xs ++ ys) → All IsLeaf ys
all_right xs ys h = subst (All IsLeaf) (drop-append_seam xs ys) (All-drop IsLeaf (length xs) (xs ++ ys) h)

sound_part : (j : Kind) (all before after : List Leaf) → all ≡ before ++ (leaves j ++ after) → length all ≤ 64 → All IsLeaf all → IsSound j
sound_part j all before after e n v = record {
  within =
      let a : length all ≡ length (before ++ (leaves j ++ after)) = ap length e in
      let b = length-append before (leaves j ++ after) in let c = length-append (leaves j) after in omega (arith, a, b, c, n);
  valid = all_left (leaves j) after (all_right before (leaves j ++ after) (subst (All IsLeaf) e v));
}

record Split (all : List Leaf) (j : Kind) : Type 0 where
  before : List Leaf
  after : List Leaf
  is : all ≡ before ++ (leaves j ++ after)

member_split : (ms : List (List ℕ × Kind)) (i : ℕ) (m : List ℕ × Kind) → slice_get ms i ≡ Some m → Split (flat_map (λ m. leaves m.1) ms) m.1
member_split [] i m e = cc
member_split (n ∷ ms) zero m e = record { before = []; after = flat_map (λ m. leaves m.1) ms; is = ap (λ (m : List ℕ × Kind). leaves m.1 ++ flat_map (λ m. leaves m.1) ms) (some_back e) }
member_split (n ∷ ms) (suc i) m e =
    let r = member_split ms i m e in
    record { before = leaves n.1 ++ r.before; after = r.after; is = ap (λ ls. leaves n.1 ++ ls) r.is ∙ sym (append_assoc (leaves n.1) r.before (leaves m.1 ++ r.after)) }

few_by : (ms : List (List ℕ × Kind)) (i : ℕ) (m : List ℕ × Kind) → FewEach ms → slice_get ms i ≡ Some m → Few (out-Kind m.1)
few_by [] i m f e = cc
few_by (n ∷ ms) zero m (more_members _ _ a r) e = subst (λ (m : List ℕ × Kind). Few (out-Kind m.1)) (some_back e) a
few_by (n ∷ ms) (suc i) m (more_members _ _ a r) e = few_by ms i m r e

each_few : {at : Place} {ms : List (List ℕ × Kind)} → Few (Kind-F.Struct at ms) → FewEach ms
each_few (few_members _ _ h) = h

one_few : {l r : ℕ} {element : Kind} → Few (Kind-F.Array l r element) → Few (out-Kind element)
one_few (few_elements _ _ _ n h) = h

pub struct_usable : (x : Kind) (at : Place) (ms : List (List ℕ × Kind)) (i : ℕ) (m : List ℕ × Kind) → x ≡ k.Struct at ms → slice_get ms i ≡ Some m → IsUsable x → IsUsable m.1
struct_usable x at ms i m h e u =
    let f = seen_struct x at ms h in
    let r = member_split ms i m e in
    record { sound = sound_part m.1 (leaves x) r.before r.after (struct_leaves x at ms f ∙ r.is) u.sound.within u.sound.valid; few = few_by ms i m (each_few (few_at x _ f u.few)) e }

pub array_usable : (x : Kind) (l r : ℕ) (e y : Kind) → x ≡ k.Array l r e → y ≡ e → IsUsable x → IsUsable y
array_usable x l r e y h q u =
    let f = seen_array x l r e h in
    let n = max l r - min l r in
    subst IsUsable (sym q)
    (record { sound = sound_part e (leaves x) [] (flat_map (λ s. s) (replicate n (leaves e))) (array_leaves x l r e f) u.sound.within u.sound.valid; few = one_few (few_at x _ f u.few) })
