-- A resolution function that adds its drivers, computed: `sum = 0; foreach (d[k]) sum += d[k];`
use Rattle.std.proofs.Common.{◌≡◌, ℕ, suc, List, [], ◌∷◌, refl, ◌∙◌}
use Rattle.std.specs.Prelude.{true, Some, None, length}
use Rattle.nt_value.specs.Operators.{binary_of}
use Rattle.nt_value.specs.declared.operator.Binary.TheVariants.{Add}
use Rattle.nt_value.specs.declared.place.Place.{Place as TextPlace}
use Rattle.nt_design.proofs.Acts.{does_assign, does_foreach}
use Rattle.nt_design.proofs.Values.{value_const, value_local, value_binary, value_element}
use Rattle.nt_design.specs.Expressions.{World, Calls, value_of}
use Rattle.nt_design.specs.Meaning.{calls_to, own_world}
use Rattle.nt_design.specs.Parts.{Value, only, one, int_leaf, int_value, number_in, position_of, element_at}
use Rattle.nt_design.specs.Statements.{each_of, does}
use Rattle.nt_design.specs.declared.act.Act as act
use Rattle.nt_design.specs.declared.act.Act.{Act}
use Rattle.nt_design.specs.declared.act.Act.TheViews as act_view
use Rattle.nt_design.specs.declared.act.Flow.TheVariants.{Next}
use Rattle.nt_design.specs.declared.function.Function.{Function}
use Rattle.nt_design.specs.declared.target.Target.TheVariants as target
use Rattle.nt_design.specs.declared.tree.Tree as tree
use Rattle.nt_design.specs.declared.tree.Tree.{Tree}
use Rattle.nt_design.specs.declared.tree.Tree.TheViews as view

abbrev pub here : TextPlace
here = record { file = 0; offset = 0; line = 1; column = 1 }

-- the sum is local 0, and the index local 1
abbrev element : Tree
element = view.Element (tree.Local 1)

abbrev plus : Tree
plus = view.Binary Add (tree.Local 0) element

abbrev adds : Act
adds = act.Assign (target.Local 0 []) plus here

abbrev clears : Act
clears = act.Assign (target.Local 0 []) (tree.Const (int_value 0)) here

abbrev for_each : Act
for_each = act_view.Foreach None 1 adds here

abbrev pub sum : Function
sum = record {
  name = [];
  args = (int_leaf ∷ []) ∷ [];
  many = true;
  locals = (int_leaf ∷ []) ∷ [];
  result = int_leaf ∷ [];
  body = clears ∷ for_each ∷ [];
  at = here;
}

-- the element to which an index leads
abbrev picked : World → Value → Value
picked world k = element_at world.element world.many (position_of 0 (length world.many) true (number_in k))

abbrev added : Value → Value → Value
added a b = one (binary_of Add (only a) (only b))

element_is : (calls : Calls) (world : World) (s k : Value) (left : ℕ) → value_of calls world element (s ∷ k ∷ []) left ≡ Some (picked world k, left)
element_is calls world s k left =
    value_element calls world (tree.Local 1) (s ∷ k ∷ []) left ∙ rw (value_local calls world 1 (s ∷ k ∷ []) left) refl

plus_is : (calls : Calls) (world : World) (s k : Value) (left : ℕ) → value_of calls world plus (s ∷ k ∷ []) left ≡ Some (added s (picked world k), left)
plus_is calls world s k left =
    value_binary calls world Add (tree.Local 0) element (s ∷ k ∷ []) left
    ∙ rw (value_local calls world 0 (s ∷ k ∷ []) left, element_is calls world s k left) refl

adds_is : (calls : Calls) (world : World) (s k : Value) (left : ℕ) → does calls world 0 adds (s ∷ k ∷ []) left ≡ Some ((added s (picked world k) ∷ k ∷ [], Next), left)
adds_is calls world s k left =
    does_assign calls world 0 (target.Local 0 []) plus here (s ∷ k ∷ []) left ∙ rw (plus_is calls world s k left) refl

clears_is : (calls : Calls) (world : World) (s k : Value) (left : ℕ) → does calls world 0 clears (s ∷ k ∷ []) left ≡ Some ((int_value 0 ∷ k ∷ [], Next), left)
clears_is calls world s k left =
    does_assign calls world 0 (target.Local 0 []) (tree.Const (int_value 0)) here (s ∷ k ∷ []) left
    ∙ rw (value_const calls world (int_value 0) (s ∷ k ∷ []) left) refl

-- two elements: two iterations
for_each_is : (calls : Calls) (a b s k : Value) (left : ℕ) → does calls (own_world sum (a ∷ b ∷ [])) 0 for_each (s ∷ k ∷ []) (suc (suc left)) ≡ Some ((added (added s a) b ∷ int_value 1 ∷ [], Next), left)
unfolding each_of
for_each_is calls a b s k left =
    does_foreach calls (own_world sum (a ∷ b ∷ [])) 0 None 1 adds here (s ∷ k ∷ []) (suc (suc left))
    ∙ rw (adds_is calls (own_world sum (a ∷ b ∷ [])) s (int_value 0) (suc left), adds_is calls (own_world sum (a ∷ b ∷ [])) (added s a) (int_value 1) left) refl

-- a call takes three turns
pub sum_is : (fs : List Function) (depth left : ℕ) (a b : Value) → calls_to (sum ∷ fs) (suc depth) 0 (a ∷ b ∷ []) (suc (suc (suc left))) ≡ Some (added (added (int_value 0) a) b, left)
unfolding calls_to
sum_is fs depth left a b =
    rw (clears_is (calls_to (sum ∷ fs) depth) (own_world sum (a ∷ b ∷ [])) _ _ (suc (suc left)), for_each_is (calls_to (sum ∷ fs) depth) a b (int_value 0) _ left) refl
