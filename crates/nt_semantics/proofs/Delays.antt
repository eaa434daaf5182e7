-- The delay of a statement that fits is at most 2^48.
use Rattle.std.proofs.Common.{◌≡◌, ℕ, ◌≤◌, ◌^◌, true, sym, subst, List}
use Rattle.std.specs.Prelude.{Option, Some, None, ℤ, pos, negsuc}
use Rattle.std.proofs.lemmas.Bool.{and_parts, false≢true}
use Rattle.std.proofs.lemmas.Bool.Decides.{nat_tests}
use Rattle.std.proofs.Common.{arith}
use Rattle.nt_design.specs.Expressions.{World, Calls, tree_step, value_of}
use Rattle.nt_design.specs.Fitting.{Gives}
use Rattle.nt_design.specs.Parts.{Value, number_in}
use Rattle.nt_design.specs.Rules.{constant_of, constant_step, is_delay, is_delay_number, is_delay_value}
use Rattle.nt_design.specs.Shapes.{Scope, is_leaf, tree_shape}
use Rattle.nt_design.specs.Statements.{count_of}
use Rattle.nt_design.specs.Turns.{Timing}
use Rattle.nt_design.specs.declared.tree.Tree.{Tree, out-Tree}
use Rattle.nt_design.specs.declared.tree.Tree.TheOpen.{Tree-F}
use Rattle.nt_design.specs.declared.tree.Tree.TheFolds.{fold-Tree, fold_out-Tree, map-Tree}

number_small : (number : Option ℤ) → is_delay_number number ≡ true → count_of number ≤ 2 ^ 48
number_small None h = absurd (false≢true h)
number_small (Some (pos n)) h = grind (arith, nat_tests)
number_small (Some (negsuc n)) h = absurd (false≢true h)

module _ (calls : Calls) (world : World) (locals : List Value) (left : ℕ) where
  of_kind : (x : Tree-F Tree) → is_delay_value (constant_step (map-Tree Tree (Option Value) constant_of x)) ≡ true → Gives (tree_step calls world (map-Tree Tree (Timing Value) (fold-Tree (Timing Value) (tree_step calls world)) x) locals left) (λ v. count_of (number_in v) ≤ 2 ^ 48)
  of_kind (Tree-F.Const value) h = number_small (number_in value) h
  of_kind x h = absurd (false≢true h)

  pub delay_small : (scope : Scope) (amount : Tree) → is_delay scope amount ≡ true → Gives (value_of calls world amount locals left) (λ v. count_of (number_in v) ≤ 2 ^ 48)
  unfolding value_of
  delay_small scope amount h =
      let constant = (and_parts (is_leaf (tree_shape scope amount)) (is_delay_value (constant_of amount)) h).1 in
      let opened = subst (λ o. is_delay_value o ≡ true) (fold_out-Tree (Option Value) constant_step amount) constant in
      subst (λ (m : Timing Value). Gives (m locals left) (λ v. count_of (number_in v) ≤ 2 ^ 48)) (sym (fold_out-Tree (Timing Value) (tree_step calls world) amount)) (of_kind (out-Tree amount) opened)
