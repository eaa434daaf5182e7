-- What reads an object, form by form.
use Rattle.std.proofs.Common.{◌≡◌, ℕ, List, [], ◌∷◌, ◌++◌, map, refl, ap, sym, ◌∙◌}
use Rattle.std.specs.Prelude.{Bool, true, false, ◌||◌, Option, None, Some, option_map}
use Rattle.std.specs.List.{flat_map, list_any}
use Rattle.std.proofs.lemmas.List.Folds.{list_any-append}
use denote.Hole.Carrier.{roll}
use Rattle.nt_value.specs.declared.kind.Edge.{Edge}
use Rattle.nt_value.specs.declared.place.Place.{Place}
use Rattle.nt_design.specs.Reads.{event_trees, joined, or_none, reads_of, reads_step, target_trees, trees_of, trees_step}
use Rattle.nt_design.specs.declared.act.Act.{Act}
use Rattle.nt_design.specs.declared.act.Act.TheVariants as plain
use Rattle.nt_design.specs.declared.act.Act.TheViews as act
use Rattle.nt_design.specs.declared.act.Act.TheViews.{roll-Act}
use Rattle.nt_design.specs.declared.act.Act.TheOpen.{Act-F}
use Rattle.nt_design.specs.declared.act.Act.TheFolds.{fold-roll-Act}
use Rattle.nt_design.specs.declared.object.Object.{Object}
use Rattle.nt_design.specs.declared.target.Target.{Target}
use Rattle.nt_design.specs.declared.tree.Tree.{Tree}
use Rattle.nt_design.specs.declared.tree.Tree.TheViews as tree
use Rattle.nt_design.specs.declared.tree.Tree.TheViews.{roll-Tree}
use Rattle.nt_design.specs.declared.tree.Tree.TheOpen.{Tree-F}
use Rattle.nt_design.specs.declared.tree.Tree.TheFolds.{fold-roll-Tree}
use Rattle.nt_sensitivity.specs.Readers.{act_is_reader, is_reader}
use Rattle.nt_sensitivity.proofs.Readers.{events_any, joined_any}

-- ---- expressions
pub concat_reads : (parts : List Tree) → reads_of (tree.Concat parts) ≡ joined (map reads_of parts)
unfolding roll-Tree roll
concat_reads parts = fold-roll-Tree (List Object) reads_step (Tree-F.Concat parts)

pub gather_reads : (parts : List Tree) → reads_of (tree.Gather parts) ≡ joined (map reads_of parts)
unfolding roll-Tree roll
gather_reads parts = fold-roll-Tree (List Object) reads_step (Tree-F.Gather parts)

pub call_reads : (f : ℕ) (args : List Tree) → reads_of (tree.Call f args) ≡ joined (map reads_of args)
unfolding roll-Tree roll
call_reads f args = fold-roll-Tree (List Object) reads_step (Tree-F.Call f args)

-- ---- statements
block_trees : (items : List Act) (at : Place) → trees_of (act.Block items at) ≡ joined (map trees_of items)
unfolding roll-Act roll
block_trees items at = fold-roll-Act (List Tree) trees_step (Act-F.Block items at)

assign_trees : (left : Target) (right : Tree) (at : Place) → trees_of (plain.Assign left right at) ≡ (target_trees left ++ right ∷ []) ++ []
unfolding roll-Act roll
assign_trees left right at = fold-roll-Act (List Tree) trees_step (Act-F.Assign left right at)

nonblocking_trees : (left : Target) (right : Tree) (at : Place) → trees_of (plain.Nonblocking left right at) ≡ (target_trees left ++ right ∷ []) ++ []
unfolding roll-Act roll
nonblocking_trees left right at = fold-roll-Act (List Tree) trees_step (Act-F.Nonblocking left right at)

if_trees : (test : Tree) (first : Act) (second : Option Act) (at : Place) → trees_of (act.If test first second at) ≡ test ∷ (trees_of first ++ or_none (option_map trees_of second))
unfolding roll-Act roll
if_trees test first None at = fold-roll-Act (List Tree) trees_step (Act-F.If test first None at)
if_trees test first (Some second) at = fold-roll-Act (List Tree) trees_step (Act-F.If test first (Some second) at)

abbrev told : List (List Tree × Act) → List (List Tree × List Tree)
told arms = map (λ (arm : List Tree × Act). (arm.0, trees_of arm.1)) arms

case_trees : (test : Tree) (arms : List (List Tree × Act)) (other : Option Act) (at : Place) → trees_of (act.Case test arms other at) ≡ (test ∷ flat_map (λ arm. arm.0) (told arms)) ++ (flat_map (λ arm. arm.1) (told arms) ++ or_none (option_map trees_of other))
unfolding roll-Act roll
case_trees test arms None at = fold-roll-Act (List Tree) trees_step (Act-F.Case test arms None at)
case_trees test arms (Some other) at = fold-roll-Act (List Tree) trees_step (Act-F.Case test arms (Some other) at)

for_trees : (fresh : Bool) (left : Target) (first test : Tree) (step body : Act) (at : Place) → trees_of (act.For fresh left first test step body at) ≡ (target_trees left ++ first ∷ test ∷ []) ++ (trees_of step ++ trees_of body)
unfolding roll-Act roll
for_trees fresh left first test step body at =
    fold-roll-Act (List Tree) trees_step (Act-F.For fresh left first test step body at)

event_trees_are : (any : Bool) (on : List (Edge × Tree)) (body : Act) (at : Place) → trees_of (act.Event any on body at) ≡ event_trees on ++ trees_of body
unfolding roll-Act roll
event_trees_are any on body at = fold-roll-Act (List Tree) trees_step (Act-F.Event any on body at)

-- ---- tests
or_false : (b : Bool) → (b || false) ≡ b
or_false true = refl
or_false false = refl

-- one of two lists, by what is known of each
module _ (o : Object) where
  in_both : (xs ys : List Tree) (a b : Bool) → a ≡ list_any (is_reader o) xs → b ≡ list_any (is_reader o) ys → (a || b) ≡ list_any (is_reader o) (xs ++ ys)
  in_both xs ys a b first second =
      ap (λ x. x || b) first ∙ (ap (λ y. list_any (is_reader o) xs || y) second ∙ sym (list_any-append (is_reader o) xs ys))

  in_one : (t : Tree) (a : Bool) → a ≡ is_reader o t → a ≡ list_any (is_reader o) (t ∷ [])
  in_one t a h = h ∙ sym (or_false (is_reader o t))

  in_none : (xs : List Tree) (a : Bool) → a ≡ list_any (is_reader o) xs → a ≡ list_any (is_reader o) (xs ++ [])
  in_none xs a h = sym (or_false a) ∙ in_both xs [] a false h refl

  pub block_read : (items : List Act) (at : Place) → list_any (act_is_reader o) items ≡ act_is_reader o (act.Block items at)
  block_read items at =
      sym (joined_any (is_reader o) trees_of items) ∙ sym (ap (list_any (is_reader o)) (block_trees items at))

  pub assign_read : (left : Target) (right : Tree) (at : Place) (a b : Bool) → a ≡ list_any (is_reader o) (target_trees left) → b ≡ is_reader o right → (a || b) ≡ act_is_reader o (plain.Assign left right at)
  assign_read left right at a b h k =
      in_none (target_trees left ++ right ∷ []) (a || b) (in_both (target_trees left) (right ∷ []) a b h (in_one right b k)) ∙ sym (ap (list_any (is_reader o)) (assign_trees left right at))

  pub nonblocking_read : (left : Target) (right : Tree) (at : Place) (a b : Bool) → a ≡ list_any (is_reader o) (target_trees left) → b ≡ is_reader o right → (a || b) ≡ act_is_reader o (plain.Nonblocking left right at)
  nonblocking_read left right at a b h k =
      in_none (target_trees left ++ right ∷ []) (a || b) (in_both (target_trees left) (right ∷ []) a b h (in_one right b k)) ∙ sym (ap (list_any (is_reader o)) (nonblocking_trees left right at))

  pub if_read : (test : Tree) (first : Act) (second : Option Act) (at : Place) (a b c : Bool) → a ≡ is_reader o test → b ≡ act_is_reader o first → c ≡ list_any (is_reader o) (or_none (option_map trees_of second)) → (a || (b || c)) ≡ act_is_reader o (act.If test first second at)
  if_read test first second at a b c h k l =
      ap (λ x. x || (b || c)) h ∙ (ap (λ y. is_reader o test || y) (in_both (trees_of first) (or_none (option_map trees_of second)) b c k l) ∙ sym (ap (list_any (is_reader o)) (if_trees test first second at)))

  items_told : (arms : List (List Tree × Act)) → list_any (λ (arm : List Tree × Act). list_any (is_reader o) arm.0) arms ≡ list_any (is_reader o) (flat_map (λ arm. arm.0) (told arms))
  items_told [] = refl
  items_told (arm ∷ arms) = in_both arm.0 (flat_map (λ arm. arm.0) (told arms)) _ _ refl (items_told arms)

  acts_told : (arms : List (List Tree × Act)) → list_any (λ (arm : List Tree × Act). act_is_reader o arm.1) arms ≡ list_any (is_reader o) (flat_map (λ arm. arm.1) (told arms))
  acts_told [] = refl
  acts_told (arm ∷ arms) = in_both (trees_of arm.1) (flat_map (λ arm. arm.1) (told arms)) _ _ refl (acts_told arms)

  pub case_read : (test : Tree) (arms : List (List Tree × Act)) (other : Option Act) (at : Place) (a b c d : Bool) → a ≡ is_reader o test → b ≡ list_any (λ (arm : List Tree × Act). list_any (is_reader o) arm.0) arms → c ≡ list_any (λ (arm : List Tree × Act). act_is_reader o arm.1) arms → d ≡ list_any (is_reader o) (or_none (option_map trees_of other)) → ((a || b) || (c || d)) ≡ act_is_reader o (act.Case test arms other at)
  case_read test arms other at a b c d h k l m =
      in_both (test ∷ flat_map (λ arm. arm.0) (told arms)) (flat_map (λ arm. arm.1) (told arms) ++ or_none (option_map trees_of other)) (a || b) (c || d)
      (ap (λ x. x || b) h ∙ ap (λ y. is_reader o test || y) (k ∙ items_told arms))
      (in_both (flat_map (λ arm. arm.1) (told arms)) (or_none (option_map trees_of other)) c d (l ∙ acts_told arms) m)
      ∙ sym (ap (list_any (is_reader o)) (case_trees test arms other at))

  pub for_read : (fresh : Bool) (left : Target) (first test : Tree) (step body : Act) (at : Place) (a b c d e : Bool) → a ≡ list_any (is_reader o) (target_trees left) → b ≡ is_reader o first → c ≡ is_reader o test → d ≡ act_is_reader o step → e ≡ act_is_reader o body → ((a || (b || c)) || (d || e)) ≡ act_is_reader o (act.For fresh left first test step body at)
  for_read fresh left first test step body at a b c d e h k l m n =
      in_both (target_trees left ++ first ∷ test ∷ []) (trees_of step ++ trees_of body) (a || (b || c)) (d || e)
      (in_both (target_trees left) (first ∷ test ∷ []) a (b || c) h (in_both (first ∷ []) (test ∷ []) b c (in_one first b k) (in_one test c l)))
      (in_both (trees_of step) (trees_of body) d e m n)
      ∙ sym (ap (list_any (is_reader o)) (for_trees fresh left first test step body at))

  pub event_read : (any : Bool) (on : List (Edge × Tree)) (body : Act) (at : Place) (a b : Bool) → a ≡ list_any (λ (e : Edge × Tree). is_reader o e.1) on → b ≡ act_is_reader o body → (a || b) ≡ act_is_reader o (act.Event any on body at)
  event_read any on body at a b h k =
      in_both (event_trees on) (trees_of body) a b (h ∙ sym (events_any o on)) k ∙ sym (ap (list_any (is_reader o)) (event_trees_are any on body at))
