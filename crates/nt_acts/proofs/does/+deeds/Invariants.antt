use Rattle.std.proofs.Common.{◌≤◌, ◌+◌, ◌*◌, List}
use Rattle.std.specs.Prelude.{option_copied, option_map}
use Rattle.nt_value.specs.Values.{AreValuesOf}
use Rattle.nt_value.specs.declared.leaf.Leaf.{Leaf}
use Rattle.nt_design.specs.Sizes.{act_size, acts_size, or_zero}
use Rattle.nt_design.specs.Statements.{does}
use Rattle.nt_values.specs.Typed.{world_in}
use Rattle.nt_acts.specs.Endings.{step_or_nothing, test_or_always}
use Rattle.nt_acts.proofs.Inner.{arms_size}
use Rattle.nt_acts.proofs.Turned.{Counted, Done, Looped, Repeated}
use Rattle.nt_acts.proofs.does.+deeds.Given as goal

abbrev pub decreases-does : goal.decreases-does
decreases-does g l = 4 * act_size l.act.now + 3

abbrev pub decreases-do_all : goal.decreases-do_all
decreases-do_all g l = 4 * acts_size l.acts.now

abbrev pub decreases-maybe_does : goal.decreases-maybe_does
decreases-maybe_does g l = 4 * or_zero (option_map act_size l.act.now) + 4

abbrev pub decreases-if_does : goal.decreases-if_does
decreases-if_does g l = 4 * (act_size l.yes.now + or_zero (option_map act_size l.no.now)) + 5

abbrev pub decreases-case_does : goal.decreases-case_does
decreases-case_does g l = 4 * (arms_size l.arms.now + or_zero (option_map act_size l.other.now)) + 5

abbrev pub decreases-once : goal.decreases-once
decreases-once g l = 4 * act_size l.body.now + 4

abbrev pub decreases-turn : goal.decreases-turn
decreases-turn g l = 4 * (act_size l.body.now + or_zero (option_map act_size (option_copied l.step))) + 5

abbrev pub decreases-loops : goal.decreases-loops
decreases-loops g l = 4 * (act_size l.body.now + or_zero (option_map act_size (option_copied l.step))) + 6

abbrev pub decreases-repeats : goal.decreases-repeats
decreases-repeats g l = 4 * act_size l.body.now + 5

abbrev pub decreases-each : goal.decreases-each
decreases-each g l = 4 * act_size l.body.now + 5

abbrev pub invariant-do_all-loop-act : goal.invariant-do_all-loop-act
invariant-do_all-loop-act g l =
    record {
      fewer : l.turns ≤ l.left;
      kept : (shapes : List (List Leaf)) → AreValuesOf shapes l.initial.locals → AreValuesOf shapes l.locals;
      so_far : Done (g.C.Caller.calls l.caller) (world_in l.world) l.name l.acts l.initial.locals l.left l.act-index l.locals l.turns;
    }

abbrev pub invariant-loops-loop-end : goal.invariant-loops-loop-end
invariant-loops-loop-end g l =
    record {
      fewer : l.turns ≤ l.left;
      kept : (shapes : List (List Leaf)) → AreValuesOf shapes l.initial.locals → AreValuesOf shapes l.locals;
      so_far : Looped (test_or_always (g.C.Caller.calls l.caller) (world_in l.world) (option_copied l.test)) (step_or_nothing (option_map (does (g.C.Caller.calls l.caller) (world_in l.world) l.name) (option_copied l.step))) (does (g.C.Caller.calls l.caller) (world_in l.world) l.name l.body) l.initial.locals l.left l.locals l.turns;
    }

abbrev pub decreases-loops-loop-end : goal.decreases-loops-loop-end
decreases-loops-loop-end g l = l.turns

abbrev pub invariant-repeats-loop-turn : goal.invariant-repeats-loop-turn
invariant-repeats-loop-turn g l =
    record {
      fewer : l.turns ≤ l.left;
      kept : (shapes : List (List Leaf)) → AreValuesOf shapes l.initial.locals → AreValuesOf shapes l.locals;
      so_far : Repeated l.count (does (g.C.Caller.calls l.caller) (world_in l.world) l.name l.body) l.initial.locals l.left l._turn l.locals l.turns;
    }

abbrev pub invariant-each-loop-k : goal.invariant-each-loop-k
invariant-each-loop-k g l =
    record {
      fewer : l.turns ≤ l.left;
      kept : (shapes : List (List Leaf)) → AreValuesOf shapes l.initial.locals → AreValuesOf shapes l.locals;
      so_far : Counted l.span l.at (does (g.C.Caller.calls l.caller) (world_in l.world) l.name l.body) l.initial.locals l.left l.k l.locals l.turns;
    }
