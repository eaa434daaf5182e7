-- What a procedure has to do after a step (IEEE 1800-2017, clauses 9, 10 and 12).
use Rattle.std.specs.Prelude.{List, ◌∷◌, ◌++◌}
use Rattle.nt_semantics.specs.Statements.{after_break, after_continue}
use Rattle.nt_semantics.specs.declared.work.Work.{Work}
use Rattle.nt_work.specs.declared.plan.Plan.{Plan}
use Rattle.nt_work.specs.declared.plan.Plan.TheVariants as plan

-- what is to do by a plan, where this came first and the rest after it
abbrev pub resumed : Plan → Work → List Work → List Work
resumed (plan.First items) first rest = items ++ rest
resumed (plan.Onto items) first rest = items ++ first ∷ rest
resumed plan.Break first rest = after_break rest
resumed plan.Continue first rest = after_continue rest
