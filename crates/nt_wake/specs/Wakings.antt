-- What a change does to a procedure, as the code holds it (IEEE 1800-2017, 4.3, 9.4.2).
use Rattle.std.specs.Prelude.{List, [], ◌∷◌}
use Rattle.nt_semantics.specs.Wake as wake
use Rattle.nt_semantics.specs.declared.work.Work.{Work}
use Rattle.nt_work.specs.Plans.{resumed}
use Rattle.nt_wake.specs.declared.statements.Waking.{Waking}
use Rattle.nt_wake.specs.declared.statements.Waking.TheVariants as waking

-- where this comes first of what the procedure has to do, and the rest after it
abbrev pub waking_in : Waking → Work → List Work → wake.Waking
waking_in waking.Asleep first rest = wake.Asleep
waking_in (waking.Keeps kept) first rest = wake.Keeps kept
waking_in (waking.Wakes plan) first rest = wake.Wakes (resumed plan first rest)

-- a procedure with nothing to do waits for nothing
abbrev pub waking_with : Waking → List Work → wake.Waking
waking_with w [] = wake.Asleep
waking_with w (first ∷ rest) = waking_in w first rest
