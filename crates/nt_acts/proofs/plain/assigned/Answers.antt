use Rattle.std.proofs.Common.{ap, sym, ◌∙◌, subst}
use Rattle.nt_design.specs.Expressions.{value_of}
use Rattle.nt_design.specs.Statements.{path_of}
use Rattle.nt_design.proofs.Frame.{two}
use Rattle.nt_values.specs.Typed.{world_in}
use Rattle.nt_acts.specs.Doable.{Assigned}
use Rattle.nt_acts.proofs.Simple.{may_write, path_typed}
use Rattle.nt_acts.proofs.plain.assigned.Goals as goal

pub path_of-requires-clause-typed : goal.path_of-requires-clause-typed
path_of-requires-clause-typed g c =
    rw (c.as_slice-3.ensures, c.as_slice-2.ensures)
    (path_typed c.in-Local.local c.in-Local.path c.args.right.now (subst (λ to. Assigned (g.C.Caller.signatures c.args.caller.now) (g.C.Caller.calls c.args.caller.now) (world_in c.args.world.now) c.args.locals.now to c.args.right.now) c.in-Local.is c.requires.typed))

pub write-requires : goal.write-requires
write-requires g c =
    rw c.as_slice-4.ensures
    (may_write c.in-Local.local c.in-Local.path c.args.right.now (subst (λ to. Assigned (g.C.Caller.signatures c.args.caller.now) (g.C.Caller.calls c.args.caller.now) (world_in c.args.world.now) c.args.locals.now to c.args.right.now) c.in-Local.is c.requires.typed)
    c.args.left c.in_ok-value.turns c.in_ok-steps.turns c.in_ok-value.value c.in_ok-steps.steps
    (ap (λ ls. value_of (g.C.Caller.calls c.args.caller.now) (world_in c.args.world.now) c.args.right.now ls c.args.left) (sym c.as_slice.ensures) ∙ c.in_ok-value.ensures.0)
    (two (λ path ls. path_of (g.C.Caller.calls c.args.caller.now) (world_in c.args.world.now) path ls c.in_ok-value.turns) (sym c.as_slice-2.ensures) (sym c.as_slice-3.ensures) ∙ c.in_ok-steps.ensures.value.0)
    c.in_ok-steps.ensures.steps)
