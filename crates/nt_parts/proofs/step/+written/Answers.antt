use Rattle.nt_parts.specs.declared.step.Step.TheVariants.{Leaves}
use Rattle.nt_parts.proofs.Paths.{few_leaves, rest_write, shorter}
use Rattle.nt_parts.proofs.step.+written.Goals as goal

pub written-requires : goal.written-requires
written-requires t c =
    (shorter c.args.steps.now t c.decreases c.in-len1-up.len_at_least, rest_write c.args.steps.now (Leaves 0 0) c.args.new.now c.args.old.now c.in_ok-part.part c.requires c.in-len1-up.len_at_least c.in_ok-part.ensures)

pub with_part_by-requires-clause-few : goal.with_part_by-requires-clause-few
with_part_by-requires-clause-few t c =
    few_leaves c.args.steps.now (Leaves 0 0) c.args.new.now c.args.old.now c.in_ok-part.part c.in_ok-changed.changed c.requires c.in-len1-up.len_at_least c.in_ok-part.ensures c.in_ok-changed.ensures
