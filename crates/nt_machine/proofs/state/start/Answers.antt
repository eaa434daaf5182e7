use Rattle.std.proofs.Common.{◌∙◌, ap, replicate}
use Rattle.nt_machine.proofs.Starts.{start_is}
use Rattle.nt_machine.proofs.state.start.Goals as goal

pub returns-clause-start : goal.returns-clause-start
returns-clause-start c =
    start_is c.args.design.now c.requires.plain _ _ _ _ _ c.new.ensures c.in_ok-start_nets.ensures c.in_ok-start_slots.ensures (c.in_ok-once_each.ensures ∙ ap (λ n. replicate n 1) c.len.ensures) (c.in_ok-once_each-2.ensures ∙ ap (λ n. replicate n 1) c.len-2.ensures)
