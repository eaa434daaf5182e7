use Rattle.std.proofs.Common.{ap, ◌∙◌, map, replicate, not}
use Rattle.std.specs.Prelude.{if◌then◌else◌}
use Rattle.nt_value.specs.Values.{default_value}
use Rattle.nt_design.specs.declared.process.Proc.{Proc}
use Rattle.nt_design.specs.declared.object.Var.{Var}
use Rattle.nt_semantics.specs.State.{is_comb, start_work}
use Rattle.nt_semantics.specs.declared.standing.Standing.TheVariants.{Ready, Unbegun}
use Rattle.nt_state.proofs.Starting.{started}
use Rattle.nt_state.proofs.starts.start.Goals as goal

pub returns : goal.returns
returns c =
    started c.args.design.now _ _ _ _ _ _ _ _ _ _ _ _
    (c.in_ok-start_vars.ensures ∙ ap (map (λ (var : Var). var.start)) c.as_slice-2.ensures)
    (c.nets.view_is ∙ c.in_ok-nets.ensures)
    (c.slots.view_is ∙ c.in_ok-slots.ensures)
    (c.in_ok-start_standings.ensures ∙ ap (map (λ (p : Proc). if is_comb p.kind then Unbegun else Ready)) c.as_slice-procs.ensures)
    (c.in_ok-start_works.ensures ∙ ap (map (λ (p : Proc). start_work p.kind p)) c.as_slice-procs.ensures)
    (c.in_ok-start_locals.ensures ∙ ap (map (λ (p : Proc). map default_value p.locals)) c.as_slice-procs.ensures)
    (c.in_ok-start_fresh.ensures ∙ ap (map (λ (p : Proc). not (is_comb p.kind))) c.as_slice-procs.ensures)
    (c.in_ok-once_each.ensures ∙ ap (λ n. replicate n 1) c.len.ensures)
    (c.in_ok-once_each-2.ensures ∙ ap (λ n. replicate n 1) c.len-2.ensures)
    c.new.ensures.items c.new-2.ensures.items c.new-3.ensures
