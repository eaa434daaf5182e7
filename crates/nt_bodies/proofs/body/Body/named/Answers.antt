use Rattle.std.proofs.Common.{sym, ap, ◌∙◌}
use Rattle.nt_bodies.specs.Bodies.{innermost, of_loop, of_function, outside}
use Rattle.nt_bodies.proofs.body.Body.named.Goals as goal

pub returns-in-Some : goal.returns-in-Some
returns-in-Some c = of_loop c.in-Some.number c.requires (ap (λ ls. innermost ls c.args.path.now.name) (sym c.as_slice.ensures) ∙ sym c.in-Some.ensures)

pub returns-in-Some-declared : goal.returns-in-Some-declared
returns-in-Some-declared c =
    of_function c.in-Some-declared.number c.requires (ap (λ ls. innermost ls c.args.path.now.name) (sym c.as_slice.ensures) ∙ sym c.in_default.ensures) c.in-Some-declared.ensures

pub returns-in-None : goal.returns-in-None
returns-in-None c = outside c.meaning.result c.requires (ap (λ ls. innermost ls c.args.path.now.name) (sym c.as_slice.ensures) ∙ sym c.in_default.ensures) c.in-None.ensures c.meaning.ensures
