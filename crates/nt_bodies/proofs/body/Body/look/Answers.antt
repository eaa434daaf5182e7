use Rattle.nt_bodies.specs.Bodies.{of_package}
use Rattle.nt_bodies.proofs.body.Body.look.Goals as goal

pub returns-in-Some : goal.returns-in-Some
returns-in-Some c = of_package c.meaning.result c.in-Some._scope c.in-Some.is c.meaning.ensures
