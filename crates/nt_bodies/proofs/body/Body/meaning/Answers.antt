use Rattle.nt_bodies.proofs.Meanings.{inside_found}
use Rattle.nt_bodies.proofs.body.Body.meaning.Goals as goal

pub returns-clause-is : goal.returns-clause-is
returns-clause-is c = inside_found c.look.ensures
