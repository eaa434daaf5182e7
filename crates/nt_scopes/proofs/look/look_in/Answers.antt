use Rattle.nt_scopes.specs.Means.{own, by_name, by_wildcard}
use Rattle.nt_scopes.proofs.look.look_in.Goals as goal

pub returns-in-Some : goal.returns-in-Some
returns-in-Some c = own c.in-Some.number c.in-Some.ensures

pub returns-in-Unknown : goal.returns-in-Unknown
returns-in-Unknown c = by_wildcard c.imports_look-in-Unknown.result c.in_default.ensures (rw c.imports.ensures at c.in-Unknown.ensures) (rw c.imports-in-Unknown.ensures at c.imports_look-in-Unknown.ensures)

pub returns-in_default-imports_look : goal.returns-in_default-imports_look
returns-in_default-imports_look c = by_name c.imports_look.result c.in_default.ensures (rw c.imports.ensures at c.imports_look.ensures) c.in_default-imports_look.not-Unknown
