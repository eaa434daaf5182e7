use Rattle.nt_scopes.specs.Choices.{Among}
use Rattle.nt_scopes.specs.Means.{Gives}
use Rattle.nt_scopes.proofs.Choosing.{Chosen}
use Rattle.nt_scopes.proofs.look.imports_look.Given as goal

abbrev pub invariant-loop-import : goal.invariant-loop-import
invariant-loop-import l = Chosen (Among (Gives l.scopes l.at l.name l.wildcard) l.import-index l.imports) l.found
