use Rattle.std.proofs.Common.{arith, length}
use Rattle.nt_scopes.proofs.Choosing.{choice_turn, choice_end}
use Rattle.nt_scopes.proofs.look.imports_look.Goals as goal

pub loop-import-preserved : goal.loop-import-preserved
loop-import-preserved c = choice_turn c.import-item.result c.import_look.result c.both-found.result c.loop-import-test.true c.import-item.is c.loop-import.invariant c.import_look.ensures c.both-found.ensures

pub returns : goal.returns
returns c = let le = c.loop-import.auto.import-index-end in let ge = c.loop-import-test.false in choice_end (length c.args.imports.now) (omega (arith, le, ge)) c.loop-import.invariant
