use Rattle.std.proofs.Common.{◌∙◌}
use Rattle.nt_own_names.specs.Twice.{function_names}
use Rattle.nt_own_names.proofs.Naming.{told_of}
use Rattle.nt_own_names.proofs.functions.function_twice.Goals as goal

pub returns : goal.returns
returns c = told_of c.twice.result (function_names c.args.item.now) (c.as_slice.ensures ∙ c.in_ok-names.ensures) c.twice.ensures
