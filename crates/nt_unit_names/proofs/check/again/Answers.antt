use Rattle.std.proofs.Common.{Some, ◌∙◌, ap}
use Rattle.nt_unit_names.proofs.Naming.{again_some}
use Rattle.nt_unit_names.proofs.check.again.Goals as goal

pub returns-in_ok-is_new-in-Some : goal.returns-in_ok-is_new-in-Some
returns-in_ok-is_new-in-Some c =
    again_some c.in_ok-name-in-Some.name _ (ap (λ n. Some n) c.in_ok-name-in-Some.ensures ∙ c.in-Some.ensures) c.in_ok-is_new-in-Some.ensures.names c.in_ok-is_new-in-Some.ensures.is_new
