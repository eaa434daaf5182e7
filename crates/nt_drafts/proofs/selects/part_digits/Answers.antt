use Rattle.std.proofs.Common.{false, ap, subst, ◌∙◌}
use Rattle.nt_typing.specs.Tables.{digits_thing, number_tree}
use Rattle.nt_drafts.specs.Gives.{Gives}
use Rattle.nt_drafts.proofs.Closed.{two}
use Rattle.nt_drafts.proofs.selects.part_digits.Goals as goal

pub returns : goal.returns
returns c =
    subst (λ table. Gives table c.digits_thing.result) (two (digits_thing c.args.leaf c.args.of) (c.in_ok-low.ensures ∙ ap (number_tree false) c.low_of.ensures) c.width_between.ensures) c.digits_thing.ensures
