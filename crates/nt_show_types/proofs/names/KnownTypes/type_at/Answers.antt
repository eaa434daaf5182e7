use Rattle.std.proofs.Common.{sym, ◌∙◌}
use Rattle.nt_show_types.proofs.Cases.{int_type, told_other, told_two, told_word, told_unknown}
use Rattle.nt_show_types.proofs.names.KnownTypes.type_at.Goals as goal

pub returns-then-is-clause-seen : goal.returns-then-is-clause-seen
returns-then-is-clause-seen c = told_other c.args.path.now (sym c.is.ensures ∙ c.if-is.true)

pub returns-then-is-2-clause-seen : goal.returns-then-is-2-clause-seen
returns-then-is-2-clause-seen c = told_two c.args.path.now (sym c.is.ensures ∙ c.if-is.false) (sym c.is-2.ensures ∙ c.if-is-2.true)

pub returns-then-is-3-clause-seen : goal.returns-then-is-3-clause-seen
returns-then-is-3-clause-seen c = told_word c.args.path.now (sym c.is.ensures ∙ c.if-is.false) (sym c.is-2.ensures ∙ c.if-is-2.false) (sym c.is-3.ensures ∙ c.if-is-3.true)

pub returns-clause-seen : goal.returns-clause-seen
returns-clause-seen c = told_unknown c.args.path.now (sym c.is.ensures ∙ c.if-is.false) (sym c.is-2.ensures ∙ c.if-is-2.false) (sym c.is-3.ensures ∙ c.if-is-3.false)

pub returns-then-is-3-clause-sound : goal.returns-then-is-3-clause-sound
returns-then-is-3-clause-sound c = int_type
