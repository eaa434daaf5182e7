use Rattle.std.proofs.Common.{◌∙◌, rules, refl}
use Rattle.std.proofs.lemmas.List.{length-map}
use Rattle.nettype_sim.proofs.Commands.{run_words}
use Rattle.nettype_sim.proofs.command.command_of.Goals as goal

pub returns-clause-found : goal.returns-clause-found
returns-clause-found c = (
  run_words _ _ _ (length-map _ _ ∙ c.if-words-ne8.false) (c.has_run_form.ensures.0 c.if-not-has_run_form.false) c.word_at-file.ensures c.word_at-top.ensures,
  c.is_file_word.ensures.0 c.if-not-is_file_word.false,
  search rules,
  refl,
)
