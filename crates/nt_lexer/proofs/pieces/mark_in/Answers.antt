use Rattle.std.proofs.Common.{sym, ap, ◌∙◌}
use Rattle.nt_lexer.specs.Pieces.{first_mark}
use Rattle.nt_lexer.proofs.Ranges.{part_of}
use Rattle.nt_lexer.proofs.pieces.mark_in.Goals as goal

pub returns-clause-value : goal.returns-clause-value
returns-clause-value c = c.first_mark.ensures.value ∙ ap (λ t. first_mark t c.args.text.now) (sym (part_of (λ m. (m.0.now, m.1)) c.args.table.now c.args.part))
