use Rattle.std.proofs.Common.{sym, ap, ◌∙◌}
use Rattle.nt_lexer.specs.Directives.{named}
use Rattle.nt_lexer.proofs.Ranges.{part_of}
use Rattle.nt_lexer.proofs.scan.lookup_in.Goals as goal

pub returns : goal.returns
returns g c = c.lookup.ensures ∙ ap (λ t. named t c.args.text.now) (sym (part_of (λ m. (m.0.now, m.1)) c.args.table.now c.args.part))
