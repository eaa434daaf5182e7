use Rattle.std.proofs.Common.{sym, ◌∙◌}
use Rattle.nt_lexer.proofs.Cutting.{many_steps}
use Rattle.nt_lexer.proofs.cut.take_piece.Goals as goal

pub returns-then-head-ge-MOST_TOKENS-clause-value : goal.returns-then-head-ge-MOST_TOKENS-clause-value
returns-then-head-ge-MOST_TOKENS-clause-value c =
    many_steps c.args.text.now c.args.at c.args.head.now c.args.found.now.items c.refused-then-head-ge-MOST_TOKENS.result c.in-Take.len c.in-Take.kind
    c.refused-then-head-ge-MOST_TOKENS.ensures c.if-head-ge-MOST_TOKENS.true (sym c.in_ok-len.ensures.value ∙ c.in-Take.is)
