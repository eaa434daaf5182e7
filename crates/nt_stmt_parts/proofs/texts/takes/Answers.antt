use Rattle.std.proofs.Common.{List, ℕ, ap, sym, ◌∙◌}
use Rattle.std.proofs.lemmas.List.{drop_all}
use Rattle.nt_typed_stmts.specs.Tables.{formats_of, is_taken}
use Rattle.nt_stmt_parts.specs.Texts.{after}
use Rattle.nt_stmt_parts.proofs.texts.takes.Goals as goal

pub returns : goal.returns
unfolding formats_of
returns c =
    c.is_end.ensures ∙ (ap (after c.loop-byte.state) (sym (drop_all c.loop-byte.byte-index c.items-byte-items.result.now c.loop-byte-test.false)) ∙ (c.loop-byte.invariant ∙ ap (λ (l : List ℕ). is_taken (formats_of l) c.args.count) c.items-byte-items.ensures))
