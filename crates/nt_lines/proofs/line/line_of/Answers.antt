use Rattle.std.proofs.Common.{List, ℕ, ap, sym, ◌∙◌, ◌++◌}
use Rattle.std.proofs.lemmas.List.{append-nil, drop_all}
use Rattle.nt_semantics.specs.Lines.{line_of, text_from}
use Rattle.nt_lines.specs.Formats.{expected_in}
use Rattle.nt_lines.proofs.line.line_of.Goals as goal

pub returns : goal.returns
unfolding line_of
returns c =
    sym (append-nil c.loop-byte.line) ∙ (ap (λ (l : List ℕ). c.loop-byte.line ++ text_from (expected_in c.loop-byte.next) l c.loop-byte.left.now) (sym (drop_all c.loop-byte.byte-index c.items-byte-items.result.now c.loop-byte-test.false)) ∙ (c.loop-byte.invariant ∙ ap (λ (l : List ℕ). line_of l c.args.values.now) c.items-byte-items.ensures))
