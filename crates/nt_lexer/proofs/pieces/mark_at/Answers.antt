use Rattle.std.proofs.Common.{◌≡◌, ℕ, ◌<◌, [], length, Option, None, refl, sym, ap, subst, ◌∙◌, arith}
use Rattle.std.specs.Prelude.{IfSome}
use Rattle.nt_lexer.specs.Pieces.{first_mark}
use Rattle.nt_lexer.specs.Spellings.{marks}
use Rattle.nt_lexer.specs.declared.kinds.Mark.{Mark}
use Rattle.nt_lexer.proofs.Marks.{mark_some}
use Rattle.nt_lexer.proofs.Ranges.{mark_from, is_empty}
use Rattle.nt_lexer.proofs.pieces.mark_at.Goals as goal

none_empty : first_mark marks [] ≡ None
unfolding marks
none_empty = refl

pub returns-in_default-clause-value : goal.returns-in_default-clause-value
returns-in_default-clause-value c = sym (ap (first_mark marks) (is_empty c.args.text.now c.in_default.len_below) ∙ none_empty)

many : length marks ≡ 48
unfolding marks
many = refl

pub mark_in-requires-clause-inside : goal.mark_in-requires-clause-inside
mark_in-requires-clause-inside c = omega (arith, many, c.mark_range.ensures.inside)

pub returns-clause-value : goal.returns-clause-value
unfolding marks
returns-clause-value c = c.mark_in.ensures.value ∙ mark_from c.args.text.now marks c.mark_range.result c.in-len1-up.len_at_least c.mark_range.ensures

pub returns-clause-some : goal.returns-clause-some
returns-clause-some c = subst (λ (o : Option (Mark × ℕ)). IfSome o (λ found. 0 < found.1)) (sym (returns-clause-value c)) (mark_some c.args.text.now)
