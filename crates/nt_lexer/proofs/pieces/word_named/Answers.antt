use Rattle.std.proofs.Common.{◌≡◌, [], length, None, refl, sym, ap, ◌∙◌, arith}
use Rattle.nt_lexer.specs.Directives.{named}
use Rattle.nt_lexer.specs.Spellings.{words}
use Rattle.nt_lexer.proofs.Ranges.{named_from, is_empty}
use Rattle.nt_lexer.proofs.pieces.word_named.Goals as goal

-- no word is empty
none_empty : named words [] ≡ None
unfolding words
none_empty = refl

pub returns-in_default : goal.returns-in_default
returns-in_default c = sym (ap (named words) (is_empty c.args.text.now c.in_default.len_below) ∙ none_empty)

many : length words ≡ 118
unfolding words
many = refl

pub lookup_in-requires-clause-inside : goal.lookup_in-requires-clause-inside
lookup_in-requires-clause-inside c = omega (arith, many, c.word_range.ensures.inside)

pub returns : goal.returns
unfolding words
returns c = c.lookup_in.ensures ∙ named_from c.args.text.now words c.word_range.result c.in-len1-up.len_at_least c.word_range.ensures
