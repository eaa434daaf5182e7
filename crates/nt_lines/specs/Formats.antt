-- What comes next in a text with formats, as the code holds it.
use Rattle.nt_semantics.specs.Lines as lines
use Rattle.nt_lines.specs.declared.line.Next.{Next}
use Rattle.nt_lines.specs.declared.line.Next.TheVariants as next

abbrev pub expected_in : Next → lines.Expected
expected_in next.Anything = lines.Anything
expected_in next.Format = lines.Format
expected_in next.Letter = lines.Letter
