-- How far a text is read, as the code holds it.
use Rattle.std.specs.Prelude.{ℕ, Bool, false, List, Option, Some, None}
use Rattle.nt_typed_stmts.specs.Tables.{Coming, Anything, Format, Letter, is_taken, one_more, taken_from}
use Rattle.nt_stmt_parts.specs.declared.texts.Next.{Next}
use Rattle.nt_stmt_parts.specs.declared.texts.Next.TheVariants as next

abbrev pub coming : Next → Coming
coming next.Anything = Anything
coming next.Format = Format
coming next.Letter = Letter

-- what a text takes after a value
abbrev pub more : List ℕ → Option ℕ
more cs = one_more (taken_from Anything cs)

-- whether the rest of a text takes as many values as are left
abbrev pub after : Option (Next × ℕ) → List ℕ → Bool
after None cs = false
after (Some p) cs = is_taken (taken_from (coming p.0) cs) p.1
