-- The whole number of an index.
use Rattle.std.specs.Prelude.{Option, Some, None, ℤ, pos, negsuc}
use Rattle.nt_parts.specs.declared.index.Index.{Index}
use Rattle.nt_parts.specs.declared.index.Index.TheVariants.{Unknown, Up, Below}

-- the number, where no digit is x or z
abbrev pub number_at : Index → Option ℤ
number_at Unknown = None
number_at (Up n) = Some (pos n)
number_at (Below n) = Some (negsuc n)
