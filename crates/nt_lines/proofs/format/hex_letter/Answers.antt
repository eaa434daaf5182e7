use Rattle.nt_lines.proofs.Digits.{low_number}
use Rattle.nt_lines.proofs.format.hex_letter.Goals as goal

pub hex_code-requires : goal.hex_code-requires
hex_code-requires c = low_number c.magnitude.result c.args.bits.leaf.width c.requires c.magnitude.ensures.fits
