use Rattle.nt_value.specs.Changes.{with_bit_at}
use Rattle.std.proofs.Common.{ap, sym, ◌∙◌}
use Rattle.nt_value.proofs.Flips.{set_bit, clear_bit}
use Rattle.nt_value.proofs.bits.with_bit.Goals as goal

pub returns-then-bit : goal.returns-then-bit
returns-then-bit c =
    set_bit c.args.word c.args.at c.requires ∙ ap (with_bit_at c.args.word c.args.at) (sym c.if-bit.true)

pub returns-else-bit : goal.returns-else-bit
returns-else-bit c =
    clear_bit c.args.word c.args.at c.ranges.word.fits c.requires ∙ ap (with_bit_at c.args.word c.args.at) (sym c.if-bit.false)
