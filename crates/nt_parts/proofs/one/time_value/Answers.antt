use Rattle.std.proofs.Common.{ap}
use Rattle.nt_design.specs.Parts as parts
use Rattle.nt_parts.proofs.Numbers.{ok_is}
use Rattle.nt_parts.proofs.one.time_value.Goals as goal

pub returns : goal.returns
returns c =
    ok_is c.of_bits.result (parts.one c.number.result) (parts.time_value c.args.moment) c.of_bits.ensures (ap parts.one c.number.ensures.value)
