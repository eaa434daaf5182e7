use Rattle.std.proofs.Common.{ap, ◌∙◌, sym, ◌++◌}
use Rattle.nt_lexer.proofs.Binaries.{unknown_group, known_group}
use Rattle.nt_lexer.proofs.numbers.push_group.Goals as goal

pub returns-in_ok-extend_from_slice-in-Some : goal.returns-in_ok-extend_from_slice-in-Some
returns-in_ok-extend_from_slice-in-Some c =
    c.in_ok-extend_from_slice-in-Some.ensures.items
    ∙ ap (λ xs. c.args.digits.now.items ++ xs)
    (unknown_group c.args.radix c.args.b c.missing_bits-from.result c.in-Some.unknown c.missing_bits-from.ensures.value (sym c.unknown_of.ensures ∙ c.in-Some.is))

pub returns-in_ok-extend_from_slice-in-None : goal.returns-in_ok-extend_from_slice-in-None
returns-in_ok-extend_from_slice-in-None c =
    c.in_ok-extend_from_slice-in-None.ensures.items
    ∙ ap (λ xs. c.args.digits.now.items ++ xs)
    (known_group c.args.radix c.args.b c.missing_bits-from.result c.digit_value-number.result c.low_bit.result c.low_bit-in-None.result c.low_bit-in-None-2.result c.low_bit-in-None-3.result
    c.missing_bits-from.ensures.value (sym c.unknown_of.ensures ∙ c.in-None.is) c.digit_value-number.ensures c.low_bit.ensures c.low_bit-in-None.ensures c.low_bit-in-None-2.ensures c.low_bit-in-None-3.ensures)
