use Rattle.std.proofs.Common.{ap, ◌∙◌, List}
use Rattle.nt_value.specs.Arithmetic.{moved_down}
use Rattle.nt_value.specs.Digits.{LeafValue}
use Rattle.nt_value.specs.Operators.{in_leaf}
use Rattle.nt_value.specs.Stored.{bit_of, is_one_bit, is_unknown_bit}
use Rattle.nt_value.specs.declared.digit.Digit.{Digit}
use Rattle.nt_value.proofs.Widths.{seen_down, seen_down_all, digit_back, bit_lt, byte_is}
use Rattle.nt_value.proofs.bits.Bits.down.Goals as goal

pub returns-then-amount-self : goal.returns-then-amount-self
returns-then-amount-self c =
    c.filled.ensures
    ∙ ap (λ (ds : List Digit). in_leaf c.self.inside.leaf ds) (seen_down_all c.self.inside c.args.self c.args.amount c.args.fill c.self.view_is c.if-amount-self.true)
    ∙ ap (λ (x : LeafValue). in_leaf x.leaf (moved_down c.args.fill c.args.amount c.args.self.digits)) c.self.view_is

pub returns : goal.returns
returns c =
    let one = is_one_bit c.args.fill in
    let unknown = is_unknown_bit c.args.fill in
    c.fitted.ensures
    ∙ rw (c.moved_word-ones.ensures, c.moved_word-unknown.ensures, c.is_one_bit.ensures, c.is_unknown_bit.ensures, byte_is one, byte_is unknown)
    (ap (λ (ds : List Digit). in_leaf c.self.inside.leaf ds) (seen_down c.self.inside c.args.self c.args.amount (bit_of one) (bit_of unknown) c.args.fill c.self.view_is c.self.invariant c.if-amount-self.false (bit_lt one) (bit_lt unknown) (digit_back c.args.fill))
    ∙ ap (λ (x : LeafValue). in_leaf x.leaf (moved_down c.args.fill c.args.amount c.args.self.digits)) c.self.view_is)
