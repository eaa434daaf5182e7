use Rattle.std.proofs.Common.{arith, ◌∙◌, ap, length}
use Rattle.nt_small.proofs.Tokens.{length-pieces, found_says, none_says}
use Rattle.nt_small.proofs.text.design_from_text.Goals as goal

pub design_from_pieces-requires : goal.design_from_pieces-requires
design_from_pieces-requires c =
    omega (arith, ap length c.deref.ensures.value, ap length c.in_ok-pieces.ensures, length-pieces c.args.text.now, c.if-text-gt-MOST_BYTES.false)

pub returns-clause-some : goal.returns-clause-some
returns-clause-some c =
    found_says _ _ _ _ c.if-text-gt-MOST_BYTES.false (c.deref.ensures.value ∙ c.in_ok-pieces.ensures) c.design_from_pieces.ensures.some

pub returns-clause-none : goal.returns-clause-none
returns-clause-none c =
    none_says _ _ _ _ (c.deref.ensures.value ∙ c.in_ok-pieces.ensures) c.design_from_pieces.ensures.none
