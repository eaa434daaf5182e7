use Rattle.std.proofs.Common.{sym}
use Rattle.std.proofs.lemmas.Bool.{eq-eqb, ne_eqb}
use Rattle.nt_value.proofs.Truths.{seen_same}
use Rattle.nt_value.proofs.bits.Bits.is_same_digits.Goals as goal

pub returns-then-self-other : goal.returns-then-self-other
returns-then-self-other c =
    let whole = seen_same c.self.inside c.other.inside c.args.self c.args.other c.self.view_is c.other.view_is c.requires c.self.invariant c.other.invariant in
    sym (rw (ne_eqb c.self.inside.ones c.other.inside.ones c.if-self-other.true) at whole)

pub returns : goal.returns
returns c =
    let whole = seen_same c.self.inside c.other.inside c.args.self c.args.other c.self.view_is c.other.view_is c.requires c.self.invariant c.other.invariant in
    sym (rw (eq-eqb c.self.inside.ones c.other.inside.ones c.if-self-other.false) at whole)
