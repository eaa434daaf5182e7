use Rattle.std.proofs.Common.{◌≤◌, ◌^◌, ap, ◌∙◌, arith}
use Rattle.nt_value.proofs.Words.{seen_number, seen_top, top_positive}
use Rattle.nt_value.proofs.bits.Bits.complement.Goals as goal

pub overflow_add-result : goal.overflow_add-result
overflow_add-result c =
    let i = c.self.inside in
    let top = seen_top i c.args.self c.self.view_is c.self.invariant c.requires.known in
    let some : 1 ≤ i.ones = top_positive _ i.ones (top ∙ c.requires.top) in
    omega (arith, some, c.low_ones.type_inv)

pub returns : goal.returns
returns c =
    let number = seen_number c.self.inside c.args.self c.self.view_is c.self.invariant c.requires.known in
    let power = ap (λ v. 2 ^ v.leaf.width) c.self.view_is in
    omega (arith, number, power, c.self.invariant.ones, c.low_ones.ensures)
