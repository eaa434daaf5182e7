use Rattle.std.proofs.Common.{◌^◌, ◌-◌, Bool, ◌∙◌, ap, sym}
use Rattle.std.specs.Prelude.{if◌then◌else◌}
use Rattle.nt_value.specs.Digits.{number_of}
use Rattle.nt_value.proofs.Results.{IsKnown, seen_absolute}
use Rattle.nt_value.proofs.bits.Bits.absolute.Goals as goal

pub returns-then-is_negative : goal.returns-then-is_negative
returns-then-is_negative c =
    let known : IsKnown c.self.inside c.args.self = record { view = c.self.view_is; stored = c.self.invariant; known = c.requires } in
    let p = c.args.self in
    let negative = sym c.is_negative.ensures ∙ c.if-is_negative.true in
    c.complement.ensures
    ∙ sym (seen_absolute c.self.inside p known ∙ ap (λ (s : Bool). if s then 2 ^ p.leaf.width - number_of p.digits else c.self.inside.ones) negative)

pub returns : goal.returns
returns c =
    let known : IsKnown c.self.inside c.args.self = record { view = c.self.view_is; stored = c.self.invariant; known = c.requires } in
    let p = c.args.self in
    let negative = sym c.is_negative.ensures ∙ c.if-is_negative.false in
    sym (seen_absolute c.self.inside p known ∙ ap (λ (s : Bool). if s then 2 ^ p.leaf.width - number_of p.digits else c.self.inside.ones) negative)
