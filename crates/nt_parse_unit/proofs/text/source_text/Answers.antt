use Rattle.std.proofs.Common.{inr, sym, ap, ◌∙◌}
use Rattle.nt_diag.specs.declared.rule.Rule.TheVariants.{S1}
use Rattle.nt_diag.specs.declared.refusal.Refusal.{Refusal}
use Rattle.nt_value.specs.declared.place.Place.{Place}
use Rattle.nt_parse_expr.specs.declared.cursor.TheConstants.{LIMIT}
use Rattle.nt_parse_unit.proofs.Exact.{read_sound, none_derives, each_place}
use Rattle.nt_parse_unit.proofs.text.source_text.Goals as goal

pub returns-in-Ok-clause-reads : goal.returns-in-Ok-clause-reads
returns-in-Ok-clause-reads c = (read_sound LIMIT c.args.tokens.now c.in-Ok.items c.in-Ok.ensures, sym c.first_left_out.ensures ∙ c.in_default.is)

pub returns-in-Ok-clause-placed : goal.returns-in-Ok-clause-placed
returns-in-Ok-clause-placed c = each_place LIMIT c.args.tokens.now c.in-Ok.items (read_sound LIMIT c.args.tokens.now c.in-Ok.items c.in-Ok.ensures)

pub returns-in-Err-Refused-clause-reads : goal.returns-in-Err-Refused-clause-reads
returns-in-Err-Refused-clause-reads c =
    let none = rw c.in-Err-Refused.field-0-is at c.in-Err-Refused.ensures in
    inr (
      sym c.first_left_out.ensures ∙ c.in_default.is,
      none_derives LIMIT c.args.tokens.now none,
      ap (λ (p : Place). (let r : Refusal = record { rule = S1; place = p } in r)) c.file_start.ensures,
    )
