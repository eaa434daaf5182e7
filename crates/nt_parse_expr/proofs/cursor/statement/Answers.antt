use Rattle.std.proofs.Common.{◌≡◌, ◌≤◌, length, drop, sym, ap, ◌∙◌, refl, arith}
use Rattle.nt_diag.specs.declared.rule.Rule.TheVariants.{S1}
use Rattle.nt_diag.specs.declared.refusal.Refusal.{Refusal}
use Rattle.nt_read_expr.specs.Tables.{start}
use Rattle.nt_read_stmt.specs.Places.{StatementPlacedIn}
use Rattle.nt_parse_expr.specs.declared.cursor.TheConstants.{LIMIT}
use Rattle.nt_parse_expr.specs.Readings.{StatementDerives, read_statement}
use Rattle.nt_parse_expr.proofs.AtCursor.{none_sound, tail_is, fits, found_at, moved, taken_placed}
use Rattle.nt_parse_expr.proofs.Exact.{statements_exact, statement_placed_in}
use Rattle.nt_parse_expr.proofs.cursor.statement.Goals as goal

pub overflow_sub-cursor : goal.overflow_sub-cursor
overflow_sub-cursor c =
    let d = found_at (read_statement LIMIT) (StatementDerives LIMIT) (statements_exact LIMIT) c.args.cursor.now.at c.deref.result.now c.args.cursor.now.tokens.items c.in-Ok.rest.now c.in-Ok.x c.deref.ensures.value c.in-Ok.ensures in
    let le : length c.in-Ok.rest.now ≤ length c.args.cursor.now.tokens.items = fits (read_statement LIMIT) (StatementDerives LIMIT) (statements_exact LIMIT) c.args.cursor.now.at c.args.cursor.now.tokens.items c.in-Ok.rest.now c.in-Ok.x d in
    omega arith

pub returns-in-Ok-clause-reads : goal.returns-in-Ok-clause-reads
returns-in-Ok-clause-reads c =
    let d = found_at (read_statement LIMIT) (StatementDerives LIMIT) (statements_exact LIMIT) c.args.cursor.now.at c.deref.result.now c.args.cursor.now.tokens.items c.in-Ok.rest.now c.in-Ok.x c.deref.ensures.value c.in-Ok.ensures in
    let m = moved (read_statement LIMIT) (StatementDerives LIMIT) (statements_exact LIMIT) c.args.cursor.now.at c.len.result c.args.cursor.now.tokens.items c.in-Ok.rest.now c.in-Ok.x (c.len.ensures ∙ sym c.deref.ensures.len ∙ ap length c.deref.ensures.value) d in
    (m.0, refl, m.1)

pub returns-in-Ok-clause-placed : goal.returns-in-Ok-clause-placed
returns-in-Ok-clause-placed c =
    let d = found_at (read_statement LIMIT) (StatementDerives LIMIT) (statements_exact LIMIT) c.args.cursor.now.at c.deref.result.now c.args.cursor.now.tokens.items c.in-Ok.rest.now c.in-Ok.x c.deref.ensures.value c.in-Ok.ensures in
    taken_placed (read_statement LIMIT) (StatementDerives LIMIT) (statements_exact LIMIT) StatementPlacedIn (statement_placed_in LIMIT) c.args.cursor.now.at c.len.result c.args.cursor.now.tokens.items c.in-Ok.rest.now c.in-Ok.x (c.len.ensures ∙ sym c.deref.ensures.len ∙ ap length c.deref.ensures.value) d

pub returns-in-Err-Refused-clause-reads : goal.returns-in-Err-Refused-clause-reads
returns-in-Err-Refused-clause-reads c =
    let same = tail_is c.args.cursor.now.at c.deref.result.now c.args.cursor.now.tokens.items c.deref.ensures.value in
    let none = rw c.in-Err-Refused.field-0-is at c.in-Err-Refused.ensures in
    let at_start : (p : _) → p ≡ start (drop c.args.cursor.now.at c.args.cursor.now.tokens.items) → _ = λ p e. ap (λ (v : _). (let w : Refusal = record { rule = S1; place = v } in w)) e in
    (none_sound (read_statement LIMIT) (StatementDerives LIMIT) (statements_exact LIMIT) _ (ap (read_statement LIMIT) (sym same) ∙ none), at_start _ (c.start-place.ensures ∙ ap start same), refl)
