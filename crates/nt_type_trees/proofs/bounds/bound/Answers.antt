use Rattle.std.proofs.Common.{refl}
use Rattle.nt_type_trees.proofs.Joining.{bound_given, bound_uncounted, bound_refused}
use Rattle.nt_type_trees.proofs.bounds.bound.Goals as goal

pub returns-then-counts : goal.returns-then-counts
returns-then-counts g c = bound_given (g.L.Lookup.sees c.args.known.now) c.args.expr.now c.in-Ok.value c.magnitude.result c.in-Ok.ensures.answer (c.if-counts.ensures.0 refl) c.magnitude.ensures.value

pub returns-else-counts : goal.returns-else-counts
returns-else-counts g c =
    bound_uncounted (g.L.Lookup.sees c.args.known.now) c.args.expr.now c.in-Ok.value c.place.result c.in-Ok.ensures.answer (λ h. absurd (let e : _ = c.if-counts.ensures.1 h in cc)) c.place.ensures

pub returns-in-Err-Refused : goal.returns-in-Err-Refused
returns-in-Err-Refused g c = bound_refused (g.L.Lookup.sees c.args.known.now) c.args.expr.now c.in-Err-Refused.refusal (rw c.in-Err-Refused.field-0-is at c.in-Err-Refused.ensures.answer)
