use Rattle.std.proofs.Common.{◌≡◌, map, drop}
use Rattle.std.specs.Prelude.{Option}
use Rattle.nt_ast.specs.declared.expr.Key.{Key}
use Rattle.nt_ast.specs.declared.expr.Expr.{Expr}
use Rattle.nt_types.specs.Ends.{end_of, latest, latest_item}
use Rattle.nt_types.proofs.ends.+ends.Given as goal

abbrev pub invariant-last-loop-part : goal.invariant-last-loop-part
invariant-last-loop-part l = latest l.fn.from (map end_of l.parts) ≡ latest l.at (map end_of (drop l.part-index l.parts))

abbrev pub invariant-last_item-loop-key : goal.invariant-last_item-loop-key
invariant-last_item-loop-key l =
    latest_item l.fn.from (map (λ (p : Option Key × Expr). (p.0, end_of p.1)) l.items) ≡ latest_item l.at (map (λ (p : Option Key × Expr). (p.0, end_of p.1)) (drop l._key-index l.items))
