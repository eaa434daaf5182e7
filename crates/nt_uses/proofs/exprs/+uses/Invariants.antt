use Rattle.std.proofs.Common.{◌≡◌, map, drop}
use Rattle.std.specs.Prelude.{Option}
use Rattle.nt_ast.specs.declared.expr.Key.{Key}
use Rattle.nt_ast.specs.declared.expr.Expr.{Expr}
use Rattle.nt_types.specs.Opened.{view_of}
use Rattle.nt_uses.specs.Uses.{here, all_of, all_items, expr_uses}
use Rattle.nt_uses.proofs.exprs.+uses.Given as goal

abbrev pub invariant-add_parts-loop-part : goal.invariant-add_parts-loop-part
invariant-add_parts-loop-part l = all_of (map expr_uses l.parts) (here (view_of l.scopes) l.body.own.now.names l.body.loops) l.fn.all ≡ all_of (map expr_uses (drop l.part-index l.parts)) (here (view_of l.scopes) l.body.own.now.names l.body.loops) l.all

abbrev pub invariant-add_items-loop-key : goal.invariant-add_items-loop-key
invariant-add_items-loop-key l =
    all_items (map (λ (p : Option Key × Expr). (p.0, expr_uses p.1)) l.items) (here (view_of l.scopes) l.body.own.now.names l.body.loops) l.fn.all
    ≡ all_items (map (λ (p : Option Key × Expr). (p.0, expr_uses p.1)) (drop l._key-index l.items)) (here (view_of l.scopes) l.body.own.now.names l.body.loops) l.all
