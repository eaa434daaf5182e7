use Rattle.std.proofs.Common.{◌≡◌, List, Some}
use Rattle.nt_ast.specs.declared.expr.Expr.{Expr}
use Rattle.nt_kinds.specs.declared.kind.Kind.{Kind}
use Rattle.nt_typing.specs.Tables.{given, planned}
use Rattle.nt_bind.proofs.Rising.{Adding, Sending}
use Rattle.nt_bind.proofs.Picking.{Picking}
use Rattle.nt_bind.proofs.walk.+walk.Given as goal

abbrev pub invariant-several-loop-part : goal.invariant-several-loop-part
invariant-several-loop-part l = Adding l.scope l.parts l.part-index l.all

abbrev pub invariant-all_sent-loop-arg : goal.invariant-all_sent-loop-arg
invariant-all_sent-loop-arg l =
    record {
      same : l.index ≡ l.arg-index;
      so_far : Sending l.scope (given l.args l.kinds) l.arg-index l.trees;
    }

abbrev pub invariant-picked-loop-number : goal.invariant-picked-loop-number
invariant-picked-loop-number l =
    record {
      same : l.slot ≡ l.number-index;
      so_far : (plan : List (Expr × Kind)) → planned l.kind l.items ≡ Some plan → Picking l.scope plan l.number-index l.all;
    }
