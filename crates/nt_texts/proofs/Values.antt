-- What is told of a text that is to be one constant.
use Rattle.std.proofs.Common.{◌+◌, Option, length, inl, inr}
use Rattle.std.specs.Prelude.{Result, Ok, Err}
use Rattle.nt_value.specs.Digits.{LeafValue}
use Rattle.nt_value.specs.declared.leaf.Leaf.{Leaf}
use Rattle.nt_ast.specs.Places.{Placed}
use Rattle.nt_ast.specs.declared.expr.Expr.{Expr}
use Rattle.nt_ast.specs.declared.expr.Expr.TheViews.{out-Expr}
use Rattle.nt_diag.specs.declared.refusal.Fault.{Fault}
use Rattle.nt_diag.specs.declared.refusal.Fault.TheVariants as fault
use Rattle.nt_lexer.specs.Bytes.{Bytes}
use Rattle.nt_lexer.specs.Laws.{IsList}
use Rattle.nt_lexer.proofs.Lists.{each}
use Rattle.nt_parse_expr.proofs.Exact.{each_place}
use Rattle.nt_const.specs.Rules.{Names}
use Rattle.nt_const.specs.Answers.{Evaluates}
use Rattle.nt_texts.specs.Texts.{CutInto, IsExpression, ExpressionOf}
use Rattle.nt_texts.specs.Constants.{ConstantOf}

-- the tree of a text has its places in the text's order
pub text_placed : (text : Bytes) (x : Expr) → CutInto text (λ tokens. IsExpression tokens x) → Placed 0 0 (length text + 1) (out-Expr x)
text_placed text x (tokens, head, lexes, is) =
    let l : IsList 0 text 0 _ head tokens = each lexes in
    each_place 64 0 0 (length text + 1) tokens is.0 x is.1 l.ascends

pub constant_told : (text : Bytes) (k : Names) (to : Option Leaf) (x : Expr) (result : Result LeafValue Fault)
    → CutInto text (λ tokens. IsExpression tokens x) → Evaluates k (out-Expr x) to result → ConstantOf text k to result
constant_told text k to x (Ok v) (tokens, head, lexes, is) means = (tokens, head, lexes, (x, is, means))
constant_told text k to x (Err (fault.Refused r)) (tokens, head, lexes, is) refuses =
    inr (tokens, head, lexes, (x, is, record { is = refuses.is; least = refuses.least 0 0 (length text + 1) (text_placed text x (tokens, head, lexes, is)) }))
constant_told text k to x (Err (fault.OutOfMemory e)) cut evaluates = tt

pub no_constant : (text : Bytes) (k : Names) (to : Option Leaf) (e : Fault) → ExpressionOf text (Err e) → ConstantOf text k to (Err e)
no_constant text k to (fault.Refused r) told = inl told
no_constant text k to (fault.OutOfMemory e) told = tt
