use Rattle.std.proofs.Common.{refl, sym, ◌∙◌}
use Rattle.nt_types.specs.Opened.{view_of}
use Rattle.nt_nettype.proofs.Resolving.{refused_told, so, not_so, told_2, told_3, told_4, told_5, told_6}
use Rattle.nt_nettype.proofs.resolver.judged.Goals as goal

pub returns-then-not-returns : goal.returns-then-not-returns
returns-then-not-returns c =
    refused_told (view_of c.args.scopes.now) c.args.functions.now c.args.path.now c.args.kind.now c.refused.result _ c.refused.ensures
    (told_2 c.args.function.now c.requires.named (not_so c.returns.result c.returns.ensures c.if-not-returns.true))

pub returns-then-not-takes : goal.returns-then-not-takes
returns-then-not-takes c =
    refused_told (view_of c.args.scopes.now) c.args.functions.now c.args.path.now c.args.kind.now c.refused-then-not-takes.result _ c.refused-then-not-takes.ensures
    (told_3 c.args.function.now c.requires.named (so c.returns.result c.returns.ensures c.if-not-returns.false) (not_so c.takes.result c.takes.ensures c.if-not-takes.true))

pub returns-then-not-function : goal.returns-then-not-function
returns-then-not-function c =
    refused_told (view_of c.args.scopes.now) c.args.functions.now c.args.path.now c.args.kind.now c.refused-then-not-function.result _ c.refused-then-not-function.ensures
    (told_4 c.args.function.now c.requires.named (so c.returns.result c.returns.ensures c.if-not-returns.false) (so c.takes.result c.takes.ensures c.if-not-takes.false) c.if-not-function.true)

pub returns-then-not-function-2 : goal.returns-then-not-function-2
returns-then-not-function-2 c =
    refused_told (view_of c.args.scopes.now) c.args.functions.now c.args.path.now c.args.kind.now c.refused-then-not-function-2.result _ c.refused-then-not-function-2.ensures
    (told_5 c.args.function.now c.requires.named (so c.returns.result c.returns.ensures c.if-not-returns.false) (so c.takes.result c.takes.ensures c.if-not-takes.false) c.if-not-function.false c.if-not-function-2.true)

pub returns-then-branch : goal.returns-then-branch
returns-then-branch c =
    refused_told (view_of c.args.scopes.now) c.args.functions.now c.args.path.now c.args.kind.now c.refused-then-branch.result _ c.refused-then-branch.ensures
    (told_6 c.args.function.now c.requires.named (so c.returns.result c.returns.ensures c.if-not-returns.false) (so c.takes.result c.takes.ensures c.if-not-takes.false) c.if-not-function.false c.if-not-function-2.false
    (sym c.in_ok-writes_argument.ensures ∙ c.if-branch.true))

pub returns : goal.returns
returns c =
    record {
      function = c.args.function.now;
      named = c.requires.named;
      returns = so c.returns.result c.returns.ensures c.if-not-returns.false;
      takes = so c.takes.result c.takes.ensures c.if-not-takes.false;
      automatic = c.if-not-function.false;
      own = c.if-not-function-2.false;
      keeps = sym c.in_ok-writes_argument.ensures ∙ c.if-branch.false;
      is = refl;
    }
