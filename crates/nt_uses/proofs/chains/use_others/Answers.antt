use Rattle.std.proofs.Common.{map}
use Rattle.nt_types.specs.Opened.{view_of}
use Rattle.nt_uses.proofs.Chaining.{flags_are}
use Rattle.nt_uses.proofs.chains.use_others.Goals as goal

pub returns : goal.returns
returns c =
    flags_are 16 (view_of c.args.scopes.now) (map (λ f. f.now) c.args.functions.now) c.in_ok-nodes.nodes c.in_ok-first.first c.in_ok-all.all c.in_ok-nodes.ensures
    (rw c.as_slice.ensures at c.in_ok-first.ensures) (rw c.as_slice-2.ensures at c.in_ok-all.ensures)
