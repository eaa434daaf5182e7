use Rattle.std.proofs.Common.{ap, refl, ◌+◌}
use Rattle.nt_patterns.specs.Keys.{key_is}
use Rattle.nt_patterns.proofs.Kept.{found_start, found_next, found_end, kept_named}
use Rattle.nt_patterns.proofs.found.named.Goals as goal

pub loop-key-init : goal.loop-key-init
loop-key-init c = record { found = found_start (key_is c.args.name.now) c.args.items.now; index = refl }

pub loop-key-preserved : goal.loop-key-preserved
loop-key-preserved c = record {
  found = found_next (key_is c.args.name.now) c.args.items.now c.loop-key.key-index _ c.loop-key.found _ c.is_named.result c.loop-key.index c.loop-key-test.true c.loop-key-item.is c.is_named.ensures c.loop-key.invariant.index c.more-found.ensures c.loop-key.invariant.found;
  index = ap (λ n. n + 1) c.loop-key.invariant.index;
}

pub returns : goal.returns
returns c = found_end (key_is c.args.name.now) c.args.items.now c.loop-key.key-index c.loop-key.found _ c.loop-key-test.false (kept_named c.args.name.now c.args.items.now) c.loop-key.invariant.found
