use Rattle.std.proofs.Common.{ap}
use Rattle.std.proofs.lemmas.List.{drop_all}
use Rattle.nt_patterns.proofs.Serving.{named_slots}
use Rattle.nt_patterns.proofs.Kept.{opened}
use Rattle.nt_patterns.proofs.Planning.{names_none, names_more, names_end}
use Rattle.nt_patterns.proofs.plans.by_names.Goals as goal

pub returns-in-None : goal.returns-in-None
returns-in-None c =
    names_none c.args.items.now (named_slots c.args.members.now) _ _ _ c.loop-name.all.items c.named.result c.args.other c.one.result
    (ap named_slots (opened c.args.members.now c.loop-name.name-index _ c.loop-name-test.true c.loop-name-item.is)) c.loop-name.invariant c.named.ensures c.requires c.one.ensures c.in-None.is

pub loop-name-preserved : goal.loop-name-preserved
loop-name-preserved c =
    names_more c.args.items.now (named_slots c.args.members.now) _ _ _ c.loop-name.all.items _ c.named.result c.args.other c.one.result c.in-Some.index
    (ap named_slots (opened c.args.members.now c.loop-name.name-index _ c.loop-name-test.true c.loop-name-item.is)) c.loop-name.invariant c.named.ensures c.requires c.one.ensures c.in-Some.is c.in_ok-push-in-Some.ensures.items

pub returns : goal.returns
returns c = names_end c.args.items.now (named_slots c.args.members.now) _ c.loop-name.all.items (ap named_slots (drop_all c.loop-name.name-index c.args.members.now c.loop-name-test.false)) c.loop-name.invariant
