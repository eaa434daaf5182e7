use Rattle.std.proofs.Common.{ℕ, ◌<◌, List, ap, refl, subst}
use Rattle.std.specs.Prelude.{option_map}
use Rattle.std.specs.List.{All}
use Rattle.nt_queue.specs.Lists.{Waiting, TakesNext, lists_of}
use Rattle.nt_queue.proofs.Mapped.{none_until, taken, seen}
use Rattle.nt_queue.proofs.queues.Queues.take_next.Goals as goal

pub returns-then-first-until : goal.returns-then-first-until
returns-then-first-until c =
    (subst (λ (w : Waiting). All (λ (slot : ℕ × List ℕ). c.args.until < slot.0) w.later) c.self.view_is (none_until c.args.until _ c.self.inside.later.entries c.if-first-until.true c.in_ok-first.ensures.all_from), refl)

pub returns : goal.returns
returns c =
    subst (λ (w : Waiting). TakesNext c.args.until w (seen c.self.inside.inactive.items c.self.inside.updates.items (lists_of c.pop_first.new.self.entries)) c.pop_first.result) c.self.view_is (taken c.args.until _ c.self.inside.inactive.items c.self.inside.updates.items c.self.inside.later.entries c.pop_first.new.self.entries c.pop_first.result c.if-first-until.false (ap (option_map (λ e. e.0)) c.in_ok-first.ensures.first) c.pop_first.ensures.variant.1 c.pop_first.ensures.removal c.pop_first.ensures.all_above)
