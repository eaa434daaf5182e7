use Rattle.std.proofs.Common.{ℕ, Vec, ◌++◌, ◌∷◌, [], sym, ◌∙◌, ap}
use Rattle.std.specs.Ordering.{nat_cmp}
use Rattle.std.specs.BTreeMap.{BTreeMap, insert_entry, is_at}
use Rattle.std.specs.declared.alloc.Global.{Global}
use Rattle.nt_queue.specs.Lists.{lists_of}
use Rattle.nt_queue.proofs.Mapped.{seen, same_back, pushed, inserted, on_any_err}
use Rattle.nt_queue.proofs.queues.Queues.later.Goals as goal

pub returns-in_err-push-clause-same : goal.returns-in_err-push-clause-same
returns-in_err-push-clause-same c =
    on_any_err _ _ (ap (seen c.self.inside.inactive.items c.self.inside.updates.items) (ap lists_of (c.get_mut.follows.holds c.push.new.self).0 ∙ same_back (is_at (nat_cmp c.args.at)) c.self.inside.later.entries c.in-Some.list.now c.push.new.self (sym c.in-Some.ensures.value) c.in_err-push.ensures.items) ∙ c.self.view_is)

pub returns-in-Some-clause-put : goal.returns-in-Some-clause-put
returns-in-Some-clause-put c =
    rw (← c.self.view_is) (ap (seen c.self.inside.inactive.items c.self.inside.updates.items) (ap lists_of (c.get_mut.follows.holds c.push.new.self).0 ∙ pushed c.args.at c.args.proc c.in-Some.list.now c.push.new.self c.self.inside.later.entries c.get_mut.ensures.ordered (sym c.in-Some.ensures.value) c.in_ok-push.ensures.items))

pub returns-clause-put : goal.returns-clause-put
returns-clause-put c =
    rw (← c.self.view_is) (ap (seen c.self.inside.inactive.items c.self.inside.updates.items) (ap lists_of c.in_ok-insert.ensures.entries ∙ ap (λ (m : BTreeMap ℕ (Vec ℕ Global)). lists_of (insert_entry nat_cmp m.entries c.args.at c.push-2.new.self)) c.get_mut.follows.holds-at-none ∙ inserted c.args.at c.args.proc c.push-2.new.self c.self.inside.later.entries (sym c.in_default.ensures.value) (c.in_ok-push-2.ensures.items ∙ ap (λ l. l ++ c.args.proc ∷ []) c.new-list.ensures.items)))
