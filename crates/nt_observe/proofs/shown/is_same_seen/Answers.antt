use Rattle.std.proofs.Common.{◌∙◌}
use Rattle.nt_observe.proofs.Sames.{none_none, some_none, none_some, is_empty_of}
use Rattle.nt_observe.proofs.shown.is_same_seen.Goals as goal

pub returns-in-None-None : goal.returns-in-None-None
returns-in-None-None c = rw (c.in-None-None.is-0, c.in-None-None.is-1) none_none

pub returns-in-Some-None : goal.returns-in-Some-None
returns-in-Some-None c = rw (c.in-Some-None.is-0, c.in-Some-None.is-1) (is_empty_of _ _ c.items.ensures.value _ c.is_empty.ensures ∙ some_none c.in-Some-None.a.now)

pub returns-in-None-Some : goal.returns-in-None-Some
returns-in-None-Some c = rw (c.in-None-Some.is-0, c.in-None-Some.is-1) (is_empty_of _ _ c.items-in-None-Some.ensures.value _ c.is_empty-in-None-Some.ensures ∙ none_some c.in-None-Some.b.now)
