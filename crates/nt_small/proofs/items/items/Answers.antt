use Rattle.std.proofs.Common.{◌∙◌, sym, ap, map}
use Rattle.std.proofs.lemmas.Bool.{false≢true}
use Rattle.std.proofs.lemmas.List.{map_push, take_rest}
use Rattle.nt_small.specs.Said.{item_of}
use Rattle.nt_small.proofs.Listing.{no_items, one_item_more}
use Rattle.nt_small.proofs.items.items.Goals as goal

pub returns-in_default-clause-none : goal.returns-in_default-clause-none
returns-in_default-clause-none c =
    no_items _ _ _ _ c.loop-rest.invariant (λ e. absurd (false≢true (sym c.loop-rest-test.true ∙ c.is_end.ensures.1 e))) c.in_default.ensures.none

pub loop-rest-preserved : goal.loop-rest-preserved
loop-rest-preserved c =
    let grown = ap (λ l. map item_of l) c.in_ok-push.ensures.items ∙ map_push item_of _ _ in
    rw take_rest (rw grown (one_item_more _ _ _ _ _ (item_of c.in-Some.item) c.requires c.loop-rest.invariant c.in-Some.ensures.found))
