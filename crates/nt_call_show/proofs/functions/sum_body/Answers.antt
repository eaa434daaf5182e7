use Rattle.nt_call_show.proofs.functions.sum_body.Goals as goal

pub returns : goal.returns
returns c =
    rw (c.new.ensures, c.into_inner.ensures, c.into_inner-2.ensures, c.in_ok-first.ensures, c.in_ok-test.ensures, c.in_ok-next.ensures, c.in_ok-body.ensures)
    at c.new-2.ensures
