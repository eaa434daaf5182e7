use Rattle.nt_type_trees.proofs.Walking.{dim_by_bounds, dim_by_size}
use Rattle.nt_type_trees.proofs.bounds.dimension.Goals as goal

pub returns-in-None : goal.returns-in-None
returns-in-None g c =
    let k = g.L.Lookup.sees c.args.known.now in
    rw (c.sized.ensures, c.in-None.is) (dim_by_size c.place.result c.place.ensures c.in_ok-first.ensures)

pub returns-in_ok-second-in-Some : goal.returns-in_ok-second-in-Some
returns-in_ok-second-in-Some g c =
    let k = g.L.Lookup.sees c.args.known.now in
    rw (c.both.ensures, c.in-Some.is) (dim_by_bounds c.in_ok-first.ensures c.in_ok-second-in-Some.ensures)
