use Rattle.std.proofs.Common.{◌∷◌, [], map}
use Rattle.nt_own_names.specs.Twice.{named}
use Rattle.nt_own_names.proofs.Naming.{three}
use Rattle.nt_own_names.proofs.functions.names_of.Goals as goal

pub returns : goal.returns
returns c =
    let f = c.args.item.now in
    three (record { name = f.name; at = f.at } ∷ []) (map (λ a. named a.1) f.args) (map (λ l. named l.1) f.locals) c.new-all.ensures c.in_ok-add.ensures (rw c.as_slice.ensures at c.in_ok-add_args.ensures) (rw c.as_slice-2.ensures at c.in_ok-add_locals.ensures)
