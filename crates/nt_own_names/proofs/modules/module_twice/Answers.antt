use Rattle.std.proofs.Common.{◌∙◌, map}
use Rattle.std.specs.List.{flat_map}
use Rattle.nt_own_names.specs.Twice.{module_names, named, item_named}
use Rattle.nt_own_names.proofs.Naming.{told_of, three}
use Rattle.nt_own_names.proofs.modules.module_twice.Goals as goal

pub returns : goal.returns
returns c =
    told_of c.twice.result (module_names c.args.params.now c.args.ports.now c.args.items.now)
    (c.as_slice.ensures ∙ three (map (λ p. named p.1) c.args.params.now) (map (λ p. named p.what) c.args.ports.now) (flat_map item_named c.args.items.now) c.new-all.ensures c.in_ok-add_params.ensures c.in_ok-add_ports.ensures c.in_ok-add_items.ensures)
    c.twice.ensures
