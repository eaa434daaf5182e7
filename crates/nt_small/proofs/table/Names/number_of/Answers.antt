use Rattle.std.proofs.Common.{◌∙◌, ap}
use Rattle.std.specs.Str.{bytes_eq}
use Rattle.nt_small.specs.Elaboration.{position_of}
use Rattle.nt_small.proofs.Positions.{position-map}
use Rattle.nt_small.proofs.table.Names.number_of.Goals as goal

pub returns : goal.returns
returns c = c.get_index_of.ensures.index ∙ position-map (λ k. k.now) (bytes_eq c.args.name.now) c.self.inside.names.keys ∙ ap (λ l. position_of c.args.name.now l) c.self.view_is
