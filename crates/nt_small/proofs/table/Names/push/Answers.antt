use Rattle.std.proofs.Common.{◌∙◌, ◌++◌, ◌∷◌, [], ap, map, if◌then◌else◌}
use Rattle.std.proofs.lemmas.List.{map_push}
use Rattle.nt_small.specs.Elaboration.{position_of}
use Rattle.nt_small.proofs.Naming.{new_key}
use Rattle.nt_small.proofs.table.Names.push.Goals as goal

pub returns : goal.returns
returns c =
    ap (λ l. map (λ k. k.now) l) (c.in_ok-insert.ensures.keys ∙ ap (λ b. if b then c.self.inside.names.keys else c.self.inside.names.keys ++ c.args.name ∷ []) (new_key c.args.name c.self.inside.names.keys (ap (position_of c.args.name.now) c.self.view_is ∙ c.requires))) ∙ map_push (λ k. k.now) c.self.inside.names.keys c.args.name ∙ ap (λ l. l ++ c.args.name.now ∷ []) c.self.view_is
