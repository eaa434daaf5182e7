use Rattle.nt_parse_unit.proofs.Exact.{read_sound, read_complete}
use Rattle.nt_parse_unit.proofs.laws.source_exactly.Goals as goal

pub returns : goal.returns
returns c = λ limit ts xs. (read_sound limit ts xs, read_complete limit ts xs)
