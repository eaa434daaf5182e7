use Rattle.std.proofs.Common.{sym, ◌∙◌}
use Rattle.nt_design.specs.Reads.{reads_of, trees_of}
use Rattle.nt_semantics.specs.Same.{is_same_object}
use Rattle.nt_sensitivity.proofs.Readers.{flat_any}
use Rattle.nt_sensitivity.proofs.reads.act_reads.Goals as goal

pub returns : goal.returns
returns c = c.has_reader.ensures ∙ sym (flat_any (is_same_object c.args.object) reads_of (trees_of c.args.act.now))
