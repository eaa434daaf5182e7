use Rattle.std.proofs.Common.{rules, arith, ◌≡◌}
use Rattle.nt_call_show.specs.Functions.{links, place}
use Rattle.nt_call_show.proofs.Whole.{whole}
use Rattle.std.specs.Prelude.{[]}
use Rattle.nt_call_show.proofs.functions.design_of_functions.Goals as goal

pub returns-clause-design : goal.returns-clause-design
returns-clause-design c =
    let all : c.add_links.new.to ≡ links [] place 0 16 = search rules in
    whole [] place _ c.new.ensures c.new-2.ensures c.new-3.ensures c.new-4.ensures c.new-5.ensures all (omega arith)
