use Rattle.std.proofs.Common.{◌≤◌, arith}
use Rattle.nt_machine.proofs.TwoNets.{two_nets_fit, two_nets_plain}
use Rattle.nt_tests.proofs.machine.joined.Goals as goal

pub returns-clause-design : goal.returns-clause-design
returns-clause-design c =
    rw (c.from_vec.ensures, c.in_ok-vec.ensures.items, c.from_vec-2.ensures, c.in_ok-vec-2.ensures.items, c.new.ensures, c.new-2.ensures, c.new-3.ensures, c.in_ok-scopes.ensures) (two_nets_fit c.args.driven c.args.floating c.args.assign _ _ _ c.requires.right.0 c.requires.driver c.requires.free c.requires.kind c.requires.other_kind c.requires.target c.requires.right.1 c.requires.reads c.requires.right.2 (let e : 0 ≤ 2 = omega arith in e))

pub returns-clause-plain : goal.returns-clause-plain
returns-clause-plain c =
    rw (c.from_vec.ensures, c.in_ok-vec.ensures.items, c.from_vec-2.ensures, c.in_ok-vec-2.ensures.items, c.new.ensures, c.new-2.ensures, c.new-3.ensures, c.in_ok-scopes.ensures) (two_nets_plain c.args.driven c.args.floating c.args.assign _ _ _ c.requires.right.0 c.requires.driver c.requires.free c.requires.kind c.requires.other_kind c.requires.target c.requires.right.1 c.requires.reads c.requires.right.2 (let e : 0 ≤ 2 = omega arith in e))
