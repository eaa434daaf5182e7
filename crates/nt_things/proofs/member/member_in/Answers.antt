use Rattle.nt_things.proofs.Finding.{struct_within, struct_valid, struct_gives}
use Rattle.nt_things.proofs.member.member_in.Goals as goal

pub find-requires-clause-within : goal.find-requires-clause-within
find-requires-clause-within c = struct_within c.args.kind.now c.in-Struct.declared c.in-Struct.members _ c.in-Struct.is c.as_slice.ensures c.requires

pub find-requires-clause-valid : goal.find-requires-clause-valid
find-requires-clause-valid c = struct_valid c.args.kind.now c.in-Struct.declared c.in-Struct.members _ c.in-Struct.is c.as_slice.ensures c.requires

pub returns-in_ok-found-in-Struct : goal.returns-in_ok-found-in-Struct
returns-in_ok-found-in-Struct c =
    struct_gives c.args.kind.now c.in-Struct.declared c.in-Struct.members _ c.args.of c.args.name.now c.found_of.result c.in-Struct.is c.as_slice.ensures (c.found_of.ensures _ c.in_ok-found-in-Struct.ensures)
