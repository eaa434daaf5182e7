use Rattle.std.proofs.Common.{refl}
use Rattle.nt_kinds.proofs.Alike.{struct_alike, members_within}
use Rattle.nt_kinds.proofs.kind.Kind.is_struct.Goals as goal

pub same_leaves-requires-clause-other_within : goal.same_leaves-requires-clause-other_within
same_leaves-requires-clause-other_within c = members_within c.args.self.now c.in-Struct.declared c.in-Struct.own _ c.in-Struct.is c.as_slice.ensures c.requires.own_within

pub returns-then-is_same_place : goal.returns-then-is_same_place
returns-then-is_same_place c = struct_alike c.same_leaves.result c.args.at c.in-Struct.declared c.args.self.now c.args.members.now c.as_slice.result.now c.in-Struct.own c.in-Struct.is c.as_slice.ensures (c.if-is_same_place.ensures.0 refl) c.same_leaves.ensures
