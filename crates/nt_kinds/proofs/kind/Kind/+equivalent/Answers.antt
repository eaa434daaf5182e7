use Rattle.std.proofs.Common.{◌≡◌, ◌<◌, ℕ, sym, ◌∙◌, arith}
use Rattle.nt_kinds.specs.declared.kind.Kind.{Kind}
use Rattle.nt_kinds.specs.declared.kind.Kind.TheVariants as k
use Rattle.nt_kinds.specs.Kinds.{levels}
use Rattle.nt_kinds.proofs.Alike.{array_alike, element_levels, members_within, element_within}
use Rattle.nt_kinds.proofs.kind.Kind.+equivalent.Goals as goal

falls : (x : Kind) (a b : ℕ) (v v0 : Kind) (t : ℕ) → x ≡ k.Array a b v → v0 ≡ v → levels x ≡ t → levels v0 < t
falls x a b v v0 t is same e = let f = element_levels x a b v v0 is same in omega (arith, e, f)

pub is_struct-requires-clause-within : goal.is_struct-requires-clause-within
is_struct-requires-clause-within t c = members_within c.args.self.now c.in-Struct.declared c.in-Struct.members _ c.in-Struct.is c.as_slice.ensures c.requires.within

pub equivalent-requires : goal.equivalent-requires
equivalent-requires t c = (
  falls c.args.self.now c.in-Array.left c.in-Array.right c.in-Array.element c.get.result.now t c.in-Array.is c.get.ensures c.decreases,
  (
    element_within c.args.self.now c.in-Array.left c.in-Array.right c.in-Array.element c.get.result.now c.in-Array.is c.get.ensures c.requires.within,
    element_within c.args.other.now c.in-Array-other.a c.in-Array-other.b c.in-Array-other.with c.get-then-span.result.now c.in-Array-other.is c.get-then-span.ensures c.requires.other_within,
  ),
)

pub returns-then-span : goal.returns-then-span
returns-then-span t c =
    array_alike c.equivalent.result c.args.self.now c.args.other.now c.in-Array.left c.in-Array.right c.in-Array-other.a c.in-Array-other.b c.in-Array.element c.in-Array-other.with c.get.result.now c.get-then-span.result.now
    c.in-Array.is c.in-Array-other.is c.get.ensures c.get-then-span.ensures (sym c.span.ensures ∙ c.if-span.true ∙ c.span-in-Array-other.ensures) c.equivalent.ensures
