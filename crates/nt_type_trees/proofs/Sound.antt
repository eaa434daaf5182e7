-- The type of a tree is one that a value may have.
use Rattle.std.proofs.Common.{ℕ, zero, suc, List, [], ◌∷◌, length, replicate, sym, ap, subst, arith}
use Rattle.std.specs.Prelude.{All}
use Rattle.std.specs.List.{flat_map}
use Rattle.std.proofs.lemmas.List.Elements.{All-append, All-cons, All-nil}
use Rattle.nt_value.specs.Digits.{IsLeaf}
use Rattle.nt_value.specs.declared.leaf.Leaf.{Leaf}
use Rattle.nt_ast.specs.declared.path.Declared.{Declared}
use Rattle.nt_ast.specs.declared.types.IntWord.{IntWord}
use Rattle.nt_ast.specs.declared.types.IntWord.TheVariants as w
use Rattle.nt_ast.specs.declared.types.TypeTree.{TypeTree}
use Rattle.nt_const.specs.Rules.{Names}
use Rattle.nt_kinds.specs.declared.kind.Kind.{Kind}
use Rattle.nt_kinds.specs.declared.kind.Kind.TheVariants as kind
use Rattle.nt_kinds.specs.Kinds.{span, leaves, member_leaves, IsSmall, IsSound}
use Rattle.nt_kinds.proofs.Opening.{leaves_one, leaves_struct, leaves_array, levels_one}
use Rattle.nt_type_trees.specs.Types.{TypeNode, Dim, Types, IsType, word_leaf, arrays, IsKind, plain, ranged, structure, named, IsDeclared, declared, AreMembers, no_members, more_members}

record Valid (x : Kind) : Type 0 where
  leaves_valid : All IsLeaf (leaves x)
  within : IsSmall x

one_leaf : (l : Leaf) (a b : ℕ) → IsLeaf l → Valid (kind.One l a b)
one_leaf l a b v =
    record {
      leaves_valid = subst (λ s. All IsLeaf s) (sym (leaves_one l a b)) (All-cons IsLeaf l [] v (All-nil IsLeaf));
      within = let e = ap length (leaves_one l a b) in let f = levels_one l a b in record { wide = omega (arith, e); deep = omega (arith, f) };
    }

word_width : (word : IntWord) → IsLeaf (word_leaf word)
word_width w.Logic = (omega arith, omega arith)
word_width w.Reg = (omega arith, omega arith)
word_width w.Bit = (omega arith, omega arith)
word_width w.Byte = (omega arith, omega arith)
word_width w.Shortint = (omega arith, omega arith)
word_width w.Int = (omega arith, omega arith)
word_width w.Longint = (omega arith, omega arith)
word_width w.Integer = (omega arith, omega arith)
word_width w.Time = (omega arith, omega arith)

repeated_valid : (n : ℕ) (s : List Leaf) → All IsLeaf s → All IsLeaf (flat_map (λ s. s) (replicate n s))
repeated_valid zero s v = All-nil IsLeaf
repeated_valid (suc n) s v = All-append IsLeaf s (flat_map (λ s. s) (replicate n s)) v (repeated_valid n s v)

arrays_valid : (ss : List (ℕ × ℕ)) (x : Kind) → All IsLeaf (leaves x) → All IsLeaf (leaves (arrays ss x))
arrays_valid [] x v = v
arrays_valid (s ∷ ss) x v = subst (λ l. All IsLeaf l) (sym (leaves_array s.0 s.1 (arrays ss x))) (repeated_valid (span s.0 s.1) (leaves (arrays ss x)) (arrays_valid ss x v))

mutual
  valid : {k : Names} {ts : Types} {t : TypeNode} {x : Kind} → IsKind k ts t x → Valid x
  valid (plain at word signed) = one_leaf _ _ _ (word_width word)
  valid (ranged at word signed x y a b w) = one_leaf _ _ _ w
  valid (structure {kinds = kinds} at ms s) = record { leaves_valid = subst (λ l. All IsLeaf l) (sym (leaves_struct at kinds)) (members_valid ms); within = s }
  valid (named at path e w) = record { leaves_valid = w.valid; within = w.small }

  declared_valid : {k : Names} {ts : Types} {t : TypeTree} {dims : List Dim} {x : Kind} → IsDeclared k ts t dims x → Valid x
  declared_valid (declared {x = x} {spans = spans} a b s) = record { leaves_valid = arrays_valid spans x (valid a).leaves_valid; within = s }

  members_valid : {k : Names} {ts : Types} {ms : List (TypeTree × Declared)} {xs : List (List ℕ × Kind)} → AreMembers k ts ms xs → All IsLeaf (member_leaves xs)
  members_valid no_members = All-nil IsLeaf
  members_valid (more_members {x = x} {kinds = kinds} a b) = All-append IsLeaf (leaves x) (member_leaves kinds) (declared_valid a).leaves_valid (members_valid b)

pub type_of : {k : Names} {ts : Types} {t : TypeTree} {dims : List Dim} {x : Kind} → IsDeclared k ts t dims x → IsType x
type_of i = let v = declared_valid i in record { small = v.within; valid = v.leaves_valid }

sound_of : {x : Kind} → Valid x → IsSound x
sound_of v = record { within = v.within.wide; valid = v.leaves_valid }

pub kind_sound : {k : Names} {ts : Types} {t : TypeNode} {x : Kind} → IsKind k ts t x → IsSound x
kind_sound i = sound_of (valid i)

pub declared_sound : {k : Names} {ts : Types} {t : TypeTree} {dims : List Dim} {x : Kind} → IsDeclared k ts t dims x → IsSound x
declared_sound i = sound_of (declared_valid i)
