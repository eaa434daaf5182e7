-- What tokens stand for in types.
use Rattle.std.specs.Prelude.{Bool, true, false, Option, Some, None}
use Rattle.nt_value.specs.declared.place.Place.{Place}
use Rattle.nt_ast.specs.declared.types.IntWord.{IntWord}
use Rattle.nt_ast.specs.declared.types.IntWord.TheVariants as int
use Rattle.nt_ast.specs.declared.types.TypeTree.{TypeTree}
use Rattle.nt_ast.specs.declared.types.TypeTree.TheVariants as t
use Rattle.nt_lexer.specs.declared.kinds.Word.TheVariants as w
use Rattle.nt_lexer.specs.declared.kinds.TokenKind.{TokenKind}
use Rattle.nt_lexer.specs.declared.kinds.TokenKind.TheVariants as k

-- the words of integral types that may have a range (IEEE 1800-2017, 6.11, A.2.2.1 integer_vector_type)
abbrev pub vector_of : TokenKind → Option IntWord
vector_of (k.Word w.Logic) = Some int.Logic
vector_of (k.Word w.Reg) = Some int.Reg
vector_of (k.Word w.Bit) = Some int.Bit
vector_of _ = None

-- and of those of a fixed width (A.2.2.1 integer_atom_type)
abbrev pub atom_of : TokenKind → Option IntWord
atom_of (k.Word w.Byte) = Some int.Byte
atom_of (k.Word w.Shortint) = Some int.Shortint
atom_of (k.Word w.Int) = Some int.Int
atom_of (k.Word w.Longint) = Some int.Longint
atom_of (k.Word w.Integer) = Some int.Integer
atom_of (k.Word w.Time) = Some int.Time
atom_of _ = None

-- whether a word says that a type is signed (A.2.2.1 signing)
abbrev pub sign_of : TokenKind → Option Bool
sign_of (k.Word w.Signed) = Some true
sign_of (k.Word w.Unsigned) = Some false
sign_of _ = None

-- the type that a declaration has where none is written: one bit of `logic`, at this place (6.10, 13.4, 23.2.2.3)
abbrev pub one_bit : Place → TypeTree
one_bit at = t.Integral at int.Logic None None
