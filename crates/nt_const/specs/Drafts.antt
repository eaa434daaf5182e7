-- What a draft is, in each context, and what the walk that makes drafts answers.
use Rattle.std.specs.Prelude.{Result, Ok, Err}
use Rattle.nt_value.specs.Digits.{LeafValue}
use Rattle.nt_value.specs.Operators.{resize_of, unary_of, binary_of, merge_of}
use Rattle.nt_value.specs.declared.leaf.Leaf.{Leaf}
use Rattle.nt_value.specs.declared.literal.Literal.{Literal}
use Rattle.nt_value.specs.declared.operator.Unary.{Unary}
use Rattle.nt_value.specs.declared.operator.Binary.{Binary}
use Rattle.nt_diag.specs.declared.refusal.Fault.{Fault as Failure}
use Rattle.nt_diag.specs.declared.refusal.Fault.TheVariants as fault
use Rattle.nt_const.specs.declared.draft.Draft.{Draft}
use Rattle.nt_const.specs.declared.draft.Draft.TheOpen.{Draft-F}
use Rattle.nt_const.specs.declared.draft.Draft.TheVariants as d
use Rattle.nt_const.specs.declared.draft.Draft.TheFolds.{fold-Draft}
use Rattle.nt_const.specs.Tables.{unary_in, left_in, right_in, literal_in}

-- a leaf, and a value in each context
pub record Closing : Type 0 where
  pub leaf : Leaf
  pub value : Leaf → LeafValue

abbrev pub closing_step : Draft-F Closing → Closing
closing_step (Draft-F.Literal l v) = record { leaf = l; value = literal_in v }
closing_step (Draft-F.Closed l v) = record { leaf = l; value = resize_of v }
closing_step (Draft-F.Unary l op a) = record { leaf = l; value = λ c. resize_of (unary_of op (a.value (unary_in op c a.leaf))) c }
closing_step (Draft-F.Binary l op a b) =
    record { leaf = l; value = λ c. resize_of (binary_of op (a.value (left_in op c a.leaf b.leaf)) (b.value (right_in op c a.leaf b.leaf))) c }
closing_step (Draft-F.Choose l t a b) = record { leaf = l; value = λ c. merge_of t (a.value c) (b.value c) }

unfoldable pub closing : Draft → Closing
closing = fold-Draft Closing closing_step

abbrev pub draft_leaf : Draft → Leaf
draft_leaf a = (closing a).leaf

abbrev pub draft_value : Draft → Leaf → LeafValue
draft_value a c = (closing a).value c

-- the value of a draft by itself
abbrev pub own_value : Draft → LeafValue
own_value a = draft_value a (draft_leaf a)

-- the only fault is want of memory
abbrev pub IsMemory : {A : Type 0} → Result A Failure → Type 0
IsMemory (Ok a) = Unit {0}
IsMemory (Err (fault.Refused r)) = ⊥
IsMemory (Err (fault.OutOfMemory e)) = Unit {0}

abbrev pub OfUnary : Leaf → Unary → Draft → Draft
OfUnary l op a = d.Unary l op a

abbrev pub OfBinary : Leaf → Binary → Draft → Draft → Draft
OfBinary l op a b = d.Binary l op a b

abbrev pub OfChoose : Leaf → LeafValue → Draft → Draft → Draft
OfChoose l t a b = d.Choose l t a b

abbrev pub OfLiteral : Literal → Draft
OfLiteral v = d.Literal v.bits.leaf v

abbrev pub OfClosed : Leaf → LeafValue → Draft
OfClosed l v = d.Closed l v
