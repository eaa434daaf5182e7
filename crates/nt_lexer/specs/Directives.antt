-- The directives `timescale and `default_nettype (IEEE 1800-2017, 22.7, 22.8), read from the left. A place counts bytes.
use Rattle.std.specs.Prelude.{ℕ, ◌+◌, Bool, ◌||◌, ◌==◌, nat_eq, nat_le, if◌then◌else◌, List, length, take, drop, Option, Some, None, codes}
use Rattle.std.specs.List.{prefix_len, starts_with}
use Rattle.std.specs.Map.{lookup}
use Rattle.std.specs.Str.{bytes_eq}
use Rattle.nt_value.specs.declared.unit.Base.{Base}
use Rattle.nt_value.specs.declared.unit.Base.TheVariants as b
use Rattle.nt_value.specs.declared.unit.Unit.{Unit as TimeUnit}
use Rattle.nt_lexer.specs.Bytes.{Bytes, in_run}
use Rattle.nt_lexer.specs.declared.kinds.Run.{Run}
use Rattle.nt_lexer.specs.declared.kinds.Run.TheVariants as run
use Rattle.nt_lexer.specs.Spellings.{tens, bases}

infixl 10 ◌>>=◌
abbrev pub ◌>>=◌ : {A B : Type 0} → Option A → (A → Option B) → Option B
(Some x) >>= f = f x
None >>= f = None

-- what a table says of a spelling
abbrev pub named : {A : Type 0} → List (Bytes × A) → Bytes → Option A
named table text = lookup (λ spelling. bytes_eq spelling text) table

-- the power of ten of femtoseconds that a unit is
abbrev pub base_exponent : Base → ℕ
base_exponent b.S = 15
base_exponent b.Ms = 12
base_exponent b.Us = 9
base_exponent b.Ns = 6
base_exponent b.Ps = 3
base_exponent b.Fs = 0

abbrev pub exponent : TimeUnit → ℕ
exponent unit = unit.ten + base_exponent unit.base

-- how many bytes of a run stand at a place
abbrev pub run_at : Run → Bytes → ℕ → ℕ
run_at run text at = prefix_len (in_run run) (drop at text)

-- past the white space at a place
abbrev pub past_blanks : Bytes → ℕ → ℕ
past_blanks text at = at + run_at run.Blank text at

abbrev pub past_some_blanks : Bytes → ℕ → Option ℕ
past_some_blanks text at = if run_at run.Blank text at == 0 then None else Some (past_blanks text at)

-- past a spelling
abbrev pub past : Bytes → Bytes → ℕ → Option ℕ
past spelling text at = if starts_with nat_eq (drop at text) spelling then Some (at + length spelling) else None

abbrev pub paired : {A : Type 0} → ℕ → Option A → Option (A × ℕ)
paired at None = None
paired at (Some x) = Some (x, at)

-- the whole name or number at a place, where the table has it, and the place after it
abbrev pub part : {A : Type 0} → Run → List (Bytes × A) → Bytes → ℕ → Option (A × ℕ)
part run table text at =
    paired (at + run_at run text at) (named table (take (run_at run text at) (drop at text)))

abbrev pub unit_at : Bytes → ℕ → Option (TimeUnit × ℕ)
unit_at text at = do
  ten ← part run.Number tens text at
  base ← part run.Name bases text (past_blanks text ten.1)
  Some (record { ten = ten.0; base = base.0 }, base.1)

abbrev pub no_larger : TimeUnit → TimeUnit × ℕ → Option (TimeUnit × ℕ)
no_larger unit precision = if nat_le (exponent precision.0) (exponent unit) then Some (unit, precision.1) else None

-- `timescale, its unit, and a precision that is not larger: the unit, and the place after
abbrev pub timescale : Bytes → Option (TimeUnit × ℕ)
timescale text = do
  word ← past (codes "`timescale") text 0
  start ← past_some_blanks text word
  unit ← unit_at text start
  slash ← past (codes "/") text (past_blanks text unit.1)
  precision ← unit_at text (past_blanks text slash)
  no_larger unit.0 precision

-- `default_nettype, with none or wire: the place after
abbrev pub is_net_word : Bytes → Bool
is_net_word word = bytes_eq word (codes "none") || bytes_eq word (codes "wire")

abbrev pub net_word : Bytes → ℕ → Option ℕ
net_word text at = if is_net_word (take (run_at run.Name text at) (drop at text)) then Some (at + run_at run.Name text at) else None

-- `default_nettype, with none or wire: the place after
abbrev pub default_nettype : Bytes → Option ℕ
default_nettype text = do
  word ← past (codes "`default_nettype") text 0
  start ← past_some_blanks text word
  net_word text start
