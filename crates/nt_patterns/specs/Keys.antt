-- Keys of items (IEEE 1800-2017, 10.9).
use Rattle.std.specs.Prelude.{ℕ, nat_eq, Bool, true, false, List, Option, Some, None}
use Rattle.std.specs.Cmp.Lexicographic.{pointwise}
use Rattle.nt_ast.specs.declared.expr.Key.{Key}
use Rattle.nt_ast.specs.declared.expr.Key.TheVariants as key
use Rattle.nt_patterns.specs.declared.found.Found.{Found}
use Rattle.nt_patterns.specs.declared.found.Found.TheVariants as found

-- whether a key is this member's name
abbrev pub key_is : List ℕ → Option Key → Bool
key_is name None = false
key_is name (Some key.Other) = false
key_is name (Some (key.Member own)) = pointwise nat_eq name own

-- whether it is `default`
abbrev pub key_other : Option Key → Bool
key_other None = false
key_other (Some key.Other) = true
key_other (Some (key.Member own)) = false

-- one item more
abbrev pub more_found : Found → ℕ → Found
more_found found.Nothing i = found.One i
more_found (found.One j) i = found.Many
more_found found.Many i = found.Many

-- the one item of a slot, or the one for all that aren't named
abbrev pub chosen : Found → Found → Option ℕ
chosen found.Nothing found.Nothing = None
chosen found.Nothing (found.One i) = Some i
chosen found.Nothing found.Many = None
chosen (found.One i) other = Some i
chosen found.Many other = None

-- at most one
abbrev pub is_single : Found → Bool
is_single found.Nothing = true
is_single (found.One i) = true
is_single found.Many = false
