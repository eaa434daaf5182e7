-- Names of packages' items (IEEE 1800-2017, 26.3).
use Rattle.std.specs.Prelude.{ℕ, List, ◌++◌, Option, Some, None, codes}
use Rattle.nt_ast.specs.declared.path.Path.{Path}

-- `x`, and `p::x` of the package p
abbrev pub full_name : Option (List ℕ) → List ℕ → List ℕ
full_name None name = name
full_name (Some scope) name = scope ++ codes "::" ++ name

-- the name that a path writes
abbrev pub path_name : Path → List ℕ
path_name path = full_name path.scope path.name
