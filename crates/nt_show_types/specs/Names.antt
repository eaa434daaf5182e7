-- What the names of the cases mean.
use Rattle.std.specs.Prelude.{if◌then◌else◌, codes}
use Rattle.std.specs.Str.{bytes_eq}
use Rattle.nt_ast.specs.declared.path.Path.{Path}
use Rattle.nt_ast.specs.declared.types.IntWord.TheVariants as w
use Rattle.nt_const.specs.declared.seen.Seen.{Seen}
use Rattle.nt_const.specs.declared.seen.Seen.TheVariants as seen
use Rattle.nt_const.specs.Tables.{Known as Values, names_in}
use Rattle.std.specs.Prelude.{None}
use Rattle.nt_type_trees.specs.declared.seen.TypeSeen.{TypeSeen}
use Rattle.nt_type_trees.specs.declared.seen.TypeSeen.TheVariants as kinds
use Rattle.nt_type_trees.specs.Types.{plain_kind}

-- a name that is none of these is looked for among the constants
abbrev pub seen_in : Values → Path → Seen
seen_in values path =
    if bytes_eq path.name (codes "obj") then seen.Other else
    if bytes_eq path.name (codes "two") then seen.Ambiguous else
    if bytes_eq path.name (codes "word") then seen.Other else names_in values path

abbrev pub type_in : Path → TypeSeen
type_in path =
    if bytes_eq path.name (codes "obj") then kinds.Other else
    if bytes_eq path.name (codes "two") then kinds.Ambiguous else
    if bytes_eq path.name (codes "word") then kinds.Known (plain_kind w.Int None) else kinds.Unknown
