-- What calls answer where a table gives a callable function or a member.
use Rattle.std.specs.Prelude.{◌≡◌, ℕ, ◌*◌, min, ⊤, Bool, Option, Some, None, Result, Ok, Err, List, length}
use Rattle.nt_diag.specs.declared.rule.Rule.{Rule}
use Rattle.nt_kinds.specs.Kinds.{leaves}
use Rattle.nt_design.specs.declared.tree.Tree.{Tree}
use Rattle.nt_typing.specs.declared.scope.Callable.{Callable}
use Rattle.nt_typing.specs.declared.thing.Thing.{Thing}
use Rattle.nt_typing.specs.Kinds.{Found}
use Rattle.nt_typing.specs.Tables.{concat_thing, copies}
use Rattle.nt_drafts.specs.Gives.{Gives}
use Rattle.nt_drafts.specs.declared.unfit.Unfit.{Unfit}
use Rattle.nt_drafts.specs.declared.unfit.Unfit.TheVariants.{Breaks, OutOfMemory}
use Rattle.nt_things.specs.declared.member.Member.{Member}

-- the table's function, or its rule
abbrev pub GivesCallable : {A : Type 0} → (A → Callable) → Result Callable Rule → Result A Unfit → Type 0
GivesCallable now table (Ok f) = table ≡ Ok (now f)
GivesCallable now table (Err (Breaks r)) = table ≡ Err r
GivesCallable now table (Err (OutOfMemory e)) = ⊤

-- a member with the leaves before it, and how many it has
abbrev pub TellsFound : Option Found → Option Member → Type 0
TellsFound table None = table ≡ None
TellsFound table (Some m) = (table ≡ Some (record { kind = m.kind; first = m.first })) × (m.count ≡ length (leaves m.kind))

-- a width of which all over 64 are one
abbrev pub Concats : ℕ → Bool → List Tree → Result Thing Unfit → Type 0
Concats width four ts result = (n : ℕ) → width ≡ min n 65 → Gives (concat_thing n four ts) result

abbrev pub Repeats : ℕ → ℕ → Bool → List Tree → Result Thing Unfit → Type 0
Repeats count width four ts result = (n : ℕ) → width ≡ min n 65 → Gives (concat_thing (count * n) four (copies count ts)) result
