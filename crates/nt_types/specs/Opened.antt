-- What is opened, as the scopes of units.
use Rattle.std.specs.Prelude.{◌≡◌, List, Result, Ok, Err}
use Rattle.nt_diag.specs.declared.refusal.Refusal.{Refusal}
use Rattle.nt_diag.specs.declared.refusal.Fault.{Fault as Failure}
use Rattle.nt_diag.specs.declared.refusal.Fault.TheVariants as failure
use Rattle.nt_diag.specs.Order.{IsLeast}
use Rattle.nt_items.specs.declared.item.Units.{Units}
use Rattle.nt_types.specs.declared.scopes.Scopes.{Scopes}
use Rattle.nt_types.specs.Units.{UnitScopes, scopes_of}
use Rattle.nt_unit_names.specs.Faults.{NameFault, unit_of}

abbrev pub view_of : Scopes → UnitScopes
view_of s = record { scopes = s.scopes.items; packages = s.packages.names; whats = s.whats; homes = s.homes }

-- what opening units answers: their scopes where no name in them is faulty, else the least fault of names
abbrev pub Opens : List Units → Result Scopes Failure → Type 0
Opens files (Ok s) = (view_of s ≡ scopes_of (unit_of files)) × ((r : Refusal) → NameFault files r → ⊥)
Opens files (Err (failure.Refused r)) = IsLeast (NameFault files) r
Opens files (Err (failure.OutOfMemory e)) = Unit {0}
