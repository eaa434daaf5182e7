-- Units of time.
use Rattle.std.specs.Prelude.{◌≤◌}
use Rattle.nt_value.specs.declared.unit.Unit.{Unit as TimeUnit}

-- 1, 10 or 100 of the base, as in IEEE 1800-2017, 3.14.2.1
abbrev pub IsUnit : TimeUnit → Type 0
IsUnit unit = unit.ten ≤ 2
