-- Local values in steps of one unit of time.
use Rattle.std.specs.Prelude.{ℤ}
use Rattle.audit_devices.specs.declared.clocks.finding.Series.{Series}

-- the value and each one above it
abbrev pub values_from : ℤ → Series
values_from v = record { first = v; step = 1 }
