-- The faults of a call.
use Rattle.std.specs.Prelude.{◌≡◌, ◌⊎◌}
use Rattle.tte_io.specs.Faults.{Rose}
use Rattle.tte_forms.specs.declared.status.Status.{Status, TheVariants.{ReadFault, WriteFault}}
use Rattle.tte_io.specs.declared.ends.Sink as sinks
use Rattle.tte_io.specs.declared.ends.Source as sources

-- a read of the source failed in the call
abbrev pub ReadFailed : {S : Type 0} → sources.Ghosts S → S → S → Type 0
ReadFailed source old new = Rose (source.faults old) (source.faults new)

-- a put failed in the call, or passing on did
abbrev pub PutFailed : {K : Type 0} → sinks.Ghosts K → K → K → Type 0
PutFailed sink old new = Rose (sink.faults old) (sink.faults new)

-- the wanted status, or that writing failed
abbrev pub IsWanted : Status → Status → Type 0 → Type 0
IsWanted wanted status PutFails = (status ≡ wanted) ⊎ ((status ≡ WriteFault) × PutFails)

-- the status of a fault comes only where there was one
pub record HasCause (status : Status) (ReadFails PutFails : Type 0) : Type 0 where
  pub read : status ≡ ReadFault → ReadFails
  pub write : status ≡ WriteFault → PutFails
