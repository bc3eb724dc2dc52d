-- The statuses that commands have.
use Rattle.tte_forms.specs.declared.status.Status.{Status, TheVariants.{Done, NetworkRefused, OutOfMemory, ReadFault}}
use Rattle.tte_forms.specs.declared.status.Status.TheVariants.{TooLong, WriteFault}

-- those of each command over a file: it is done, the file is too long, or the call is cut short
abbrev pub IsFileStatus : Status → Type 0
IsFileStatus Done = Unit {0}
IsFileStatus ReadFault = Unit {0}
IsFileStatus WriteFault = Unit {0}
IsFileStatus OutOfMemory = Unit {0}
IsFileStatus TooLong = Unit {0}
IsFileStatus other = ⊥

-- those of each command over a network file, which may be refused
abbrev pub IsNetworkStatus : Status → Type 0
IsNetworkStatus NetworkRefused = Unit {0}
IsNetworkStatus other = IsFileStatus other
