use Rattle.std.specs.Prelude.{ℕ}
use Rattle.tte_forms.specs.declared.status.Status.{Status}
use Rattle.tte_forms.specs.declared.status.Status.TheVariants.{AuditRefused, CaptureRefused, Done, FrameRefused}
use Rattle.tte_forms.specs.declared.status.Status.TheVariants.{GranuleRefused, MessagesRefused, NameRefused}
use Rattle.tte_forms.specs.declared.status.Status.TheVariants.{NetworkRefused, NumberRefused, OutOfMemory}
use Rattle.tte_forms.specs.declared.status.Status.TheVariants.{OutsideHypothesis, PlanRefused, ReadFault, TooLong}
use Rattle.tte_forms.specs.declared.status.Status.TheVariants.{TraceRefused, Usage, VoteRefused, WriteFault}

-- the exit status
abbrev pub status_number : Status → ℕ
status_number Done = 0
status_number Usage = 1
status_number FrameRefused = 2
status_number NetworkRefused = 3
status_number TraceRefused = 4
status_number OutsideHypothesis = 5
status_number ReadFault = 6
status_number WriteFault = 7
status_number OutOfMemory = 8
status_number TooLong = 9
status_number GranuleRefused = 10
status_number AuditRefused = 11
status_number CaptureRefused = 12
status_number NameRefused = 13
status_number VoteRefused = 14
status_number NumberRefused = 15
status_number MessagesRefused = 16
status_number PlanRefused = 17
