-- The report of a run, as it is put line by line.
use Rattle.std.specs.Prelude.{List, None, ℕ}
use Rattle.{net_plan.specs.declared.network.Network.Network, tte_forms.specs.Putting.{PutsLines, Shown, StopsWriting}}
use Rattle.{report_text.specs.NoteLine.report_of, run_law.specs.declared.note.Note.Note}
use Rattle.world_drive.specs.{Observing.Told, declared.observing.Cut.{Cut, TheVariants.{OutOfMemory, WriteFault}}}

-- what is told of a sink, as it shows it; what it passed on is left out
abbrev pub shown_as : Told → Shown
shown_as told = record { written = told.written; passed = None; puts = told.puts }

-- the lines were put until writing failed, or memory ran out
abbrev pub StopsLines : List (List ℕ) → Cut → Told → Told → Type 0
StopsLines lines WriteFault old put = StopsWriting lines (shown_as old) (shown_as put)
StopsLines lines OutOfMemory old put = PutsLines lines (shown_as old) (shown_as put)

-- the lines of the records were put
abbrev pub PutsReport : Network → List Note → Told → Told → Type 0
PutsReport network notes old put = PutsLines (report_of network notes) (shown_as old) (shown_as put)

-- they were put until writing failed, or memory ran out
abbrev pub StopsReport : Network → List Note → Cut → Told → Told → Type 0
StopsReport network notes cut old put = StopsLines (report_of network notes) cut old put
