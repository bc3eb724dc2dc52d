-- An observer of a run under a trace that puts certain lines, which each answer of its command begins with.
use Rattle.std.specs.Prelude.{◌++◌, ◌∷◌, ◌≡◌, List, None, Option, Some, [], length, ℕ}
use Rattle.net_plan.specs.declared.{event.Event.Event, network.Network.Network}
use Rattle.run_law.specs.declared.note.Note.{Note}
use Rattle.tte_forms.specs.{Answering.Answer, Putting.PutsLines}
use Rattle.world_drive.specs.{Driving.IsUpToEnd, Seeing.HasBefallen, declared.observing.Cut.Cut}
use Rattle.world_drive.specs.{Observing.{Sees, Stops, Told}, exact.Records.{AreAllRecords, AreRecordsSoFar, HaveEnded}}
use Rattle.tte_traces.specs.{Answer.LinesOf, Lines.{AreAdmitted, behind_lines}, Report.{StopsLines, shown_as}}

-- the trace is admitted to its end
pub record IsAllAdmitted (network : Network) (octets : List ℕ) (events : List Event) : Type 0 where
  pub admitted : AreAdmitted network octets events
  pub ended : HaveEnded events
  pub none_left : behind_lines (length events) octets ≡ []

-- the lines begin with these
abbrev pub BeginWith : List (List ℕ) → List (List ℕ) → Type 0
BeginWith lines front = (rest : List (List ℕ)) × (lines ≡ front ++ rest)

-- each answer begins with the lines
abbrev pub IsFrontOf : (Answer → Type 0) → List (List ℕ) → Type 0
IsFrontOf Is lines = (a : Answer) → Is a → BeginWith a.lines lines

-- a drive under a trace was cut short at these events and records: on the way to the next event, or up to its record;
-- or behind the last event, on the way to the end
abbrev pub IsShortAt : Network → List ℕ → List Event → Option Event → List Event → List Note → Type 0
IsShortAt network octets events (Some event) befallen notes =
    AreAdmitted network octets (events ++ event ∷ []) × HasBefallen network events event befallen notes
IsShortAt network octets events None befallen notes =
    IsAllAdmitted network octets events × (befallen ≡ events) × IsUpToEnd network events notes

-- by the record of each event the observer, which was this one at first, has put the lines of the run so far, and by
-- the end those of the whole run; and what it has put where it is cut short is a front of each answer
pub record PutsAlong {O : Type 0} (begun : O) (see : Sees O) (stop : Stops O) (lines : LinesOf)
    (Is : List ℕ → Network → Answer → Type 0) : Type 0 where
  pub at_first : (network : Network) → lines network [] [] ≡ []
  pub so_far : (network : Network) (events : List Event) (notes : List Note) (old put : Told) (o : O)
      → AreRecordsSoFar network events notes
      → see network events notes None (record { told = old; observer = begun }) put o
      → PutsLines (lines network events notes) (shown_as old) (shown_as put)
  pub all : (network : Network) (octets : List ℕ) (events : List Event) (notes : List Note) (old put : Told) (o : O)
      → AreAdmitted network octets events → AreAllRecords network events notes
      → see network events notes None (record { told = old; observer = begun }) put o
      → PutsLines (lines network events notes) (shown_as old) (shown_as put)
  pub front : (network : Network) (octets : List ℕ) (events : List Event) (notes : List Note)
      → AreAdmitted network octets events → AreRecordsSoFar network events notes
      → IsFrontOf (Is octets network) (lines network events notes)
  pub short : (network : Network) (octets : List ℕ) (events : List Event) (next : Option Event) (befallen : List Event)
      (notes : List Note) (cut : Cut) (old put : Told) → IsShortAt network octets events next befallen notes
      → stop network befallen notes cut (record { told = old; observer = begun }) put
      → (ls : List (List ℕ)) × StopsLines ls cut old put × IsFrontOf (Is octets network) ls
