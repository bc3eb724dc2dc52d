-- How much of a trace was taken, and what was written by then.
use Rattle.std.specs.{Io.KnownBytes.Appends, Prelude.{◌++◌, ◌≡◌, List, None, Option, Some, length, ℕ}}
use Rattle.{net_plan.specs.declared.event.Event.Event, run_law.specs.declared.note.Note.Note}
use Rattle.{net_plan.specs.declared.network.Network.Network, world_drive.specs.exact.Records.AreRecordsSoFar}
use Rattle.{tte_io.specs.Line.IsUnbroken, tte_traces.specs.Following.TakesFew}
use Rattle.tte_forms.specs.{Putting.{IsPassedOn, PutsLines, Shown}, networks.Accepting.ForAccepted}
use Rattle.tte_traces.specs.{Answer.{LinesOf, report_lines}, Lines.{AreAdmitted, StandWhole, behind_lines}}

-- the fact holds for the octets of a trace and for those that were left of it, where the source tells them
abbrev pub ForTrace : Option (List ℕ) → Option (List ℕ) → (List ℕ → List ℕ → Type 0) → Type 0
ForTrace None after P = Unit {0}
ForTrace (Some octets) None P = ⊥
ForTrace (Some octets) (Some left) P = P octets left

-- what was written grew
abbrev pub WritesSome : Shown → Shown → Type 0
WritesSome old new = (octets : List ℕ) × Appends old.written new.written octets

-- the lines of the run so far under the first events were put, and perhaps more; and behind the trace's lines of these
-- events and the next one no more octets were taken than are read ahead
pub record TakesLittle (lines : LinesOf) (network : Network) (octets left : List ℕ) (old new : Shown) : Type 0 where
  pub events : List Event
  pub admitted : AreAdmitted network octets events
  pub notes : List Note
  pub records : AreRecordsSoFar network events notes
  pub between : Shown
  pub puts : PutsLines (lines network events notes) old between
  pub more : WritesSome between new
  pub few : TakesFew octets (length events) left

-- the octets taken are the trace's lines of the first events, each with its LF, and then a part of a line; and what was
-- put are the lines of the run up to the record of the last of these events
pub record StopsBehindLines (lines : LinesOf) (network : Network) (octets left : List ℕ) (old new : Shown) : Type
    0 where
  pub events : List Event
  pub admitted : AreAdmitted network octets events
  pub part : List ℕ
  pub unbroken : IsUnbroken part
  pub taken : behind_lines (length events) octets ≡ part ++ left
  pub whole : StandWhole (length events) octets
  pub notes : List Note
  pub records : AreRecordsSoFar network events notes
  pub puts : PutsLines (lines network events notes) old new

-- a read of the trace of an accepted network failed: all that was put was passed on, and it stops behind the lines that
-- were taken
abbrev pub StopsReading : LinesOf → Option (List ℕ) → Option (List ℕ) → Option (List ℕ) → Shown → Shown → Type 0
StopsReading lines first second left old new =
    IsPassedOn new × ForAccepted first (λ network. ForTrace second left (λ octets rest.
    StopsBehindLines lines network octets rest old new))

-- little was taken of the trace of an accepted network
abbrev pub ReadsLittle : LinesOf → Option (List ℕ) → Option (List ℕ) → Option (List ℕ) → Shown → Shown → Type 0
ReadsLittle lines first second left old new =
    ForAccepted first (λ network. ForTrace second left (λ octets rest. TakesLittle lines network octets rest old new))

-- the same of `run`
abbrev pub RunStops : Option (List ℕ) → Option (List ℕ) → Option (List ℕ) → Shown → Shown → Type 0
RunStops first second left old new = StopsReading report_lines first second left old new

abbrev pub RunTakesLittle : Option (List ℕ) → Option (List ℕ) → Option (List ℕ) → Shown → Shown → Type 0
RunTakesLittle first second left old new = ReadsLittle report_lines first second left old new
