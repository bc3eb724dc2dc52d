-- What is read of the events of a report.
use Rattle.std.specs.{Borrow.Bor, Prelude.{length, ℕ}}
use Rattle.std.specs.Prelude.{◌++◌, ◌+◌, ◌∷◌, ◌≡◌, ◌⊎◌, Err, IfOk, List, MatchOption, MatchResult, Ok, Result, []}
use Rattle.{audit_law.specs.events.Remembering.Remembers, net_plan.specs.declared.network.Network.Network}
use Rattle.{report_text.specs.Ranges.IsNoteOf, tte_audit.specs.{Answers.IsEventsFault, Following.Follows}}
use Rattle.{run_law.specs.declared.note.Note.Note, tte_units.specs.declared.units.Units.Units}
use Rattle.tte_audit.specs.Report.{AreEventsRight, BeginsWithLine, EndWith, IsEventFault, IsNextLine, IsOfEvents}
use Rattle.tte_audit.specs.Report.{events_of}
use Rattle.tte_audit.specs.declared.{passes.{ReportEvents.ReportEvents, RecordsTold.RecordsTold}, refusal.AuditRefusal.AuditRefusal}
use Rattle.tte_audit.specs.declared.refusal.AuditRefusal.TheVariants as refusals

-- the events of these records are right and were followed
pub record AreFollowed (network : Network) (notes : List Note) (told : RecordsTold) : Type 0 where
  pub right : AreEventsRight network notes
  pub follows : Follows network told.befallen.watch told.befallen.history told.befallen.count told.befallen.end
      (events_of notes)

-- these records were told, and either their events are right or this is the first record whose event is not
pub record AreTold (network : Network) (notes : List Note) (told : RecordsTold) : Type 0 where
  pub counted : told.records ≡ length notes
  pub judged : MatchOption told.fault (AreFollowed network notes told) (λ n. IsEventFault network notes n)

-- one record more was told
abbrev pub IsToldOf : {E : Type 0} → RecordsTold → RecordsTold → Note → Result (Unit {0}) E → Type 0
IsToldOf old new note result =
    (network : Network) (notes : List Note) → AreTold network notes old → IsNoteOf network note
    → IfOk result (λ _. AreTold network (notes ++ note ∷ []) new)

-- the next line was told and these octets are left, or it is that of no record of its number, or memory ran out
abbrev pub IsLineTold : Network → RecordsTold → RecordsTold → List ℕ → Result (Bor (List ℕ)) AuditRefusal → Type 0
IsLineTold network old new octets (Ok left) =
    (note : Note) × IsNextLine network (old.records + 1) octets left.now note
    × ((notes : List Note) → AreTold network notes old → AreTold network (notes ++ note ∷ []) new)
IsLineTold network old new octets (Err refusal) =
    (refusal ≡ refusals.OutOfMemory)
    ⊎ ((refusal ≡ refusals.Form (old.records + 1)) × (BeginsWithLine network (old.records + 1) octets → ⊥))

-- the end of these records, whose events are right, or the first whose event is not
abbrev pub EndsThem : Network → List Note → RecordsTold → Result Units AuditRefusal → Type 0
EndsThem network notes told result =
    MatchResult result (λ end. AreFollowed network notes told × EndWith (events_of notes) end)
    (λ refusal. (n : ℕ) × (refusal ≡ refusals.Events n) × IsEventsFault network notes n)

-- the report has so many records, its events end at this time, and the history is of them
pub record IsReadOf (network : Network) (octets : List ℕ) (notes : List Note) (read : ReportEvents) : Type 0 where
  pub of : IsOfEvents network octets notes read.end
  pub records : read.records ≡ length notes
  pub history : Remembers network (events_of notes) read.history
