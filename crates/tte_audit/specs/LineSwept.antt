-- What the next line of a report is to its sweep.
use Rattle.std.specs.{Borrow.Bor, Prelude.{◌++◌, ◌∷◌, ◌≡◌, Err, List, Ok, Result, [], ℕ}}
use Rattle.audit_sweep.specs.{Judging.Befalls, Sweeping.{IsSoundUpTo, IsSwept}, declared.sweep.Sweep.Sweep}
use Rattle.net_plan.specs.declared.{event.Event.Event, network.Network.Network}
use Rattle.run_law.specs.{declared.note.Note.Note, records.Happenings.{Happening, happening}}
use Rattle.tte_units.specs.declared.units.Units.{Units}
use Rattle.tte_audit.specs.{Report.{BeginsWithLine, IsNextLine}, declared.refusal.AuditRefusal.AuditRefusal}
use Rattle.tte_audit.specs.declared.refusal.AuditRefusal.TheVariants as refusals

-- the record was taken: it is sound given those before it
abbrev pub IsTaken : Network → Sweep → Sweep → Note → Type 0
IsTaken network old new note =
    (befallen : List Event) (end : Units) (hs : List Happening) → IsSwept network befallen end hs old
    → Befalls befallen note.time note.body
    → IsSwept network befallen end (hs ++ happening network hs note ∷ []) new

-- the record is not sound given those before it
abbrev pub IsUnsound : Network → Sweep → Note → Type 0
IsUnsound network old note =
    (befallen : List Event) (end : Units) (hs : List Happening) → IsSwept network befallen end hs old
    → Befalls befallen note.time note.body → IsSoundUpTo network befallen end hs note → ⊥

-- why the next record was not taken: it is unsound, it has no line, or memory ran out
abbrev pub IsLineRefused : Network → ℕ → Sweep → List ℕ → AuditRefusal → Type 0
IsLineRefused network number old octets (refusals.Unfounded n) =
    (n ≡ number) × (note : Note) × (left : List ℕ) × IsNextLine network number octets left note
    × IsUnsound network old note
IsLineRefused network number old octets (refusals.Form n) = (n ≡ number) × (BeginsWithLine network number octets → ⊥)
IsLineRefused network number old octets refusals.OutOfMemory = Unit {0}
IsLineRefused network number old octets other = ⊥

-- the record of the next line was taken and these octets are left, or it was refused by this
abbrev pub IsLineSwept : Network → ℕ → Sweep → Sweep → List ℕ → Result (Bor (List ℕ)) AuditRefusal → Type 0
IsLineSwept network number old new octets (Ok left) =
    (note : Note) × IsNextLine network number octets left.now note × IsTaken network old new note
IsLineSwept network number old new octets (Err refusal) = IsLineRefused network number old octets refusal
