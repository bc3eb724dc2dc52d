-- What `draw` answers where a name is given.
use Rattle.std.specs.Prelude.{◌≡◌, ◌≤◌, ◌⊎◌, Bool, List, None, Option, Some, codes, length, ℕ}
use Rattle.lens.specs.{declared.{draw.subject.Subject.{Subject, TheVariants.{Frames, Lane}}, forms.RunPart.RunPart}, draw.Keeping.{AreFlags, AreLanes}}
use Rattle.{lens.specs.{Limit.report_limit, draw.{Answer.IsViewAnswer, Spans.span_of}}, lens_svg.specs.{Titles.title_of, Views.View, declared.layout.Span.Span}}
use Rattle.net_plan.specs.Bearers.{HasNoBearer, IsFirstBearer, device_names, vl_names}
use Rattle.net_plan.specs.declared.network.Network.{Network}
use Rattle.run_law.specs.{declared.note.Note.Note, records.Happenings.happenings}
use Rattle.tte_forms.specs.Answering.{Answer, line_answer}
use Rattle.tte_forms.specs.declared.status.Status.{Status, TheVariants.{NameRefused, OutOfMemory}}
use Rattle.{tte_forms.specs.networks.Accepting.MeansAccepted, tte_reports.specs.{Answer.IsAuditStatus, Reports.{IsReportAnswer, IsReportOf}}}
use Rattle.tte_units.specs.declared.units.Units.{Units}

-- no virtual link of the network has the name, and no device
abbrev pub IsUnknown : Network → List ℕ → Type 0
IsUnknown network name = HasNoBearer (vl_names network.vl) name × HasNoBearer (device_names network.device) name

-- the name is the virtual link's, or no virtual link's and the device's
abbrev pub Names : Network → List ℕ → Subject → Type 0
Names network name (Frames vl) = IsFirstBearer (vl_names network.vl) name vl.0
Names network name (Lane device) =
    HasNoBearer (vl_names network.vl) name × IsFirstBearer (device_names network.device) name device.0

-- the line of a name that is unknown
abbrev pub name_line : List ℕ
name_line = codes "refused name 1\n"

abbrev pub unknown_answer : Answer
unknown_answer = line_answer NameRefused name_line

-- of the span these records and lanes are drawn, under the title that the words make
abbrev pub view_of : List (List ℕ) → Span → List Bool → List Bool → View
view_of words span records lanes =
    record { span = span; kept = Some (record { records = records; lanes = lanes }); title = title_of words }

-- the answer for the records of a report: the picture of those in the part that are kept, in their lanes
pub record IsKeptAnswer (words : List (List ℕ)) (part : RunPart) (subject : Subject) (network : Network) (ns : List Note)
    (end : Units) (a : Answer) : Type 0 where
  pub records : List Bool
  pub lanes : List Bool
  pub are_kept : AreFlags network subject (happenings network ns) records
  pub are_lanes : AreLanes network (span_of network part) records ns lanes
  pub is : IsViewAnswer (view_of words (span_of network part) records lanes) network ns end a

-- the answer for an accepted network and the octets of a report, of which the name may be unknown
abbrev pub IsNamedAnswer : List (List ℕ) → RunPart → List ℕ → List ℕ → Network → Answer → Type 0
IsNamedAnswer words part name report network a =
    (IsUnknown network name × (a ≡ unknown_answer))
    ⊎ ((subject : Subject) × Names network name subject
    × IsReportAnswer report_limit (IsKeptAnswer words part subject) report network a)

-- the statuses of `draw` with a name
abbrev pub IsNamedStatus : Status → Type 0
IsNamedStatus NameRefused = Unit {0}
IsNamedStatus other = IsAuditStatus other

-- an unknown name is answered before anything is read of the second file
abbrev pub LeavesNamed : Network → List ℕ → Type 0 → Type 0
LeavesNamed network name Unread = IsUnknown network name → Unread

-- so it is for the network that the octets of a file mean, if it is accepted
abbrev pub LeavesUnnamed : List ℕ → Option (List ℕ) → Type 0 → Type 0
LeavesUnnamed name None Unread = Unit {0}
LeavesUnnamed name (Some octets) Unread =
    (network : Network) → MeansAccepted octets network → LeavesNamed network name Unread

-- an accepted network that has no such name is answered so, and the report of one that has, if it isn't too long, is
-- drawn to the end, unless memory ran out
pub record AnswersNamed (words : List (List ℕ)) (part : RunPart) (name octets report : List ℕ) (status : Status)
    : Type 0 where
  pub unknown : (network : Network) → MeansAccepted octets network → IsUnknown network name
      → (status ≡ OutOfMemory) ⊎ (status ≡ NameRefused)
  pub named : (network : Network) (subject : Subject) (ns : List Note) (end : Units) → MeansAccepted octets network
      → Names network name subject → length report ≤ report_limit → IsReportOf network report ns end
      → (status ≡ OutOfMemory) ⊎ ((a : Answer) × IsKeptAnswer words part subject network ns end a × (status ≡ a.status))

-- so it is, where the octets are told and no count of faults rose
abbrev pub CompletesNamed : List (List ℕ) → RunPart → List ℕ → Option (List ℕ) → Option (List ℕ) → Type 0 → Type 0 → Status
    → Type 0
CompletesNamed words part name (Some octets) (Some report) SourceRose SinkRose status =
    (SourceRose → ⊥) → (SinkRose → ⊥) → AnswersNamed words part name octets report status
CompletesNamed words part name first second SourceRose SinkRose status = Unit {0}
