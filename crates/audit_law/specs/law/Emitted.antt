-- What is owed of clusters: the compression master sends the frame of each.
use Rattle.std.specs.Prelude.{◌≡◌, ◌≤◌, List, filter, ℕ}
use Rattle.{audit_law.specs.law.DueRecords.IsDue, run_law.specs.{control.Emissions.Emits, scenario.Scenarios.Scenario}}
use Rattle.{compression.specs.declared.compressed.Compressed.Compressed, net_plan.specs.declared.ids.DeviceId.DeviceId}
use Rattle.run_law.specs.declared.{judgement.Judgement.{Judgement, TheVariants.Ignored}, note.NoteBody.NoteBody}
use Rattle.run_law.specs.records.{Happenings.{Happening, time_of}, Order.is_before, Ranks.{place_at, place_of}}
use Rattle.run_law.specs.declared.note.NoteBody.TheVariants as notes

-- the record of what a compression master sends
abbrev pub emission_record : DeviceId → Compressed → Judgement → NoteBody
emission_record device sent verdict = notes.Compressed device sent.opened sent.at sent.cycle sent.members verdict

-- the place of an emission, which all judgements share
abbrev pub emission_place : ℕ → DeviceId → Compressed → List ℕ
emission_place time device sent = place_at time 0 (emission_record device sent Ignored)

-- the records before a place
abbrev pub before_place : List Happening → List ℕ → List Happening
before_place hs place = filter (λ h. is_before (place_of h) place) hs

-- the record is due by an emission
pub record IsDueByEmission (s : Scenario) (before : List Happening) (x : Happening) : Type 0 where
  pub due : IsDue s before x
  pub device : DeviceId
  pub sent : Compressed
  pub verdict : Judgement
  pub emits : Emits s before device (time_of x) sent verdict
  pub says : x.note.body ≡ emission_record device sent verdict

-- by the time, given the records before its place, the compression master sends this
pub record OwesEmission (s : Scenario) (hs : List Happening) (until : ℕ) (device : DeviceId) (sent : Compressed)
    : Type 0 where
  pub time : ℕ
  pub verdict : Judgement
  pub emits : Emits s (before_place hs (emission_place time device sent)) device time sent verdict
  pub timely : time ≤ until

-- the record says that the compression master sent this
abbrev pub TellsEmission : DeviceId → Compressed → NoteBody → Type 0
TellsEmission device sent (notes.Compressed other opened at cycle members verdict) =
    (other ≡ device) × (opened ≡ sent.opened) × (at ≡ sent.at) × (cycle ≡ sent.cycle) × (members ≡ sent.members)
TellsEmission device sent other = ⊥
