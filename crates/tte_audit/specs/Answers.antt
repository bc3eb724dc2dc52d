-- What an audit answers.
use Rattle.std.specs.Prelude.{◌≡◌, ◌⊎◌, List, [], length, ℕ}
use Rattle.audit_law.specs.{events.Readings.clock_reading, law.{DueRecords.IsDue, Findings.{AreSound, IsUnfoundedAt}}}
use Rattle.{audit_law.specs.law.DebtLaws.IsFirstLack, tte_units.specs.Amount.{amount, units_of}}
use Rattle.{net_plan.specs.declared.network.Network.Network, tte_audit.specs.declared.refusal.AuditRefusal.AuditRefusal}
use Rattle.{run_law.specs.{declared.note.Note.Note, runs.DueRecords.IsRunOf}, tte_audit.specs.Report.scenario_of}
use Rattle.{run_law.specs.records.{Happenings.happenings, Ranks.place_of}, tte_units.specs.declared.units.Units.Units}
use Rattle.tte_audit.specs.Report.{BeginsWith, IsEndless, IsEventFault, IsFormFault, IsOfEvents, behind_time, events_of}
use Rattle.tte_audit.specs.declared.refusal.AuditRefusal.TheVariants as refusals

-- the octets are the report of the run under the events of its own records, which are within the hypothesis and end
-- with the only end; it has so many records
pub record IsAudited (network : Network) (octets : List ℕ) (count : ℕ) : Type 0 where
  pub notes : List Note
  pub time : Units
  pub events : IsOfEvents network octets notes time
  pub run : IsRunOf network (clock_reading network (events_of notes)) (events_of notes) (behind_time time) notes
  pub counted : count ≡ length notes

-- the records are all sound
abbrev pub AreSoundNotes : Network → List Note → Units → Type 0
AreSoundNotes network ns time =
    AreSound place_of (IsDue (scenario_of network ns)) (behind_time time) (happenings network ns)

-- at this time, the first such, a record is due up to the end that is not there
pub record IsFirstLackOf (network : Network) (ns : List Note) (end : Units) (time : Units) : Type 0 where
  pub at : ℕ
  pub lack : IsFirstLack (scenario_of network ns) (happenings network ns) (amount end) at
  pub is : time ≡ units_of at

-- the events of these records are not right, from the record of this number on
abbrev pub IsEventsFault : Network → List Note → ℕ → Type 0
IsEventsFault network ns n = IsEventFault network ns n ⊎ IsEndless network ns n

-- the octets are refused by this, the first in this order: the form of a line, the events, a record that is not due,
-- a record that is not there
abbrev pub IsRefusedBy : Network → List ℕ → AuditRefusal → Type 0
IsRefusedBy network octets (refusals.Form n) = IsFormFault network octets n
IsRefusedBy network octets (refusals.Events n) = (ns : List Note) × BeginsWith network octets ns []
    × IsEventsFault network ns n
IsRefusedBy network octets (refusals.Unfounded n) =
    (ns : List Note) × (time : Units) × IsOfEvents network octets ns time
    × IsUnfoundedAt place_of (IsDue (scenario_of network ns)) (behind_time time) (happenings network ns) n
IsRefusedBy network octets (refusals.Lacking t) =
    (ns : List Note) × (time : Units) × IsOfEvents network octets ns time × AreSoundNotes network ns time
    × IsFirstLackOf network ns time t
IsRefusedBy network octets refusals.OutOfMemory = Unit {0}

-- a refusal of the form of a line, or of an event
abbrev pub IsOfFormOrEvents : AuditRefusal → Type 0
IsOfFormOrEvents (refusals.Form n) = Unit {0}
IsOfFormOrEvents (refusals.Events n) = Unit {0}
IsOfFormOrEvents other = ⊥

-- a refusal that no judgement of the other records gives
abbrev pub IsBeforeRecords : AuditRefusal → Type 0
IsBeforeRecords (refusals.Unfounded n) = ⊥
IsBeforeRecords (refusals.Lacking t) = ⊥
IsBeforeRecords other = Unit {0}
