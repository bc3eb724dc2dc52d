-- What an agenda holds.
use Rattle.std.specs.Prelude.{◌+ℤ◌, ◌+◌, ◌-ℤ◌, ◌<ℤ◌, ◌^◌, ◌≡◌, ◌≤ℤ◌, ◌⊎◌, IfSome, IsSomeAnd, List, None, Option, Some}
use Rattle.std.specs.Prelude.{[], neg_ℤ, pos, true, ℕ, ℤ}
use Rattle.end_system.specs.{Deeds.{IsNextCorrection, IsNextDispatch, IsNextSending, Leaves}, declared.rows.OwnRows.OwnRows}
use Rattle.{end_system.specs.Owns.IsOwnOf, net_plan.specs.Places.is_master}
use Rattle.{end_system.specs.{RowSlots.AreRowsOf, declared.own.Own.Own}, run_law.specs.machines.Tasks.value_of}
use Rattle.end_system.specs.declared.{agenda.{Agenda.Agenda, Appointment.Appointment, Due.Due}, rows.Dispatch.Dispatch}
use Rattle.{net_plan.specs.declared.ids.{DeviceId.DeviceId, RowId.RowId}, tte_units.specs.declared.units.Units.Units}
use Rattle.{net_plan.specs.declared.network.Network.Network, sync_state.specs.Standing.{Standing, next_point}}
use Rattle.run_law.specs.{machines.Nodes.{ClockTask, correcting, dispatching, sending}, scenario.Devices.has_role}
use Rattle.sync_state.specs.declared.answers.Verdict.TheVariants.{AsyncClique, Cleared, Corrected, SyncClique}
use Rattle.sync_state.specs.declared.{answers.Verdict.Verdict, state.State.TheVariants.Synchronised}
use Rattle.end_system.specs.declared.agenda.Due.TheVariants as dues

-- the reading at which the deed is done
abbrev pub IsAt : Network → Standing → ClockTask → Units → Type 0
IsAt network s deed at = at.0 ≡ (value_of network deed -ℤ s.adjustment.0)

-- the next sending, of a synchronised master
abbrev pub IsSending : Network → DeviceId → Standing → ℤ → List ClockTask → Option Appointment → Type 0
IsSending network device s changed done None = has_role network is_master device ≡ true → s.state ≡ Synchronised → ⊥
IsSending network device s changed done (Some next) =
    (has_role network is_master device ≡ true) × (s.state ≡ Synchronised)
    × IsNextSending network changed done next.cycle × IsAt network s (sending next.cycle) next.at

-- the next correction point, unless the clock was set beyond it
abbrev pub IsCorrection : Network → Standing → ℤ → List ClockTask → Option Appointment → Type 0
IsCorrection network s changed done None = (cycle : ℕ) → next_point s ≡ Some cycle
    → value_of network (correcting cycle) ≤ℤ changed
IsCorrection network s changed done (Some next) = IsNextCorrection network s changed done next.cycle
    × IsAt network s (correcting next.cycle) next.at

-- the next dispatch, of a synchronised device with rows
abbrev pub IsDispatch : Network → DeviceId → Standing → ℤ → List ClockTask → Option Dispatch → Type 0
IsDispatch network device s changed done None = s.state ≡ Synchronised → (row : RowId) (cycle : ℕ)
    → Leaves network device row cycle → ⊥
IsDispatch network device s changed done (Some next) =
    (s.state ≡ Synchronised) × IsNextDispatch network device changed done next.slot.place.row next.cycle
    × IsAt network s (dispatching next.slot.place.row next.cycle) next.at

-- it holds what an end system does next by itself
pub record IsAgenda (network : Network) (device : DeviceId) (s : Standing) (changed : ℤ) (done : List ClockTask)
    (agenda : Agenda) : Type 0 where
  pub sending : IsSending network device s changed done agenda.sending
  pub correction : IsCorrection network s changed done agenda.correction
  pub dispatch : IsDispatch network device s changed done agenda.dispatch

-- ---- the readings of an agenda

-- something is at this reading
abbrev pub HasReading : Agenda → Units → Type 0
HasReading agenda at =
    IsSomeAnd agenda.sending (λ next. next.at ≡ at)
    ⊎ (IsSomeAnd agenda.correction (λ next. next.at ≡ at) ⊎ IsSomeAnd agenda.dispatch (λ next. next.at ≡ at))

-- this is the least reading of the agenda, or it is empty
abbrev pub IsLeastReading : Agenda → Option Units → Type 0
IsLeastReading agenda None = (agenda.sending ≡ None) × (agenda.correction ≡ None) × (agenda.dispatch ≡ None)
IsLeastReading agenda (Some at) =
    HasReading agenda at
    × IfSome agenda.sending (λ next. at.0 ≤ℤ next.at.0)
    × IfSome agenda.correction (λ next. at.0 ≤ℤ next.at.0)
    × IfSome agenda.dispatch (λ next. at.0 ≤ℤ next.at.0)

-- this is the first kind of which something is due at the reading, if one is
abbrev pub IsFirstDue : Agenda → ℤ → Option Due → Type 0
IsFirstDue agenda reading None =
    IfSome agenda.sending (λ next. reading <ℤ next.at.0) × IfSome agenda.correction (λ next. reading <ℤ next.at.0)
    × IfSome agenda.dispatch (λ next. reading <ℤ next.at.0)
IsFirstDue agenda reading (Some (dues.Sending is)) = (agenda.sending ≡ Some is) × (is.at.0 ≤ℤ reading)
IsFirstDue agenda reading (Some (dues.Correction is)) =
    IfSome agenda.sending (λ next. reading <ℤ next.at.0) × (agenda.correction ≡ Some is) × (is.at.0 ≤ℤ reading)
IsFirstDue agenda reading (Some (dues.Dispatch is)) =
    IfSome agenda.sending (λ next. reading <ℤ next.at.0) × IfSome agenda.correction (λ next. reading <ℤ next.at.0)
    × (agenda.dispatch ≡ Some is) × (is.at.0 ≤ℤ reading)

-- the lesser of two readings that may be there
abbrev pub IsEarlier : Option Units → Option Units → Option Units → Type 0
IsEarlier None b result = result ≡ b
IsEarlier (Some a) None result = result ≡ Some a
IsEarlier (Some a) (Some b) result = ((b.0 <ℤ a.0) × (result ≡ Some b)) ⊎ ((a.0 ≤ℤ b.0) × (result ≡ Some a))

-- a local value that a device's clock shows at some time
pub record IsLocal (local : Units) : Type 0 where
  pub low : neg_ℤ (pos (2 ^ 62)) <ℤ local.0
  pub high : local.0 <ℤ pos (2 ^ 62)

-- ---- after a correction point

-- nothing is on the agenda
pub record IsEmpty (agenda : Agenda) : Type 0 where
  pub sending : agenda.sending ≡ None
  pub correction : agenda.correction ≡ None
  pub dispatch : agenda.dispatch ≡ None

-- the appointment is the same as the other in the cycle after it
pub record IsInNextCycle (length : Units) (old new : Appointment) : Type 0 where
  pub cycle : new.cycle ≡ old.cycle + 1
  pub at : new.at.0 ≡ (old.at.0 +ℤ length.0)

-- only the next correction point is on the agenda
pub record IsOnlyCorrection (length : Units) (old : Appointment) (agenda : Agenda) : Type 0 where
  pub sending : agenda.sending ≡ None
  pub correction : IsSomeAnd agenda.correction (IsInNextCycle length old)
  pub dispatch : agenda.dispatch ≡ None

-- the agenda after a correction point that came to this, where the synchronisation stands so then and the local clock
-- shows this
abbrev pub IsAgendaAfter : Own → OwnRows → Standing → ℤ → Appointment → Verdict → Agenda → Type 0
IsAgendaAfter own rows s local old (Corrected by) agenda = (network : Network) (device : DeviceId)
    → IsOwnOf network device own → AreRowsOf network device rows → IsAgenda network device s local [] agenda
IsAgendaAfter own rows s local old SyncClique agenda = IsEmpty agenda
IsAgendaAfter own rows s local old AsyncClique agenda = IsEmpty agenda
IsAgendaAfter own rows s local old Cleared agenda = IsOnlyCorrection own.plan.cycle_length old agenda
