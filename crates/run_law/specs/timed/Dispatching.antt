-- What a synchronised device dispatches.
use Rattle.std.specs.{List.last_or, Prelude.{true, ℕ}}
use Rattle.std.specs.Prelude.{◌&&◌, ◌*◌, ◌+◌, ◌==◌, ◌≡◌, ◌≤◌, ◌⊎◌, Bool, List, None, Option, Some, false, filter, pos}
use Rattle.{net_plan.specs.Places.is_master, run_law.specs.device.{LocalClocks.Reaches, States.state_before}}
use Rattle.{net_plan.specs.declared.ids.{DeviceId.DeviceId, VlId.VlId}, run_law.specs.declared.note.NoteBody.NoteBody}
use Rattle.{net_plan.specs.declared.ids.LinkId.LinkId, sync_state.specs.declared.state.State.TheVariants.Synchronised}
use Rattle.{net_plan.specs.declared.network.Network.Network, run_law.specs.scenario.Devices.{has_role, is_end}}
use Rattle.run_law.specs.{records.Happenings.{Happening, earlier}, scenario.Scenarios.{Scenario, is_broken}}
use Rattle.schedule_tables.specs.{Entries.{IsEntry, source_of}, Windows.OccursIn, declared.entry.Entry.Entry}
use Rattle.tte_units.specs.Amount.{amount}
use Rattle.run_law.specs.declared.note.NoteBody.TheVariants as notes

-- the device is synchronised and correct at the time
pub record IsUp (s : Scenario) (hs : List Happening) (device : DeviceId) (t : ℕ) : Type 0 where
  pub synchronised : state_before s hs device t ≡ Synchronised
  pub correct : is_broken s device t ≡ false

-- a master sends the control frame of a cycle: its clock reaches the beginning of the cycle, which is not the
-- silent one
pub record Sends (s : Scenario) (hs : List Happening) (device : DeviceId) (t : ℕ) (cycle : ℕ) : Type 0 where
  pub master : has_role s.network is_master device ≡ true
  pub up : IsUp s hs device t
  pub begun : 1 ≤ cycle
  pub reached : Reaches s hs device (pos (cycle * amount s.network.cycle)) t

-- does the record say that the switch took a frame of the virtual link?
abbrev pub is_accepted : DeviceId → VlId → NoteBody → Bool
is_accepted device vl (notes.Accepted other link cause of_vl cycle) = device.0 == other.0 && vl.0 == of_vl.0
is_accepted device vl other = false

-- the last frame of the virtual link that the switch took before the time
abbrev pub last_accepted : List Happening → DeviceId → VlId → ℕ → Option Happening
last_accepted hs device vl t = last_or None (filter (λ h. is_accepted device vl h.note.body) (earlier t hs))

-- a switch has the virtual link's frame of the cycle: the last one that it took, in this cycle of its own
pub record HasAccepted (hs : List Happening) (device : DeviceId) (vl : VlId) (t cause cycle : ℕ) : Type 0 where
  pub taken : Happening
  pub last : last_accepted hs device vl t ≡ Some taken
  pub number : cause ≡ taken.note.number
  pub link : LinkId
  pub from : ℕ
  pub is : taken.note.body ≡ notes.Accepted device link from vl cycle

-- the device has the virtual link's frame of the cycle at hand: as the sender, with cause 0, or as a switch that
-- took it, with that record as its cause
abbrev pub HasAtHand : Network → List Happening → DeviceId → Entry → ℕ → ℕ → ℕ → Type 0
HasAtHand network hs device entry t cause cycle =
    ((entry.vl.sender ≡ device) × (cause ≡ 0))
    ⊎ ((is_end network device ≡ false) × HasAccepted hs device entry.row.vl t cause cycle)

-- the device dispatches a row's frame of the cycle on the link: the row leaves it, the virtual link occurs in the
-- cycle, its clock reaches the row's offset, and it has the frame at hand
pub record Dispatches (s : Scenario) (hs : List Happening) (device : DeviceId) (t : ℕ) (link : LinkId) (cause : ℕ)
    (vl : VlId) (cycle : ℕ) : Type 0 where
  pub place : ℕ
  pub entry : Entry
  pub row : IsEntry s.network place entry
  pub by : entry.row.link ≡ link
  pub of_vl : entry.row.vl ≡ vl
  pub leaves : source_of entry ≡ device
  pub occurs : OccursIn entry.vl cycle
  pub up : IsUp s hs device t
  pub reached : Reaches s hs device (pos (cycle * amount s.network.cycle + amount entry.row.offset)) t
  pub at_hand : HasAtHand s.network hs device entry t cause cycle
