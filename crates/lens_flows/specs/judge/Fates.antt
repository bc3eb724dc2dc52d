-- What becomes of a flow in a cycle that its receiver's clock begins: delivery is owed, or why it is not.
use Rattle.std.specs.Prelude.{◌≡◌, ℕ, ◌<◌, ◌≤◌, false, List}
use Rattle.lens_flows.specs.declared.judge.fate.Fate.TheVariants as fates
use Rattle.{lens_flows.specs.declared.judge.fate.Fate.Fate, schedule_tables.specs.declared.entry.Entry.Entry}
use Rattle.{lens_flows.specs.declared.judge.flow.Flow.Flow, net_plan.specs.declared.ids.DeviceId.DeviceId}
use Rattle.{run_law.specs.device.States.state_after, sync_state.specs.declared.state.State.TheVariants.Synchronised}
use Rattle.run_law.specs.{law.Safety.{IsInStep, IsOwed, ReachesPlace}, scenario.Scenarios.{Scenario, is_broken}}
use Rattle.{run_law.specs.records.Happenings.{Happening, up_to}, schedule_tables.specs.Entries.{IsEntry, source_of}}
use Rattle.{schedule_tables.specs.Windows.OccursIn, tte_units.specs.Amount.amount}

-- the receiver's clock begins the cycle at the time, in the run, and the virtual link occurs in it
pub record IsBegun (s : Scenario) (hs : List Happening) (until : ℕ) (flow : Flow) (cycle from : ℕ) : Type 0 where
  pub occurs : OccursIn flow.of_vl cycle
  pub begins : ReachesPlace s hs flow.device cycle 0 from
  pub in_run : from ≤ until

-- behind that it comes to the end of the last window at this time, in the run
pub record Ends (s : Scenario) (hs : List Happening) (until : ℕ) (flow : Flow) (cycle from to : ℕ) : Type 0 where
  pub ends : ReachesPlace s hs flow.device cycle flow.last to
  pub in_order : from < to
  pub in_run : to ≤ until

-- the device is correct and synchronised from the one time to the other
abbrev pub StaysInStep : Scenario → List Happening → DeviceId → ℕ → ℕ → Type 0
StaysInStep s hs device from to = (t : ℕ) → from ≤ t → t ≤ to → IsInStep s hs device t

-- the device's clock reaches the place of the cycle at the time, where it is synchronised
pub record ReachesInStep (s : Scenario) (hs : List Happening) (device : DeviceId) (cycle place t : ℕ) : Type 0 where
  pub reaches : ReachesPlace s hs device cycle place t
  pub synchronised : state_after s (up_to t hs) device ≡ Synchronised

-- it did so before this time, for the place in the cycle
pub record HasComeInStep (s : Scenario) (hs : List Happening) (device : DeviceId) (cycle place before : ℕ)
    : Type 0 where
  pub time : ℕ
  pub early : time < before
  pub reaches : ReachesInStep s hs device cycle place time

-- where the row at the place is one of the virtual link that leaves the sender, so the sender's clock came to its
-- offset
abbrev pub IsRowSent : Scenario → List Happening → Flow → ℕ → ℕ → ℕ → Type 0
IsRowSent s hs flow cycle to place =
    (entry : Entry) → IsEntry s.network place entry → entry.row.vl ≡ flow.vl → source_of entry ≡ flow.of_vl.sender
    → HasComeInStep s hs flow.of_vl.sender cycle (amount entry.row.offset) to

-- up to this time the sender's clock came to each of its offsets, where it was synchronised, and it is correct then
pub record IsSent (s : Scenario) (hs : List Happening) (flow : Flow) (cycle to : ℕ) : Type 0 where
  pub rows : (place : ℕ) → IsRowSent s hs flow cycle to place
  pub correct : is_broken s flow.of_vl.sender to ≡ false

-- delivery is owed in the cycle that begins so
pub record IsOwedFrom (s : Scenario) (hs : List Happening) (until : ℕ) (flow : Flow) (cycle from : ℕ) : Type 0 where
  pub owed : IsOwed s hs until flow.vl flow.of_vl cycle flow.device
  pub begins : owed.from ≡ from

-- from the beginning until its clock comes to the end of the last window, or the run ends, the receiver is correct and
-- synchronised
abbrev pub IsReady : Scenario → List Happening → ℕ → Flow → ℕ → ℕ → Type 0
IsReady s hs until flow cycle from =
    (t : ℕ) → from ≤ t → t ≤ until → ((to : ℕ) → Ends s hs until flow cycle from to → t ≤ to)
    → IsInStep s hs flow.device t

-- what becomes of it: it is owed; or the receiver is not ready; or it is, but the run ends first; or it is ready and
-- comes to the end, and so it lies with the sender
abbrev pub HasFate : Scenario → List Happening → ℕ → Flow → ℕ → ℕ → Fate → Type 0
HasFate s hs until flow cycle from fates.Owed = IsOwedFrom s hs until flow cycle from
HasFate s hs until flow cycle from fates.Receiver = IsReady s hs until flow cycle from → ⊥
HasFate s hs until flow cycle from fates.End =
    IsReady s hs until flow cycle from × ((to : ℕ) → Ends s hs until flow cycle from to → ⊥)
HasFate s hs until flow cycle from fates.Sender =
    IsReady s hs until flow cycle from × ((to : ℕ) × Ends s hs until flow cycle from to)
    × (IsOwedFrom s hs until flow cycle from → ⊥)
