-- The local clock of a device, as a world shows it.
use Rattle.std.specs.Prelude.{◌+ℤ◌, ◌+◌, ◌<ℤ◌, ◌<◌, ◌^◌, ◌∷◌, ◌≡◌, ◌≤ℤ◌, ◌≤◌, ◌⊎◌, Bool, List, MatchOption, None}
use Rattle.std.specs.Prelude.{Option, Some, [], false, length, neg_ℤ, pos, slice_get, true, ℕ, ℤ}
use Rattle.{drift_world.specs.Running.{StandsUnder, reading_of}, run_law.specs.law.Safety.{IsInStep, IsInStepBefore}}
use Rattle.{drift_world.specs.declared.state.State.State, sync_state.specs.correction.Deviation.IsSmall}
use Rattle.net_plan.specs.declared.{event.Event.Event, ids.DeviceId.DeviceId, network.Network.Network}
use Rattle.run_law.specs.{declared.note.Note.Note, machines.Nodes.Node, runs.DueRecords.IsRunOf}
use Rattle.run_law.specs.{device.LocalClocks.{local, local_before}, records.Happenings.{Happening, happenings}}
use Rattle.{run_law.specs.records.{Order.{IsBefore, IsIn}, Ranks.place_of}, tte_units.specs.declared.units.Units.Units}
use Rattle.{run_law.specs.scenario.Scenarios.Scenario, world_state.specs.{Keeping.{Meaning, keeps}, declared.kept.Kept.Kept}}
use Rattle.sync_state.specs.declared.state.State.{State as DeviceState, TheVariants.Synchronised}
use Rattle.{tte_units.specs.Amount.amount, world_law.specs.world.World.World}

-- the local clock of a device in this state with this reading and this adjustment, or None where it is broken or not
-- synchronised
abbrev pub local_shown : Bool → DeviceState → ℕ → Units → Option ℤ
local_shown false Synchronised reading adjustment = Some (pos reading +ℤ adjustment.0)
local_shown broken state reading adjustment = None

-- the clock of the device may be read at the time: that is no earlier than the last step of its rate, and at most 2^60
pub record MayRead {C M : Type 0} (last_step : C → ℕ) (network : Network) (state : State C M) (device : DeviceId)
    (t : Units) : Type 0 where
  pub there : device.0 < length network.device
  pub stepped : (clock : C) → slice_get state.clocks.items device.0 ≡ Some clock → pos (last_step clock) ≤ℤ t.0
  pub limit : t.0 ≤ℤ pos (2 ^ 60)

-- the state shows so much of the device's local clock at the time
pub record Shows {C M : Type 0} (reading : C → ℕ → ℕ) (stands : Meaning M) (state : State C M) (device : DeviceId)
    (t : ℕ) (shown : Option ℤ) : Type 0 where
  pub clock : C
  pub clock_is : slice_get state.clocks.items device.0 ≡ Some clock
  pub kept : Kept M
  pub kept_is : slice_get state.machines.items device.0 ≡ Some kept
  pub broken : Bool
  pub broken_is : slice_get state.broken.items device.0 ≡ Some broken
  pub is : (network : Network) (node : Node) → keeps stands kept network device node
      → shown ≡ local_shown broken node.standing.state (reading clock t) node.standing.adjustment

-- the world has come behind the time; or it is at the time still, and gave a record of it behind those of its events
abbrev pub HasCome : {C M : Type 0} → World C M → List Happening → ℕ → Type 0
HasCome world hs t =
    ((t < world.now) × (world.early ≡ true))
    ⊎ ((world.now ≡ t) × ((h : Happening) × IsIn h hs × IsBefore (t ∷ 2 ∷ []) (place_of h)))

-- the world stands for these events, of which none is later than the time, and for these records, which are all of the
-- run up to the time
pub record IsComplete {C M : Type 0} (fresh : ℕ → C) (after_step : C → ℕ → ℤ → C) (reading : C → ℕ → ℕ)
    (stands : Meaning M) (network : Network) (world : World C (Kept M)) (t : ℕ) (events : List Event)
    (notes : List Note) : Type 0 where
  pub is : StandsUnder fresh after_step reading stands network world events notes
  pub past : (e : Event) → IsIn e events → amount e.time ≤ t
  pub all : IsRunOf network (reading_of fresh after_step reading network events) events ((t + 1) ∷ []) notes
  pub come : HasCome world (happenings network notes) t

-- it does for some events and records
pub record MayShow {C M : Type 0} (fresh : ℕ → C) (after_step : C → ℕ → ℤ → C) (reading : C → ℕ → ℕ)
    (stands : Meaning M) (world : World C (Kept M)) (t : ℕ) : Type 0 where
  pub events : List Event
  pub notes : List Note
  pub is : IsComplete fresh after_step reading stands world.network world t events notes

-- it is the device's local clock at the time, or None where the device is not correct and synchronised
abbrev pub IsLocalClock : Scenario → List Happening → DeviceId → ℕ → Option ℤ → Type 0
IsLocalClock s hs device t shown =
    MatchOption shown (IsInStep s hs device t → ⊥) (λ l. IsInStep s hs device t × (l ≡ local s hs device t))

-- some events and records leave the world where it stands, and nothing of the present instant but events is worked off
pub record MayShowBefore {C M : Type 0} (fresh : ℕ → C) (after_step : C → ℕ → ℤ → C) (reading : C → ℕ → ℕ)
    (stands : Meaning M) (world : World C (Kept M)) : Type 0 where
  pub events : List Event
  pub notes : List Note
  pub is : StandsUnder fresh after_step reading stands world.network world events notes
  pub early : world.early ≡ true

-- it is the device's local clock when something comes at the time, after the events of this time and before its other
-- records, or None where the device is not correct and synchronised then
abbrev pub IsLocalClockBefore : Scenario → List Happening → DeviceId → ℕ → Option ℤ → Type 0
IsLocalClockBefore s hs device t shown =
    MatchOption shown (IsInStepBefore s hs device t → ⊥)
    (λ l. IsInStepBefore s hs device t × (l ≡ local_before s hs device t))

-- a time of a run: from 0 to 2^60
pub record IsRunTime (t : Units) : Type 0 where
  pub begun : pos 0 ≤ℤ t.0
  pub limit : t.0 ≤ℤ pos (2 ^ 60)

-- the clock of the device may be shown at the time: some events and records leave the world where it stands, and they
-- are all of the run up to the time; or this is the present time, and nothing of it but events is worked off
pub record MayShowAt {C M : Type 0} (fresh : ℕ → C) (after_step : C → ℕ → ℤ → C) (reading : C → ℕ → ℕ)
    (stands : Meaning M) (world : World C (Kept M)) (device : DeviceId) (t : Units) : Type 0 where
  pub there : device.0 < length world.network.device
  pub time : IsRunTime t
  pub may : MayShow fresh after_step reading stands world (amount t)
      ⊎ ((amount t ≡ world.now) × MayShowBefore fresh after_step reading stands world)

-- the adjustments of such machines lie strictly between -2^61 and 2^61
abbrev pub AreSmall : {M : Type 0} → Meaning M → Type 0
AreSmall {M} stands =
    (machine : M) (network : Network) (device : DeviceId) (node : Node) → stands machine network device node
    → IsSmall node.standing.adjustment.0

-- a local value that a clock shows in a run: it has fewer than 64 bits
pub record IsLocalValue (l : ℤ) : Type 0 where
  pub low : neg_ℤ (pos (2 ^ 62)) <ℤ l
  pub high : l <ℤ pos (2 ^ 62)

-- a sum of two numbers of 64 bits
pub record IsWide (l : ℤ) : Type 0 where
  pub low : neg_ℤ (pos (2 ^ 64)) ≤ℤ l
  pub high : l ≤ℤ pos (2 ^ 64)
