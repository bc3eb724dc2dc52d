-- What a list of records shows of a device.
use Rattle.std.specs.{Int.int_div_euclid, List.{after_last, last_or}, Option.option_map_or}
use Rattle.std.specs.Prelude.{if◌then◌else◌, ◌&&◌, ◌+ℤ◌, ◌+◌, ◌-ℤ◌, ◌-◌, ◌<◌, ◌==◌, ◌^◌, ◌≡◌, ◌≤ℤ◌, ◌≤◌, Bool, List}
use Rattle.std.specs.Prelude.{None, Option, Some, [], false, filter, filter_map, fold, int_le, int_lt, neg_ℤ, pos, ℕ, ℤ}
use Rattle.{audit_devices.specs.declared.shown.Readings.Readings, run_law.specs.device.LocalClocks.changes_adjustment}
use Rattle.{net_plan.specs.declared.ids.DeviceId.DeviceId, sync_state.specs.membership.Hearing.Hearing}
use Rattle.{net_plan.specs.declared.network.Network.Network, run_law.specs.records.Happenings.{Happening, time_of}}
use Rattle.run_law.specs.control.Corrections.{correction_value, hearing_by, integration_cycle, recorded_cycle}
use Rattle.run_law.specs.{device.Standpoints.natural, records.Order.IsIn, scenario.Scenarios.Scenario}
use Rattle.run_law.specs.device.States.{adjustment_after, has_joined_at, is_joined_by, state_after}
use Rattle.sync_state.specs.{declared.state.State.State, membership.Summary.{Summarizes, Summary, silence}}

-- what is shown of a device: its state, its adjustment, the next correction point's cycle that the records leave, the
-- cycle of the frame that told it the time last, when its adjustment changed last, what its clock showed then, when a
-- frame told it the time last, and what was heard where so many correction points had come since
pub record Shown : Type 0 where
  pub state : State
  pub adjustment : ℤ
  pub cycle : ℕ
  pub integrated : Option ℕ
  pub changed : ℕ
  pub at_change : ℤ
  pub joined : Option ℕ
  pub heard : Summary
  pub come : ℕ

-- how many correction points a clock has come to that now shows `local`, by its adjustment from where it showed
-- `at_change`; the first is that of the cycle
abbrev pub points_from : Network → ℕ → ℤ → ℤ → ℕ
points_from network cycle at_change local =
    let first = correction_value network cycle in
    if int_lt at_change first && int_le first local
    then natural (int_div_euclid (local -ℤ first) network.cycle.0) + 1
    else 0

-- the same, by what is shown of a device whose clock reads this
abbrev pub points_by : Network → Shown → ℕ → ℕ
points_by network shown reading = points_from network shown.cycle shown.at_change (pos reading +ℤ shown.adjustment)

-- when the records changed the device's adjustment last, or 0
abbrev pub last_change : List Happening → DeviceId → ℕ
last_change hs device = option_map_or time_of (last_or None (filter (λ h. changes_adjustment device h.note.body) hs)) 0

-- when a frame told the device the time last
abbrev pub last_joining : List Happening → DeviceId → Option ℕ
last_joining hs device = fold (λ last h. if is_joined_by device h.note.body then Some (time_of h) else last) None hs

-- what the device has heard since its adjustment changed last, where so many correction points had come
abbrev pub heard_at : Scenario → List Happening → DeviceId → Shown → ℕ → List Hearing
heard_at s hs device shown points =
    filter_map (λ h. hearing_by s.network device h h.note.body)
    (filter (λ h. points == points_by s.network shown (s.reading device (time_of h - 1)))
    (after_last (λ h. changes_adjustment device h.note.body) hs))

-- none of the records is later
abbrev pub NoneLater : ℕ → List Happening → Type 0
NoneLater t hs = (h : Happening) → IsIn h hs → time_of h ≤ t

-- is it this time?
abbrev pub is_at : ℕ → Option ℕ → Bool
is_at t at = option_map_or (λ u. u == t) at false

-- this is what the records show of the device
pub record Shows (s : Scenario) (hs : List Happening) (device : DeviceId) (shown : Shown) : Type 0 where
  pub state : shown.state ≡ state_after s hs device
  pub adjustment : shown.adjustment ≡ (adjustment_after s hs device).0
  pub cycle : shown.cycle ≡ recorded_cycle hs device
  pub integrated : shown.integrated ≡ integration_cycle hs device
  pub changed : shown.changed ≡ last_change hs device
  pub at_change : shown.at_change ≡ (pos (s.reading device (last_change hs device)) +ℤ shown.adjustment)
  pub joined : shown.joined ≡ last_joining hs device
  pub joined_at : (t : ℕ) → NoneLater t hs → has_joined_at hs device t ≡ is_at t shown.joined
  pub heard : Summarizes shown.heard (heard_at s hs device shown shown.come)
  pub no_more : (points : ℕ) → shown.come < points → heard_at s hs device shown points ≡ []
  pub come : (t : ℕ) → NoneLater t hs → shown.come ≤ points_by s.network shown (s.reading device (t - 1))

-- what was heard since the last of so many correction points
abbrev pub heard_by_then : Shown → ℕ → Summary
heard_by_then shown points = if points == shown.come then shown.heard else silence

-- an adjustment, a cycle and a local value at a change that records can leave
pub record IsBounded (adjustment : ℤ) (cycle : ℕ) (at_change : ℤ) : Type 0 where
  pub least : neg_ℤ (pos (2 ^ 80)) ≤ℤ adjustment
  pub most : adjustment ≤ℤ pos (2 ^ 80)
  pub few : cycle ≤ 2 ^ 32
  pub at_least : neg_ℤ (pos (2 ^ 81)) ≤ℤ at_change
  pub at_most : at_change ≤ℤ pos (2 ^ 81)

-- the device's clock reads this at the time, and a unit of time before
pub record IsReading (s : Scenario) (device : DeviceId) (t : ℕ) (readings : Readings) : Type 0 where
  pub now : readings.now ≡ s.reading device t
  pub before : readings.before ≡ s.reading device (t - 1)

-- the clock begins at 0, and never goes back
pub record IsSteady (s : Scenario) (device : DeviceId) : Type 0 where
  pub begins : s.reading device 0 ≡ 0
  pub never_falls : (t u : ℕ) → t ≤ u → s.reading device t ≤ s.reading device u

-- the time is none before the records, and none of them changes the device's adjustment at it
pub record IsAfter (hs : List Happening) (device : DeviceId) (t : ℕ) : Type 0 where
  pub none_later : NoneLater t hs
  pub unchanged : (h : Happening) → IsIn h hs → time_of h ≡ t → changes_adjustment device h.note.body ≡ false
