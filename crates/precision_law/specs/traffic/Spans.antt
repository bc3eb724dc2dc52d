-- The span of a cycle: from behind its last correction to the first of the next cycle.
use Rattle.std.specs.Prelude.{◌*◌, ◌+ℤ◌, ◌+◌, ◌≡◌, ◌≤ℤ◌, ◌≤◌, pos, ℕ, ℤ}
use Rattle.{net_plan.specs.declared.ids.DeviceId.DeviceId, precision_law.specs.Views.{IsGood, IsView, View}}
use Rattle.precision_law.specs.Blocks.{IsInBlock, IsOldAt, Stands, adjustment_left, state_left}
use Rattle.precision_law.specs.{Hulls.first_correction, Standings.ShowsIn, traffic.Rows.IsInSchedule}
use Rattle.{run_law.specs.device.LocalClocks.Reaches, sync_state.specs.declared.state.State.TheVariants.Synchronised}

-- the time lies in the span of cycle n
pub record IsInSpan (v : View) (n t : ℕ) : Type 0 where
  pub block : IsInBlock v n t
  pub early : pos t ≤ℤ (first_correction v.sizes block.before.hull +ℤ pos v.sizes.reach)

-- a device that the records before t leave synchronised, and that is good
pub record IsTimedAt (v : View) (device : DeviceId) (t : ℕ) : Type 0 where
  pub good : IsGood v device
  pub synchronised : state_left v device t ≡ Synchronised

-- what the device's clock shows when something comes at t
abbrev pub shown_at : View → DeviceId → ℕ → ℤ
shown_at v device t = pos (v.scenario.reading device t) +ℤ adjustment_left v device t

-- in the span of a cycle the device's clock was set before the span, and shows what one does that was set in the
-- cycle's hull
pub record KeepsTime (v : View) (n t : ℕ) (block : IsInBlock v n t) (device : DeviceId) : Type 0 where
  pub old : IsOldAt v block.before.next device t
  pub shows : ShowsIn v.sizes (shown_at v device t) n block.before.hull t

-- each good synchronised device does
abbrev pub SynchronisedKeepTime : Type 0
SynchronisedKeepTime =
    (v : View) (n t : ℕ) (span : IsInSpan v n t) (device : DeviceId) → IsView v → IsTimedAt v device t
    → KeepsTime v n t span.block device

-- the clock reaches a value of the schedule of cycle n in the cycle's span, so far from the hull
pub record IsReachedInSpan (v : View) (n value t : ℕ) : Type 0 where
  pub span : IsInSpan v n t
  pub not_early : (span.block.before.hull.least +ℤ pos value) ≤ℤ (pos t +ℤ pos v.sizes.reach)
  pub not_late : pos t ≤ℤ ((span.block.before.hull.greatest +ℤ pos value) +ℤ pos v.sizes.reach)

-- the clock of a good synchronised device reaches each value of the schedule so
abbrev pub ValuesAreReachedInSpans : Type 0
ValuesAreReachedInSpans =
    (v : View) (n value t : ℕ) (device : DeviceId) → IsView v → IsTimedAt v device t → t ≤ v.until → 1 ≤ n
    → IsInSchedule v.sizes value
    → Reaches v.scenario v.records device (pos (n * v.sizes.cycle + value)) t → IsReachedInSpan v n value t

-- a device that is synchronised when something comes in the span of a cycle, and whose clock was set before the span,
-- is
-- so up to the end of the span
abbrev pub SynchronisedStaySo : Type 0
SynchronisedStaySo =
    (v : View) (n u t : ℕ) (span : IsInSpan v n t) (device : DeviceId) → IsView v → span.block.before.next ≤ u → u ≤ t
    → IsTimedAt v device u → IsOldAt v span.block.before.next device u
    → IsTimedAt v device t × IsOldAt v span.block.before.next device t

-- a device that is synchronised when the span begins reaches each value of the schedule of the cycle, within the run
pub record ReachesInSpan (v : View) (n value : ℕ) (device : DeviceId) : Type 0 where
  pub at : ℕ
  pub in_span : IsReachedInSpan v n value at
  pub timed : IsTimedAt v device at
  pub reached : Reaches v.scenario v.records device (pos (n * v.sizes.cycle + value)) at

-- and it does reach each, where the run goes on for long enough
abbrev pub ValuesAreReached : Type 0
ValuesAreReached =
    (v : View) (n value : ℕ) (before : Stands v n) (device : DeviceId) → IsView v → IsTimedAt v device before.next
    → 1 ≤ n → IsInSchedule v.sizes value
    → ((before.hull.greatest +ℤ pos value) +ℤ pos v.sizes.reach) ≤ℤ pos v.until
    → ReachesInSpan v n value device
