-- What a synchronised device's clock shows: a time between those of two ideal clocks, which began the cycle for which
-- the clock was last set with the first and with the last dispatch of that cycle.
use Rattle.std.specs.Prelude.{◌*◌, ◌+ℤ◌, ◌+◌, ◌-ℤ◌, ◌<ℤ◌, ◌≤ℤ◌, ◌≤◌, List, pos, suc, zero, ℕ, ℤ}
use Rattle.net_plan.specs.{Bounds.IsBeta, declared.{ids.DeviceId.DeviceId, network.Network.Network}}
use Rattle.precision_law.specs.{Dispatches.AreFromTo, Epochs.epoch_cycle, Precision.IsRunUpTo}
use Rattle.{run_law.specs.declared.note.Note.Note, tte_units.specs.Amount.amount}
use Rattle.run_law.specs.{device.LocalClocks.{Reaches, local, local_before}, law.Safety.{IsInStep, IsInStepBefore}}
use Rattle.run_law.specs.{records.Happenings.{Happening, earlier, happenings, up_to}, scenario.Scenarios.Scenario}
use Rattle.schedule_tables.specs.Margins.{clock_error, dispatch_spread, drift_of, reach_error}

-- what an ideal clock that began the cycle at an instant shows at t
abbrev pub ideal : Network → ℕ → ℤ → ℕ → ℤ
ideal network cycle begun t = (pos (cycle * amount network.cycle) +ℤ pos t) -ℤ begun

-- how far a clock may be off the ideal one by which it was set: the error of the setting, and the drift since
abbrev pub ideal_error : Network → ℕ → ℕ
ideal_error network beta = clock_error network beta + drift_of network

-- the value lies at t between those of the two ideal clocks, but for this error
pub record IsBetweenIdeals (network : Network) (beta cycle : ℕ) (first last : ℤ) (t : ℕ) (shown : ℤ) : Type 0 where
  pub least : ideal network cycle last t ≤ℤ (shown +ℤ pos (ideal_error network beta))
  pub most : shown ≤ℤ (ideal network cycle first t +ℤ pos (ideal_error network beta))

-- the dispatches of the cycle lie near one another, and the value lies between its ideal clocks
pub record KeepsCycle (s : Scenario) (hs : List Happening) (beta t cycle : ℕ) (shown : ℤ) : Type 0 where
  pub first : ℤ
  pub last : ℤ
  pub dispatches : AreFromTo s hs t cycle first last
  pub narrow : last ≤ℤ (first +ℤ pos (dispatch_spread s.network))
  pub between : IsBetweenIdeals s.network beta cycle first last t shown

-- the clock of each correct synchronised device keeps the cycle for which it was last set, at each instant, and when
-- something comes at it
abbrev pub ClocksKeepTheirCycles : Type 0
ClocksKeepTheirCycles =
    (s : Scenario) (mark : List ℕ) (ns : List Note) (until beta : ℕ) → IsRunUpTo s mark ns until
    → IsBeta s.network (pos beta) → (t : ℕ) (device : DeviceId) → t ≤ until
    → (IsInStep s (happenings s.network ns) device t
    → KeepsCycle s (happenings s.network ns) beta t (epoch_cycle (up_to t (happenings s.network ns)) device)
    (local s (happenings s.network ns) device t))
    × (IsInStepBefore s (happenings s.network ns) device t
    → KeepsCycle s (happenings s.network ns) beta t (epoch_cycle (earlier t (happenings s.network ns)) device)
    (local_before s (happenings s.network ns) device t))

-- ---- the span of a cycle

-- the instant lies behind the last correction of the cycle; none is of cycle 0
abbrev pub IsBehindCorrections : Scenario → List Happening → ℕ → ℕ → ℕ → Type 0
IsBehindCorrections s hs beta t zero = Unit {0}
IsBehindCorrections s hs beta t (suc cycle) =
    (first : ℤ) × (last : ℤ) × AreFromTo s hs t cycle first last
    × (((last +ℤ pos (amount s.network.cycle + amount s.network.correction))
    +ℤ pos (2 * reach_error s.network beta)) <ℤ pos t)

-- and not behind the first correction of the next cycle
abbrev pub IsBeforeCorrections : Network → ℕ → ℕ → ℤ → Type 0
IsBeforeCorrections network beta t first =
    (pos t +ℤ pos (reach_error network beta)) ≤ℤ (first +ℤ pos (amount network.cycle + amount network.correction))

-- between both, the clock of each correct synchronised device keeps between the ideal clocks of the cycle itself
abbrev pub ClocksKeepTheSpan : Type 0
ClocksKeepTheSpan =
    (s : Scenario) (mark : List ℕ) (ns : List Note) (until beta : ℕ) → IsRunUpTo s mark ns until
    → IsBeta s.network (pos beta) → (t cycle : ℕ) (first last : ℤ) (device : DeviceId) → t ≤ until
    → AreFromTo s (happenings s.network ns) t cycle first last
    → IsBehindCorrections s (happenings s.network ns) beta t cycle → IsBeforeCorrections s.network beta t first
    → IsInStepBefore s (happenings s.network ns) device t
    → IsBetweenIdeals s.network beta cycle first last t (local_before s (happenings s.network ns) device t)

-- ---- values of the schedule

-- so far into its cycle a clock is past its correction and the last control frames, and not yet near the cycle's end
pub record IsInSchedule (network : Network) (value : ℕ) : Type 0 where
  pub begins : amount network.correction + amount network.dmax + 4 * amount network.precision ≤ value
  pub ends : value + 4 * amount network.precision ≤ amount network.cycle

-- the instant lies so far behind the dispatches of the cycle as the value lies behind its beginning, but for the error
pub record IsOnTime (s : Scenario) (hs : List Happening) (beta t cycle value : ℕ) : Type 0 where
  pub first : ℤ
  pub last : ℤ
  pub dispatches : AreFromTo s hs t cycle first last
  pub narrow : last ≤ℤ (first +ℤ pos (dispatch_spread s.network))
  pub not_early : (first +ℤ pos value) ≤ℤ (pos t +ℤ pos (reach_error s.network beta))
  pub not_late : pos t ≤ℤ ((last +ℤ pos value) +ℤ pos (reach_error s.network beta))

-- the clock of a correct synchronised device reaches each value of the schedule of a cycle on time
abbrev pub ValuesAreReachedOnTime : Type 0
ValuesAreReachedOnTime =
    (s : Scenario) (mark : List ℕ) (ns : List Note) (until beta : ℕ) → IsRunUpTo s mark ns until
    → IsBeta s.network (pos beta) → (t cycle value : ℕ) (device : DeviceId) → t ≤ until
    → IsInStepBefore s (happenings s.network ns) device t → IsInSchedule s.network value
    → Reaches s (happenings s.network ns) device (pos (cycle * amount s.network.cycle + value)) t
    → IsOnTime s (happenings s.network ns) beta t cycle value
