-- An audit numbers correction points as a run does: a list of records is a run where it is one by what is due in an
-- audit.
use Rattle.std.specs.Prelude.{◌+◌, ◌↔◌, ◌∷◌, ◌≤ℤ◌, List, [], pos, ℕ}
use Rattle.{audit_law.specs.law.DueRecords.IsDue, run_law.specs.{records.Order.IsIn, scenario.Scenarios.Scenario}}
use Rattle.{drift_clock.specs.ClockLaws.KeepsClockLaws, net_plan.specs.declared.ids.DeviceId.DeviceId}
use Rattle.{net_plan.specs.Ranges.IsInRange, run_law.specs.runs.Runs.IsRun, tte_units.specs.Amount.amount}
use Rattle.{net_plan.specs.declared.event.Event.Event, run_law.specs.records.{Happenings.Happening, Ranks.place_of}}
use Rattle.run_law.specs.runs.DueRecords as runs

-- the network is in its ranges, its events are of times from 0 on, and its clocks keep the clock laws
pub record IsClocked (s : Scenario) : Type 0 where
  pub range : IsInRange s.network
  pub begun : (e : Event) → IsIn e s.events → pos 0 ≤ℤ e.time.0
  pub clocks : (device : DeviceId) → KeepsClockLaws s.network.rho (amount s.network.grain) (s.reading device)

-- what is the run up to a time by one of the two is it by the other
abbrev pub SameRuns : Type 0
SameRuns =
    (s : Scenario) (hs : List Happening) (until : ℕ) → IsClocked s
    → IsRun place_of (runs.IsDue s) ((until + 1) ∷ []) hs ↔ IsRun place_of (IsDue s) ((until + 1) ∷ []) hs
