-- What holds of the lines of `clocks`.
use Rattle.std.specs.{List.{All, Contains}, Prelude.{◌*◌, ◌-ℤ◌, ◌↔◌, ◌≡◌, ◌≤ℤ◌, ◌≤◌, List, Some, ℕ, ℤ}}
use Rattle.lens_clocks.specs.{Answer.cycles_by, Spread.{ends_of, locals_of}, Telling.clocks_at}
use Rattle.lens_clocks.specs.declared.{spread.Ends.Ends, telling.DeviceClock.DeviceClock}
use Rattle.net_plan.specs.{Belonging.HasDevice, Ranges.IsInRange, declared.ids.DeviceId.DeviceId}
use Rattle.{net_plan.specs.declared.network.Network.Network, tte_units.specs.Amount.amount}
use Rattle.run_law.specs.{declared.note.Note.Note, device.LocalClocks.local, law.Safety.IsInStep}
use Rattle.run_law.specs.{records.{Happenings.{Happening, happenings}, Order.IsIn}, scenario.Scenarios.Scenario}
use Rattle.{schedule_tables.specs.Rules.KeepsRules, tte_audit.specs.Report.scenario_of}
use Rattle.{tte_reports.specs.Reports.IsReportOf, tte_units.specs.declared.units.Units.Units}

-- the lines are those of each cycle from the first on that has passed by the time
abbrev pub CyclesHavePassed : Type 0
CyclesHavePassed =
    (s : Scenario) (until k : ℕ) → IsInRange s.network
    → (k ≤ cycles_by s until) ↔ (k * amount s.network.cycle ≤ until)

-- the clock is the local clock of a device of the network that is correct and synchronised at the time
pub record IsTold (s : Scenario) (hs : List Happening) (t : ℕ) (clock : DeviceClock) : Type 0 where
  pub device : HasDevice s.network clock.device
  pub in_step : IsInStep s hs clock.device t
  pub shows : clock.local ≡ local s hs clock.device t

-- each clock that is told is so, and there is one for each such device
abbrev pub ClocksAreInStep : Type 0
ClocksAreInStep =
    (s : Scenario) (hs : List Happening) (t : ℕ) (clock : DeviceClock) → IsIn clock (clocks_at s hs t) ↔ IsTold s hs t clock

-- the ends are two of the values, and all lie between them
pub record AreEnds (values : List ℤ) (ends : Ends) : Type 0 where
  pub least : Contains values ends.least
  pub greatest : Contains values ends.greatest
  pub between : All (λ v. (ends.least ≤ℤ v) × (v ≤ℤ ends.greatest)) values

-- so it is with what clocks show
abbrev pub EndsAreOfClocks : Type 0
EndsAreOfClocks = (cs : List DeviceClock) (ends : Ends) → ends_of cs ≡ Some ends → AreEnds (locals_of cs) ends

-- in the answer for a report of an accepted network no clocks are further apart than the precision
abbrev pub SpreadsAreWithin : Type 0
SpreadsAreWithin =
    (network : Network) (octets : List ℕ) (ns : List Note) (end : Units) (k : ℕ) (ends : Ends) → KeepsRules network
    → IsReportOf network octets ns end → k ≤ cycles_by (scenario_of network ns) (amount end)
    → ends_of (clocks_at (scenario_of network ns) (happenings network ns) (k * amount network.cycle)) ≡ Some ends
    → (ends.greatest -ℤ ends.least) ≤ℤ network.precision.0
