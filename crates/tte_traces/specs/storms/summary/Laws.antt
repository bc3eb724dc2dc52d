-- What holds of the spreads of runs.
use Rattle.std.specs.Prelude.{◌≡◌, ◌≤ℤ◌, ◌≤◌, List, pos, ℕ}
use Rattle.run_law.specs.{law.Safety.ClocksAgree, records.Happenings.{Happening, time_of}, scenario.Scenarios.Scenario}
use Rattle.run_law.specs.records.Order.{IsIn}
use Rattle.{tte_traces.specs.storms.summary.Spread.IsGreatestSpread, tte_units.specs.declared.units.Units.Units}

-- the records have one greatest spread
abbrev pub SpreadIsOne : Type 0
SpreadIsOne =
    (s : Scenario) (hs : List Happening) (spread other : Units)
    → IsGreatestSpread s hs spread → IsGreatestSpread s hs other → spread ≡ other

-- where the clocks agree up to the time, and no record is later, it is at most the precision
abbrev pub SpreadIsWithinPrecision : Type 0
SpreadIsWithinPrecision =
    (s : Scenario) (hs : List Happening) (until : ℕ) (spread : Units) → pos 0 ≤ℤ s.network.precision.0
    → ((h : Happening) → IsIn h hs → time_of h ≤ until) → ClocksAgree s hs until
    → IsGreatestSpread s hs spread → spread.0 ≤ℤ s.network.precision.0
