-- What holds of the clocks in the picture of a report.
use Rattle.std.specs.Prelude.{◌≡◌, ℕ, ◌*◌, ◌/◌, ◌≤◌, false, List, Some}
use Rattle.lens_svg.specs.Clocks.{Clocks, apart_of, clocks_in, ends_of, is_among, local_of, share}
use Rattle.{lens_svg.specs.declared.{clock.{Ends.Ends, Told.Told}, layout.Span.Span}, tte_units.specs.Amount.amount}
use Rattle.{net_plan.specs.declared.network.Network.Network, run_law.specs.records.Happenings.{Happening, happenings}}
use Rattle.{run_law.specs.{declared.note.Note.Note, device.LocalClocks.local}, schedule_tables.specs.Rules.KeepsRules}
use Rattle.{run_law.specs.law.Safety.IsInStep, tte_audit.specs.Report.scenario_of, tte_reports.specs.Reports.IsReportOf}
use Rattle.{run_law.specs.{records.Order.IsIn, scenario.Scenarios.Scenario}, tte_units.specs.declared.units.Units.Units}

-- the clock is told, and its device did not break
abbrev pub IsShown : Clocks → Told → Type 0
IsShown clocks told = IsIn told clocks.told × (is_among clocks.broken told.device ≡ false)

-- its device is correct and synchronised at the time, and this is what its local clock shows then
pub record ShowsClock (s : Scenario) (hs : List Happening) (t : ℕ) (told : Told) : Type 0 where
  pub in_step : IsInStep s hs told.device t
  pub shows : local_of told ≡ local s hs told.device t

-- the bar of how far these are apart, of 120 pixels where that is the precision: 120 times that by the precision,
-- rounded down, so never longer than its frame
abbrev pub IsTrueBar : Network → Ends → Type 0
IsTrueBar network ends =
    let apart = apart_of ends.greatest ends.least in
    (share 120 apart (amount network.precision) ≡ 120 * apart / amount network.precision)
    × (share 120 apart (amount network.precision) ≤ 120)

-- each clock in the picture is that of a correct synchronised device at the end of the run; no two are further apart
-- than the precision; and so is the bar
pub record ShowsClocks (network : Network) (span : Span) (notes : List Note) (end : Units) : Type 0 where
  pub each : (told : Told) → IsShown (clocks_in span notes) told
      → ShowsClock (scenario_of network notes) (happenings network notes) (amount end) told
  pub apart : (told other : Told) → IsShown (clocks_in span notes) told → IsShown (clocks_in span notes) other
      → apart_of told other ≤ amount network.precision
  pub bar : (ends : Ends) → ends_of (clocks_in span notes) ≡ Some ends → IsTrueBar network ends

-- so does the picture of each part of the run of a report over a network that keeps the rules
abbrev pub PicturesShowClocks : Type 0
PicturesShowClocks =
    (network : Network) (span : Span) (octets : List ℕ) (notes : List Note) (end : Units) → KeepsRules network
    → IsReportOf network octets notes end → ShowsClocks network span notes end
