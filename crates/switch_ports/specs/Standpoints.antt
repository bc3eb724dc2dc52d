-- Where a switch stands when something comes to it.
use Rattle.std.specs.Prelude.{◌+◌, ◌^◌, ◌≤ℤ◌, All, neg_ℤ, not, pos}
use Rattle.{net_plan.specs.Ranges.IsWithin, run_law.specs.device.States.is_off}
use Rattle.{run_law.specs.device.Standpoints.{Standpoint as Point}, switch_ports.specs.declared.site.Port.Port}
use Rattle.{switch_ports.specs.declared.site.Site.Site, tte_units.specs.{Amount.amount, declared.units.Units.Units}}
use Rattle.{switch_ports.specs.declared.standpoint.Standpoint.Standpoint, sync_state.specs.correction.Deviation.IsSmall}

-- where the device stands that is not broken
abbrev pub standpoint_of : Standpoint → Point
standpoint_of at = record {
  takes_part = not (is_off at.state);
  state = at.state;
  reading = amount at.reading;
  adjustment = at.adjustment.0;
}

-- the numbers of the site lie in their ranges
pub record IsSiteInRange (site : Site) : Type 0 where
  pub cycle : IsWithin (2 ^ 32) (2 ^ 40) site.plan.cycle_length
  pub dmax : IsWithin 1 (2 ^ 40) site.dmax
  pub precision : IsWithin 1 (2 ^ 40) site.precision
  pub correction : IsWithin 0 (2 ^ 40) site.correction
  pub calc : IsWithin 1 (2 ^ 40) site.calc
  pub expected : IsWithin 0 (2 ^ 43) site.plan.expected
  pub wires : All (λ (port : Port). IsWithin 0 (2 ^ 40) port.wire) site.ports.items

-- the numbers of the site and of the standpoint lie in their ranges
pub record IsAlive (site : Site) (at : Standpoint) : Type 0 where
  pub site_in_range : IsSiteInRange site
  pub reading : IsWithin 0 (2 ^ 60 + 2 ^ 51) at.reading
  pub small : IsSmall at.adjustment.0

-- a point in the range of runs
pub record IsPoint (point : Units) : Type 0 where
  pub low : neg_ℤ (pos (2 ^ 41)) ≤ℤ point.0
  pub high : point.0 ≤ℤ pos (2 ^ 60 + 2 ^ 51)
