-- Which findings and places have a line: those that name what the network has.
use Rattle.std.specs.Prelude.{◌<◌, length, ℕ}
use Rattle.lens_slack.specs.declared.measuring.Ending.{Ending, TheVariants.{Broken, Whole}}
use Rattle.lens_slack.specs.declared.spot.{Beside.{Beside, TheVariants.{Before, Behind}}, Finding.Finding, BoundedNumber.BoundedNumber}
use Rattle.{net_plan.specs.declared.network.Network.Network, schedule_tables.specs.declared.rule.Rule.Rule}
use Rattle.schedule_checker.specs.Judging.{places_of}
use Rattle.lens_slack.specs.declared.spot.BoundedNumber.TheVariants as spots

-- the device or the row of the spot is one of the network's
abbrev pub HasSpot : Network → BoundedNumber → Type 0
HasSpot network (spots.Path device channel) = device.0 < length network.device
HasSpot network (spots.Window row) = row.0 < length network.row
HasSpot network (spots.Gap row) = row.0 < length network.row
HasSpot network (spots.Coming row) = row.0 < length network.row
HasSpot network other = Unit {0}

-- so is the virtual link that is next
abbrev pub IsNextOf : Network → Beside → Type 0
IsNextOf network (Behind vl) = vl.0 < length network.vl
IsNextOf network (Before vl) = vl.0 < length network.vl
IsNextOf network other = Unit {0}

-- the finding has a line
pub record IsWritable (network : Network) (f : Finding) : Type 0 where
  pub spot : HasSpot network f.spot
  pub next : IsNextOf network f.beside

-- the place is one at which the rule is judged
abbrev pub HasPlace : Network → Rule → ℕ → Type 0
HasPlace network rule place = place < places_of rule network

-- where it ends with a broken rule, that is at such a place
abbrev pub HasEndingPlace : Network → Ending → Type 0
HasEndingPlace network Whole = Unit {0}
HasEndingPlace network (Broken rule place) = HasPlace network rule place
