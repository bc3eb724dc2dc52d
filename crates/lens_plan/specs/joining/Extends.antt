-- A network to which virtual links and rows were added.
use Rattle.std.specs.Prelude.{◌++◌, ◌≡◌, List}
use Rattle.net_plan.specs.declared.network.Network.{Network}

-- the two networks have the same clocks, and the same cycle
pub record HaveSameClocks (one other : Network) : Type 0 where
  pub cycle : one.cycle ≡ other.cycle
  pub rho : one.rho ≡ other.rho
  pub grain : one.grain ≡ other.grain
  pub settled : one.settled ≡ other.settled
  pub precision : one.precision ≡ other.precision

-- they have the same times for their frames
pub record HaveSameTimes (one other : Network) : Type 0 where
  pub dmax : one.dmax ≡ other.dmax
  pub calc : one.calc ≡ other.calc
  pub correction : one.correction ≡ other.correction
  pub tt_start : one.tt_start ≡ other.tt_start

-- they have the same numbers in their frames, and are of one version
pub record HaveSameFrames (one other : Network) : Type 0 where
  pub version : one.version ≡ other.version
  pub sync_threshold : one.sync_threshold ≡ other.sync_threshold
  pub priority : one.priority ≡ other.priority
  pub domain : one.domain ≡ other.domain
  pub pcf_destination : one.pcf_destination ≡ other.pcf_destination
  pub marker : one.marker ≡ other.marker

-- the list begins with the other
abbrev pub Begins : {X : Type 0} → List X → List X → Type 0
Begins {X} first whole = (added : List X) × (whole ≡ first ++ added)

-- the planned network is the other but for its virtual links and rows, of which the other's are the first
pub record Extends (network planned : Network) : Type 0 where
  pub clocks : HaveSameClocks network planned
  pub times : HaveSameTimes network planned
  pub frames : HaveSameFrames network planned
  pub devices : network.device ≡ planned.device
  pub links : network.link ≡ planned.link
  pub vls : Begins network.vl planned.vl
  pub rows : Begins network.row planned.row
