-- The points of a compression master's stretch, and what its collections have of them.
use Rattle.std.specs.{List.Contains, Prelude.{◌++◌, ◌∷◌, ◌≡◌, ◌≤ℤ◌, All, IfSome, List, Some, [], map, pos, true, ⊤}}
use Rattle.audit_devices.specs.{declared.effect.Carried.Carried, stretches.Changes.{change_by, collector_in}}
use Rattle.audit_devices.specs.declared.stretches.change.CollectionChange.{CollectionChange, TheVariants.{Ends, Gives}}
use Rattle.{audit_law.specs.collections.Gathered.Gathers, run_law.specs.scenario.Devices.is_cm}
use Rattle.{audit_law.specs.collections.Kept.{History, emitted}, net_plan.specs.declared.network.Network.Network}
use Rattle.audit_law.specs.declared.collections.{emitted.Emitted.Emitted, gathering.Gathering.Gathering}
use Rattle.compression.specs.{Clusters.{AreClusters, Cluster, Point, point_at}, Emission.compressed}
use Rattle.{compression.specs.declared.compressed.Compressed.Compressed, net_plan.specs.declared.ids.DeviceId.DeviceId}
use Rattle.run_law.specs.{control.Collections.{master_of, observation_window, points_of}, records.Happenings.Happening}
use Rattle.tte_units.specs.Amount.{amount}

-- the points of the stretch behind a change, which a frame with this cycle and these members brings
abbrev pub points_with : List Point → CollectionChange → Carried → List Point
points_with points Ends carried = []
points_with points (Gives point) carried = points ++ point_at point.0 (master_of carried.members.0) carried.cycle ∷ []

-- where the change gives a point, none of these is later
abbrev pub MayBring : List Point → CollectionChange → Type 0
MayBring points Ends = ⊤
MayBring points (Gives point) = All (λ p. p.reading ≤ℤ point.0) points

-- where the record gives a point to a compression master, none of its stretch is later
abbrev pub MayStand : Network → List Happening → Happening → Type 0
MayStand network hs h =
    (device : DeviceId) → collector_in h.note.body ≡ Some device → is_cm network device ≡ true
    → IfSome (change_by h.note.body) (MayBring (points_of hs device))

-- the collections, which are of the network's windows, have these points as the gathering
pub record HasPoints (network : Network) (points : List Point) (collections : History) (gathering : Gathering) : Type
    0 where
  pub ow : collections.ow ≡ observation_window network
  pub calc : collections.calc ≡ pos (amount network.calc)
  pub gathers : Gathers collections gathering points

-- this is sent for a cluster of these points
pub record IsSentFor (network : Network) (points : List Point) (sent : Compressed) : Type 0 where
  pub clusters : List Cluster
  pub are : AreClusters (observation_window network) points clusters
  pub cluster : Cluster
  pub there : Contains clusters cluster
  pub is : sent ≡ compressed (observation_window network) (pos (amount network.calc)) cluster

-- what is sent for these clusters, in their order
abbrev pub emissions_for : Network → List Cluster → List Emitted
emissions_for network clusters = map (emitted (observation_window network) (pos (amount network.calc))) clusters
