-- What a compression master has collected when a frame is permanent at it: the last of the clusters of the points that
-- frames gave it before.
use Rattle.std.specs.{List.{Contains, last_or}, Prelude.{option_and_then, option_map, pos, ℕ, ℤ}}
use Rattle.std.specs.Prelude.{◌*◌, ◌+◌, ◌-ℤ◌, ◌≡◌, ◌≤ℤ◌, List, None, Option, Some, fold, if◌then◌else◌, int_lt}
use Rattle.{audit_devices.specs.Keeping.records_before, lens_why.specs.declared.ground.Ground.Ground}
use Rattle.compression.specs.{Clusters.{AreClusters, Cluster, Point, point_at}, Collection.{joined, opening}}
use Rattle.{compression.specs.Middle.{middle_of, relative}, net_plan.specs.declared.ids.DeviceId.DeviceId}
use Rattle.{compression.specs.{OneCluster.AreInOrder, Role.role_in}, tte_units.specs.declared.units.Units.Units}
use Rattle.compression.specs.declared.taken.Taken.{Taken, TheVariants.{Joined, Opened, OtherCycle, Repeat}}
use Rattle.{lens_why.specs.Seeking.last_sought, tte_reports.specs.Reports.IsReportOf, tte_units.specs.Amount.amount}
use Rattle.{lens_why.specs.declared.collecting.LastCollection.LastCollection, net_plan.specs.declared.network.Network.Network}
use Rattle.{lens_why.specs.declared.collecting.Given.Given, tte_units.specs.declared.frames.members.Members.Members}
use Rattle.lens_why.specs.declared.{ground.Ground.TheVariants.{Collected, Middle}, seeking.Sought.TheVariants.Opening}
use Rattle.run_law.specs.{control.Collections.{master_of, observation_window, points_of}, device.States.cycle_in}
use Rattle.run_law.specs.declared.{judgement.Judgement.Judgement, note.{Note.Note, NoteBody.TheVariants.Compressed}}
use Rattle.run_law.specs.records.{Happenings.{Happening, happenings, numbered}, Ranks.{members_in, place_of}}

-- the last collection, where it is open at the reading
abbrev pub open_in : Option Cluster → ℤ → Option Cluster
open_in last reading = option_and_then (λ c. if int_lt c.end reading then None else Some c) last

-- the last collection behind a point that was taken so
abbrev pub taken_to : ℤ → Option Cluster → Point → Taken → Option Cluster
taken_to ow last p Opened = Some (opening ow p)
taken_to ow last p Joined = option_map (λ c. joined ow c p.reading p.master) last
taken_to ow last p Repeat = last
taken_to ow last p OtherCycle = last

-- the last collection behind one more point
abbrev pub behind_point : ℤ → Option Cluster → Point → Option Cluster
behind_point ow last p = taken_to ow last p (role_in (open_in last p.reading) p)

-- the last collection of these points
abbrev pub last_of : ℤ → List Point → Option Cluster
last_of ow points = fold (behind_point ow) None points

-- the last collection of the device's present stretch
abbrev pub last_collection : Network → DeviceId → List Happening → Option Cluster
last_collection network device hs = last_of (observation_window network) (points_of hs device)

-- what is told of a collection
abbrev pub told_of : Cluster → LastCollection
told_of c = record { opened = record { 0 = c.opened }; ends = c.end; cycle = c.cycle; members = c.members }

-- the point of a frame
abbrev pub as_point : Given → Point
as_point given = point_at given.point.0 given.master given.cycle

-- the ground of a permanence at a compression master: the frame's master, its cycle, and the last collection of the
-- points before it, if there is one
abbrev pub collected_ground : Network → List Happening → DeviceId → Happening → Ground
collected_ground network hs device h =
    Collected (master_of (members_in h)) (cycle_in h)
    (option_map told_of (last_collection network device (records_before (place_of h) hs)))

-- how far the reading is behind that at which the collection would be sent which opened at the point, if its points had
-- their middle at the first: two observation windows and the time to calculate later
abbrev pub middle_told : Network → Units → Units → ℤ
middle_told network opened at = (at.0 -ℤ opened.0) -ℤ pos (2 * amount network.precision + amount network.calc)

-- the ground of what the compression master sends with this record, at the reading, for the collection that opened at
-- the point: the last record before by which a frame opened one there, and the middle of its points, from the first on
abbrev pub sent_ground : Network → List Happening → Happening → DeviceId → Units → Units → Ground
sent_ground network hs h device opened at =
    Middle (last_sought network (Opening device opened) (records_before (place_of h) hs))
    (middle_told network opened at)

-- of points in their order the last collection is the last of their clusters
abbrev pub LastIsOfClusters : Type 0
LastIsOfClusters =
    (ow : ℤ) (points : List Point) (clusters : List Cluster) → pos 0 ≤ℤ ow → AreInOrder points
    → AreClusters ow points clusters → last_of ow points ≡ last_or None clusters

-- the record is one of the report, by which the device sends this at the reading
pub record IsEmission (network : Network) (ns : List Note) (h : Happening) (device : DeviceId) (opened at : Units)
    : Type 0 where
  pub number : ℕ
  pub there : numbered (happenings network ns) number ≡ Some h
  pub cycle : ℕ
  pub members : Members
  pub verdict : Judgement
  pub is : h.note.body ≡ Compressed device opened at cycle members verdict

-- what is told as the middle is that of the points of a cluster of the device's stretch, which opened at this point
pub record IsMiddle (network : Network) (judged : List Happening) (device : DeviceId) (opened at : Units) : Type 0 where
  pub clusters : List Cluster
  pub are : AreClusters (observation_window network) (points_of judged device) clusters
  pub cluster : Cluster
  pub there : Contains clusters cluster
  pub opens : opened.0 ≡ cluster.opened
  pub middle : middle_told network opened at ≡ middle_of (relative cluster.points)

-- so it is with each record of a report
abbrev pub MiddlesAreOfClusters : Type 0
MiddlesAreOfClusters =
    (network : Network) (octets : List ℕ) (ns : List Note) (end : Units) (h : Happening) (device : DeviceId)
    (opened at : Units) → IsReportOf network octets ns end → IsEmission network ns h device opened at
    → IsMiddle network (records_before (place_of h) (happenings network ns)) device opened at
