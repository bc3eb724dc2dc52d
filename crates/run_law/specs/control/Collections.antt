-- What a compression master collects.
use Rattle.std.specs.{Int.{int_div_euclid, trailing_zeros, w32}, List.after_last}
use Rattle.std.specs.Prelude.{if◌then◌else◌, ◌&&◌, ◌*◌, ◌+ℤ◌, ◌-ℤ◌, ◌==◌, ◌∷◌, ◌≡◌, Bool, List, None, Option, Some, []}
use Rattle.std.specs.Prelude.{false, filter_map, int_le, int_lt, not, pos, ℕ, ℤ}
use Rattle.compression.specs.{Clusters.{AreClusters, Cluster, Point, point_at}, Role.role, declared.taken.Taken.Taken}
use Rattle.net_plan.specs.declared.{ids.DeviceId.DeviceId, network.Network.Network}
use Rattle.run_law.specs.declared.judgement.{Reason.{Reason, TheVariants.{Cycle, Gate}}, Why.TheVariants.On}
use Rattle.run_law.specs.{declared.note.NoteBody.NoteBody, device.States.{cycle_in, is_joined_by, is_synchronised}}
use Rattle.{run_law.specs.declared.steps.Ripe.Ripe, sync_state.specs.declared.state.State.State}
use Rattle.run_law.specs.{device.Standpoints.{first_reason, offset_in_cycle}, records.Happenings.Happening}
use Rattle.{run_law.specs.records.Ranks.members_in, tte_units.specs.Amount.amount}
use Rattle.compression.specs.declared.taken.Taken.TheVariants as taken
use Rattle.run_law.specs.declared.note.NoteBody.TheVariants as notes
use Rattle.run_law.specs.declared.steps.Ripe.TheVariants as ripe

-- does the record end a stretch of the device, in which its state is one? A frame that tells it the time ends one at
-- once, before the record of the new state. Being turned on ends none: before it nothing was collected, and what comes
-- at its instant belongs to the new stretch
abbrev pub ends_stretch : DeviceId → NoteBody → Bool
ends_stretch device (notes.State other state cause On) = false
ends_stretch device (notes.State other state cause why) = device.0 == other.0
ends_stretch device other = is_joined_by device other

-- the master whose bit is the members
abbrev pub master_of : ℕ → ℕ
master_of members = trailing_zeros w32 members

-- the point that a record gives to the device's collections: that of a frame that was permanent there
abbrev pub point_by : DeviceId → Happening → NoteBody → Option Point
point_by device h (notes.Permanent other link cause point verdict) =
    if device.0 == other.0 then Some (point_at point.0 (master_of (members_in h)) (cycle_in h)) else None
point_by device h other = None

-- the points of the device's present stretch, in their order
abbrev pub points_of : List Happening → DeviceId → List Point
points_of hs device =
    filter_map (λ h. point_by device h h.note.body) (after_last (λ h. ends_stretch device h.note.body) hs)

-- the observation observation_window, which is the precision
abbrev pub observation_window : Network → ℤ
observation_window network = pos (amount network.precision)

-- this becomes of a point behind these: its role in their clusters
pub record IsCollectedAs (network : Network) (points : List Point) (point : Point) (taken : Taken) : Type 0 where
  pub clusters : List Cluster
  pub are : AreClusters (observation_window network) points clusters
  pub is : taken ≡ role clusters point

-- the local value at which the frame of this point was dispatched, as it seems, and two precisions
abbrev pub dispatch_value : Network → ℤ → ℤ → ℤ
dispatch_value network adjustment point =
    ((point +ℤ adjustment) -ℤ pos (amount network.dmax)) +ℤ pos (2 * amount network.precision)

-- is the whole number this one?
abbrev pub is_number : ℤ → ℕ → Bool
is_number z n = int_le z (pos n) && int_le (pos n) z

-- why a synchronised compression master drops a frame at its point, if it does: the dispatch lies farther than two
-- precisions from the beginning of a cycle, or is that of another cycle than the frame's
abbrev pub point_fault : Network → State → ℤ → ℤ → ℕ → Option Reason
point_fault network state adjustment point cycle =
    let value = dispatch_value network adjustment point in
    first_reason (
    (is_synchronised state && int_lt (pos (4 * amount network.precision)) (offset_in_cycle network value), Gate)
    ∷ (is_synchronised state && not (is_number (int_div_euclid value network.cycle.0) cycle), Cycle)
    ∷ [])

-- a point's role, as what becomes of the frame
abbrev pub ripe_by_role : Taken → Ripe
ripe_by_role taken.Opened = ripe.Opened
ripe_by_role taken.Joined = ripe.Joined
ripe_by_role taken.Repeat = ripe.Repeat
ripe_by_role taken.OtherCycle = ripe.Dropped Cycle
