-- What happens in the block of a cycle.
use Rattle.std.specs.Prelude.{◌*◌, ◌++◌, ◌+ℤ◌, ◌+◌, ◌-ℤ◌, ◌<ℤ◌, ◌≡◌, ◌≤ℤ◌, ◌≤◌, ◌⊎◌, List, Some, false, pos, suc, true}
use Rattle.std.specs.Prelude.{ℕ, ℤ}
use Rattle.{net_plan.specs.declared.ids.DeviceId.DeviceId, tte_units.specs.declared.units.Units.Units}
use Rattle.precision_law.specs.{Anchors.{IsAnchored, IsAnchoredIn}, Hulls.{last_correction, last_dispatch}}
use Rattle.precision_law.specs.Blocks.{HasTimeAt, IsInBlock, IsNewAt, IsOldAt, Stands, adjustment_left}
use Rattle.precision_law.specs.Hulls.{Hull, IsInHull, IsNarrow, IsOverBefore, first_correction, hull_of}
use Rattle.precision_law.specs.{Masters.IsFirstMaster, Views.{IsDispatch, IsFirm, IsGood, IsGoodEnd, IsView, View}}
use Rattle.{precision_law.specs.Standings.IsNearHull, run_law.specs.records.Happenings.{Happening, earlier, time_of}}
use Rattle.run_law.specs.control.Corrections.{ComesToCorrection, correction_value, integration_cycle, next_cycle}
use Rattle.run_law.specs.{declared.judgement.Why.Why, device.LocalClocks.Reaches, records.Ranks.members_in}
use Rattle.run_law.specs.{device.States.{adjustment_with, cycle_in, is_joined_by}, scenario.Scenarios.is_turned_on_at}
use Rattle.run_law.specs.{law.Safety.AreClose, records.Order.IsIn}
use Rattle.sync_state.specs.declared.answers.Verdict.{TheVariants.{Cleared, Corrected}, Verdict}
use Rattle.sync_state.specs.{declared.state.State.TheVariants.Integrating, membership.Members.count_of}
use Rattle.run_law.specs.declared.note.NoteBody.TheVariants as notes

-- ---- the records of a block

-- a good master dispatches at t: the frame of the block's cycle, by a clock that was set before the block
pub record DispatchesSo (v : View) (n next t : ℕ) (device : DeviceId) (cycle : ℕ) : Type 0 where
  pub of_cycle : cycle ≡ suc n
  pub old : IsOldAt v next device t
  pub inside : IsInHull v (suc n) t

-- a good device joins at t: by a frame of the block's cycle and of three members, which sets its clock in the hull
pub record JoinsSo (v : View) (n t : ℕ) (before : Hull) (device : DeviceId) (h : Happening) : Type 0 where
  pub of_cycle : cycle_in h ≡ suc n
  pub enough : 3 ≤ count_of (record { 0 = members_in h })
  pub hull : Hull
  pub is_hull : hull_of v (suc n) ≡ Some hull
  pub not_early : hull.least ≤ℤ pos t
  pub not_late : pos t <ℤ first_correction v.sizes before
  pub anchored : IsAnchoredIn v.sizes (v.scenario.reading device)
      (adjustment_with v.scenario device (cycle_in h) (record { 0 = pos 0 }) h.note.body).0 (suc n) hull t
  pub ahead : pos (suc n * v.sizes.cycle + 2 * v.sizes.grain) <ℤ (pos (v.scenario.reading device t)
      +ℤ (adjustment_with v.scenario device (cycle_in h) (record { 0 = pos 0 }) h.note.body).0)

-- the records before those of corrections at t
pub record AreBeforeCorrections (v : View) (t : ℕ) (front : List Happening) : Type 0 where
  pub rest : List Happening
  pub whole : v.records ≡ front ++ rest
  pub later : (h : Happening) → IsIn h rest → t ≤ time_of h
  pub only : (h : Happening) → IsIn h front → time_of h ≤ t

-- a correction point comes at t and comes to this
pub record ComesTo (v : View) (t : ℕ) (device : DeviceId) (cycle : ℕ) (verdict : Verdict) : Type 0 where
  pub front : List Happening
  pub split : AreBeforeCorrections v t front
  pub point : ComesToCorrection v.scenario front device t cycle verdict

-- the correction point of a device whose clock was set before the block comes in time
pub record IsPointOf (v : View) (n t : ℕ) (before : Hull) (cycle : ℕ) : Type 0 where
  pub of_cycle : cycle ≡ suc n
  pub not_early : (first_correction v.sizes before +ℤ pos v.sizes.reach) ≤ℤ pos t
  pub not_late : (pos t +ℤ pos v.sizes.reach) ≤ℤ last_correction v.sizes before

-- and a correction sets its clock in the hull
pub record CorrectsSo (v : View) (n t : ℕ) (device : DeviceId) (by : Units) : Type 0 where
  pub hull : Hull
  pub is_hull : hull_of v (suc n) ≡ Some hull
  pub set_at : ℕ
  pub not_before : hull.least ≤ℤ pos set_at
  pub not_behind : set_at ≤ t
  pub anchored : IsAnchoredIn v.sizes (v.scenario.reading device) (adjustment_left v device t +ℤ by.0) (suc n) hull
      set_at

-- what a block's instant brings
pub record BlockGoesSo (v : View) (n next t : ℕ) (before : Hull) : Type 0 where
  pub dispatches : (h : Happening) (device : DeviceId) (cycle : ℕ) → IsDispatch v h device cycle → time_of h ≡ t
      → DispatchesSo v n next t device cycle
  pub joins : (h : Happening) (device : DeviceId) → IsIn h v.records → is_joined_by device h.note.body ≡ true
      → IsGood v device → time_of h ≡ t → JoinsSo v n t before device h
  pub points : (device : DeviceId) (cycle : ℕ) (verdict : Verdict) → HasTimeAt v device t → IsOldAt v next device t
      → ComesTo v t device cycle verdict → IsPointOf v n t before cycle
  pub corrects : (device : DeviceId) (cycle : ℕ) (by : Units) → HasTimeAt v device t → IsOldAt v next device t
      → ComesTo v t device cycle (Corrected by) → CorrectsSo v n t device by
  pub old_alone : (device : DeviceId) (cycle : ℕ) (verdict : Verdict) → HasTimeAt v device t
      → ComesTo v t device cycle verdict → (verdict ≡ Cleared → ⊥) → IsOldAt v next device t

-- each instant of each block brings what it should
abbrev pub BlocksGoSo : Type 0
BlocksGoSo =
    (v : View) (n t : ℕ) (block : IsInBlock v n t) → IsView v → BlockGoesSo v n block.before.next t block.before.hull

-- ---- existence

-- each good master that began on has dispatched the frame of the cycle by the last dispatch
abbrev pub MastersDispatch : Type 0
MastersDispatch =
    (v : View) (n t : ℕ) (block : IsInBlock v n t) (device : DeviceId) → IsView v
    → last_dispatch v.sizes block.before.hull ≤ℤ pos t → IsFirstMaster v device
    → (h : Happening) × IsDispatch v h device (suc n) × (pos (time_of h) ≤ℤ last_dispatch v.sizes block.before.hull)

-- the block is over within the run
pub record BlockIsOver (v : View) (n : ℕ) : Type 0 where
  pub before : Stands v n
  pub next : ℕ
  pub is_over : IsOverBefore v (suc n) next
  pub in_run : next ≤ v.until + 1

-- each device that had a common time before the block has had its correction point when the block is over: its clock
-- was set in the block, or it has lost the time
abbrev pub PointsHaveCome : Type 0
PointsHaveCome =
    (v : View) (n : ℕ) (block : BlockIsOver v n) (device : DeviceId) → IsView v → HasTimeAt v device block.next
    → IsNewAt v block.before.next device block.next

-- a device that has the common time is not turned on
abbrev pub NoneTurnsOn : Type 0
NoneTurnsOn =
    (v : View) (device : DeviceId) (u : ℕ) → IsView v → HasTimeAt v device u
    → is_turned_on_at v.scenario device u ≡ false

-- the record of a correction point: a correction, or the loss of the common time
pub record IsPointRecord (v : View) (device : DeviceId) (u : ℕ) (h : Happening) : Type 0 where
  pub there : IsIn h v.records
  pub at : time_of h ≡ u
  pub says : ((cycle : ℕ) × (by : Units) × (adjustment : Units)
      × (h.note.body ≡ notes.Corrected device cycle by adjustment))
      ⊎ ((cause : ℕ) × (why : Why) × (h.note.body ≡ notes.State device Integrating cause why))

-- where a good device with the common time comes to its correction point, and does not only clear there, there is a
-- record of it
abbrev pub PointsAreRecorded : Type 0
PointsAreRecorded =
    (v : View) (device : DeviceId) (u : ℕ) → IsView v → u ≤ v.until → HasTimeAt v device u
    → Reaches v.scenario v.records device
    (correction_value v.scenario.network (next_cycle v.scenario v.records device u)) u
    → (integration_cycle (earlier u v.records) device ≡ Some (next_cycle v.scenario v.records device u) → ⊥)
    → (h : Happening) × IsPointRecord v device u h

-- ---- halving

-- the hull of the block's cycle is narrow
abbrev pub HullsAreNarrow : Type 0
HullsAreNarrow =
    (v : View) (n : ℕ) (before : Stands v n) (hull : Hull) → IsView v → hull_of v (suc n) ≡ Some hull
    → IsNarrow v.sizes hull

-- ---- the verdict

-- the clock is set by the frame of the sound channel whose base this is, alone or with another one of the hull
pub record IsSharedCorrection (v : View) (n t : ℕ) (hull : Hull) (shared : ℤ) (device : DeviceId)
    (by : Units) : Type 0 where
  pub other : ℤ
  pub near : IsNearHull v.sizes hull other
  pub set_at : ℕ
  pub not_before : hull.least ≤ℤ pos set_at
  pub not_behind : set_at ≤ t
  pub anchored : IsAnchored v.sizes (pos (v.scenario.reading device set_at) +ℤ (adjustment_left v device t +ℤ by.0))
      (suc n)
      ((shared +ℤ other) -ℤ pos (2 * v.sizes.path + 4 * v.sizes.grain + v.sizes.drift))
      ((shared +ℤ other) +ℤ pos (2 * v.sizes.path + v.sizes.drift + 1)) set_at

-- the correction points of the firm devices in the block share one frame
pub record PointsShare (v : View) (n : ℕ) (hull : Hull) : Type 0 where
  pub shared : ℤ
  pub near : IsNearHull v.sizes hull shared
  pub each : (t : ℕ) (block : IsInBlock v n t) (device : DeviceId) (cycle : ℕ) (verdict : Verdict) → IsFirm v device
      → HasTimeAt v device t
      → IsOldAt v block.before.next device t → ComesTo v t device cycle verdict
      → (by : Units) × (verdict ≡ Corrected by) × (IsGoodEnd v device → IsSharedCorrection v n t hull shared device by)

-- once the correction points of the block may come, those of firm devices share a frame
abbrev pub FirmDevicesCorrect : Type 0
FirmDevicesCorrect =
    (v : View) (n t : ℕ) (block : IsInBlock v n t) → IsView v
    → (first_correction v.sizes block.before.hull +ℤ pos v.sizes.reach) ≤ℤ pos t
    → (hull : Hull) × (hull_of v (suc n) ≡ Some hull) × PointsShare v n hull

-- ---- from block to block

-- at the beginning the network stands as it should
abbrev pub StandsAtStart : Type 0
StandsAtStart = (v : View) → IsView v → Stands v 0

-- it does when a block is over
abbrev pub StandsOn : Type 0
StandsOn = (v : View) (n : ℕ) → IsView v → BlockIsOver v n → Stands v (suc n)

-- each instant of the run lies in a block
abbrev pub BlocksCover : Type 0
BlocksCover = (v : View) (t : ℕ) → IsView v → t ≤ v.until → (n : ℕ) × IsInBlock v n t

-- ---- precision within a block

-- within a block the clocks of any two devices that have a common time are close
abbrev pub ClocksAgreeInBlocks : Type 0
ClocksAgreeInBlocks =
    (v : View) (n t u : ℕ) (d e : DeviceId) → IsInBlock v n t → IsView v → t ≤ u → u ≤ t + 1 → HasTimeAt v d u
    → HasTimeAt v e u
    → AreClose v.scenario.network (pos (v.scenario.reading d t) +ℤ adjustment_left v d u)
    (pos (v.scenario.reading e t) +ℤ adjustment_left v e u)
