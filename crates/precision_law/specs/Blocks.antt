-- How the network stands when the block of a cycle is over.
use Rattle.std.specs.Prelude.{◌*◌, ◌+ℤ◌, ◌+◌, ◌-ℤ◌, ◌<ℤ◌, ◌<◌, ◌≡◌, ◌≤ℤ◌, ◌≤◌, ◌⊎◌, Some, false, pos, suc, true, ℕ, ℤ}
use Rattle.{net_plan.specs.declared.ids.DeviceId.DeviceId, sync_state.specs.declared.state.State.State}
use Rattle.precision_law.specs.{Anchors.{IsAnchored, IsAnchoredIn}, Views.{IsDispatch, IsFirm, IsGood, IsGoodEnd, View}}
use Rattle.precision_law.specs.{Epochs.{epoch_cycle, epoch_time, has_time, is_corrected}, Standings.IsNearHull}
use Rattle.precision_law.specs.Hulls.{Hull, IsInHull, IsNarrow, IsOverBefore, first_correction, hull_of}
use Rattle.run_law.specs.{control.Corrections.has_cleared, records.Happenings.{Happening, earlier, time_of}}
use Rattle.run_law.specs.declared.judgement.Why.{TheVariants.{AsyncClique, Correction, Frame, On, SyncClique}, Why}
use Rattle.{run_law.specs.device.LocalClocks.changed_at, sync_state.specs.declared.state.State.TheVariants.Synchronised}
use Rattle.run_law.specs.{device.States.{adjustment_before, cycle_in, is_joined_by, state_after}, records.Order.IsIn}
use Rattle.run_law.specs.declared.note.NoteBody.TheVariants as notes

-- ---- devices

-- the state in which the records before t leave the device
abbrev pub state_left : View → DeviceId → ℕ → State
state_left v device t = state_after v.scenario (earlier t v.records) device

-- the adjustment with which they leave it
abbrev pub adjustment_left : View → DeviceId → ℕ → ℤ
adjustment_left v device t = (adjustment_before v.scenario v.records device t).0

-- a good device that the records before t leave with a common time
pub record HasTimeAt (v : View) (device : DeviceId) (t : ℕ) : Type 0 where
  pub good : IsGood v device
  pub timed : has_time (state_left v device t) ≡ true

-- its clock was last set before `next`
abbrev pub IsOldAt : View → ℕ → DeviceId → ℕ → Type 0
IsOldAt v next device t = epoch_time (earlier t v.records) device <ℤ pos next

-- its clock was last set from `next` on
abbrev pub IsNewAt : View → ℕ → DeviceId → ℕ → Type 0
IsNewAt v next device t = pos next ≤ℤ epoch_time (earlier t v.records) device

-- ---- what the records before an instant leave

-- the device's clock was last set for the cycle, within the cycle's hull
pub record IsSetFor (v : View) (cycle : ℕ) (hull : Hull) (next : ℕ) (device : DeviceId) : Type 0 where
  pub index : epoch_cycle (earlier next v.records) device ≡ cycle
  pub set_at : ℕ
  pub not_before : hull.least ≤ℤ pos set_at
  pub not_behind : set_at ≤ next
  pub since : set_at ≤ changed_at v.records device next
  pub anchored : IsAnchoredIn v.sizes (v.scenario.reading device) (adjustment_left v device next) cycle hull set_at

-- the device has had its correction point of the cycle, not before this instant: it was corrected then; or it had
-- joined, and its clock has come to the point, where it only clears
pub record HadPoint (v : View) (next : ℕ) (least : ℤ) (device : DeviceId) : Type 0 where
  pub how : ((is_corrected (earlier next v.records) device ≡ true)
      × (least ≤ℤ epoch_time (earlier next v.records) device))
      ⊎ ((is_corrected (earlier next v.records) device ≡ false)
      × (has_cleared v.scenario v.records device next next ≡ true))

-- the clock was set by the frame of the sound channel, whose base is `shared`, and by another frame of the hull, or by
-- the first alone
pub record IsSharedBy (v : View) (cycle : ℕ) (hull : Hull) (next : ℕ) (shared : ℤ) (device : DeviceId) : Type 0 where
  pub other : ℤ
  pub near : IsNearHull v.sizes hull other
  pub set_at : ℕ
  pub not_before : hull.least ≤ℤ pos set_at
  pub not_behind : set_at ≤ next
  pub anchored : IsAnchored v.sizes (pos (v.scenario.reading device set_at) +ℤ adjustment_left v device next) cycle
      ((shared +ℤ other) -ℤ pos (2 * v.sizes.path + 4 * v.sizes.grain + v.sizes.drift))
      ((shared +ℤ other) +ℤ pos (2 * v.sizes.path + v.sizes.drift + 1)) set_at

-- the synchronised end systems' clocks share the base of one frame
pub record AreShared (v : View) (cycle : ℕ) (hull : Hull) (next : ℕ) : Type 0 where
  pub shared : ℤ
  pub near : IsNearHull v.sizes hull shared
  pub each : (device : DeviceId) → IsGoodEnd v device → state_left v device next ≡ Synchronised
      → IsSharedBy v cycle hull next shared device

-- a correction point takes the common time from the device
abbrev pub IsClique : Why → Type 0
IsClique On = ⊥
IsClique Frame = ⊥
IsClique Correction = ⊥
IsClique SyncClique = Unit {0}
IsClique AsyncClique = Unit {0}

-- no device that is to keep the common time has lost it before `next`
abbrev pub NoneLost : View → ℕ → Type 0
NoneLost v next =
    (h : Happening) (device : DeviceId) (state : State) (cause : ℕ) (why : Why)
    → IsIn h v.records → time_of h < next → h.note.body ≡ notes.State device state cause why → IsClique why
    → IsFirm v device → ⊥

-- each dispatch of a good master before `next` is of a cycle up to this one, and lies in its hull
abbrev pub AreInHulls : View → ℕ → ℕ → Type 0
AreInHulls v cycle next =
    (h : Happening) (device : DeviceId) (of_cycle : ℕ) → IsDispatch v h device of_cycle → time_of h < next
    → (of_cycle ≤ cycle) × IsInHull v of_cycle (time_of h)

-- the hulls of the cycles up to this one are narrow
abbrev pub AreNarrow : View → ℕ → Type 0
AreNarrow v cycle = (c : ℕ) → c ≤ cycle → (hull : Hull) × (hull_of v c ≡ Some hull) × IsNarrow v.sizes hull

-- how the network stands when the block of cycle n is over
pub record Stands (v : View) (n : ℕ) : Type 0 where
  pub next : ℕ
  pub is_over : IsOverBefore v n next
  pub in_run : next ≤ v.until + 1
  pub hull : Hull
  pub is_hull : hull_of v n ≡ Some hull
  pub narrow : AreNarrow v n
  pub dispatches : AreInHulls v n next
  pub clocks : (device : DeviceId) → HasTimeAt v device next → IsSetFor v n hull next device
  pub points : (before : Hull) (c : ℕ) → n ≡ suc c → hull_of v c ≡ Some before → (device : DeviceId)
      → HasTimeAt v device next → HadPoint v next (first_correction v.sizes before) device
  pub shared : 1 ≤ n → AreShared v n hull next
  pub joined : (h : Happening) (device : DeviceId) → IsIn h v.records → is_joined_by device h.note.body ≡ true
      → IsGood v device → time_of h < next → cycle_in h ≤ n
  pub kept : NoneLost v next

-- the time lies in the block of the cycle behind n, and the network stood as it should when that of n was over
pub record IsInBlock (v : View) (n : ℕ) (t : ℕ) : Type 0 where
  pub before : Stands v n
  pub next : ℕ
  pub is_over : IsOverBefore v (suc n) next
  pub from : before.next ≤ t
  pub to : t < next
  pub in_run : t ≤ v.until
