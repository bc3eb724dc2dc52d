-- What comes first of what a state has under way, by its own parts.
use Rattle.std.specs.Prelude.{if◌then◌else◌, ◌*◌, ◌+◌, ◌-◌, ◌<◌, ◌^◌, ◌∷◌, ◌≡◌, ◌≤ℤ◌, ◌≤◌, ◌⊎◌, IfNone, IfSome}
use Rattle.std.specs.Prelude.{List, Option, Some, [], length, nat_lt, pos, slice_get, true, ℕ}
use Rattle.net_plan.specs.declared.{ids.DeviceId.DeviceId, network.Network.Network}
use Rattle.run_law.specs.{machines.{Nodes.Node, Tasks.{IsPending, Task, reading_for}}, records.Order.{IsBefore, IsIn}}
use Rattle.world_law.specs.{source.Sources.task_place, world.World.ripe_place}
use Rattle.world_state.specs.{queue.Places.{IsFirst, numbers_of}, declared.queue.{Entry.Entry, DueAt.DueAt}}
use Rattle.world_state.specs.{Keeping.{Meaning, keeps}, Views.waiting_as, declared.contents.{Content.Content, Waits.Waits}}
use Rattle.world_state.specs.declared.kept.Kept.{Kept}
use Rattle.world_state.specs.{timers.Times.{AreFrom, IsFirst as IsFirstDue, never}, declared.timers.SlotTimer.SlotTimer}
use Rattle.drift_world.specs.{Stepping.IsTimed, declared.state.State.State}

-- the timers of all devices are right, and none is past
pub record AreTimed {C M : Type 0} (reading : C → ℕ → ℕ) (stands : Meaning M) (network : Network) (state : State C M)
    : Type 0 where
  pub sized : length state.timers ≡ 2 * length network.device
  pub each : (device : DeviceId) → device.0 < length network.device
      → IsTimed reading stands network state.timers state device
  pub later : AreFrom state.time state.timers

-- the device of a slot, among so many: each has one for the frames that wait at it, and one for what it does by itself
abbrev pub device_of_slot : ℕ → ℕ → ℕ
device_of_slot devices slot = if nat_lt slot devices then slot else slot - devices

-- where what a slot is for is due
abbrev pub due_place : ℕ → SlotTimer → List ℕ
due_place devices due = due.time ∷ due.rank ∷ device_of_slot devices due.slot ∷ []

-- these are the place of the first that is under way, and the first timer, where there are such
pub record AreFirsts {C M : Type 0} (state : State C M) (place : Option DueAt) (due : Option SlotTimer) : Type 0 where
  pub some_place : IfSome place (λ p. IsFirst state.under_way.entries p)
  pub no_place : IfNone place (state.under_way.entries ≡ [])
  pub some_due : IfSome due (λ d. IsFirstDue state.timers d)
  pub no_due : IfNone due (AreFrom never state.timers)

-- the place is that of a frame that waits at the device of the timer and is permanent by it; none such is before it
pub record IsRipePlace {C M : Type 0} (reading : C → ℕ
    → ℕ) (network : Network) (state : State C M) (due : SlotTimer) (p : List ℕ) : Type 0 where
  pub there : due.slot < length network.device
  pub one : Waits
  pub at : one.device.0 ≡ due.slot
  pub place : p ≡ ripe_place due.time (waiting_as one)
  pub none : (w : Waits) (clock : C) → IsIn w state.waiting.items → w.device.0 ≡ due.slot
      → slice_get state.clocks.items due.slot ≡ Some clock → w.point.0 ≤ℤ pos (reading clock due.time)
      → IsBefore (ripe_place due.time (waiting_as w)) p → ⊥

-- none of them is before the place, nor what befell, nor the clocks at the end; and the place is in time
pub record AreNotBefore {C M : Type 0} (reading : C → ℕ
    → ℕ) (network : Network) (state : State C M) (place : Option DueAt) (due : Option SlotTimer)
    (p : List ℕ) : Type 0 where
  pub in_time : IsBefore ((2 ^ 60 + 1) ∷ []) p → ⊥
  pub under_way : IfSome place (λ q. IsBefore (numbers_of q) p → ⊥)
  pub timers : IfSome due (λ d. (IsBefore (due_place (length network.device) d) p → ⊥)
      ⊎ IsRipePlace reading network state d p)
  pub befell : state.pending ≡ true → IsBefore (state.time ∷ 2 ∷ []) p → ⊥
  pub clocks : state.ended ≡ true → state.shown < length network.device
      → IsBefore (state.time ∷ 14 ∷ state.shown ∷ []) p → ⊥

-- nothing that the state has under way is before the place, by its own parts
pub record HasNothingBefore {C M : Type 0} (reading : C → ℕ → ℕ) (stands : Meaning M) (network : Network)
    (state : State C M) (p : List ℕ) : Type 0 where
  pub under_way : (e : Entry Content) → IsIn e state.under_way.entries → IsBefore (numbers_of e.place) p → ⊥
  pub waiting : (w : Waits) (clock : C) → IsIn w state.waiting.items
      → slice_get state.clocks.items w.device.0 ≡ Some clock → (t : ℕ)
      → state.time ≤ t → w.point.0 ≤ℤ pos (reading clock t) → IsBefore (ripe_place t (waiting_as w)) p → ⊥
  pub acting : (device : DeviceId) (machine : Kept M) (clock : C) (node : Node) (task : Task)
      → slice_get state.machines.items device.0 ≡ Some machine → slice_get state.clocks.items device.0 ≡ Some clock
      → keeps stands machine network device node → IsPending network device node task → (t : ℕ) → state.time ≤ t
      → reading_for network node task ≤ℤ pos (reading clock t) → IsBefore (task_place network t device task) p → ⊥
  pub befell : state.pending ≡ true → IsBefore (state.time ∷ 2 ∷ []) p → ⊥
  pub clocks : state.ended ≡ true → state.shown < length network.device
      → IsBefore (state.time ∷ 14 ∷ state.shown ∷ []) p → ⊥
