-- Timers of slots, and the first.
use Rattle.run_law.specs.records.Order.{IsBefore}
use Rattle.std.specs.Prelude.{◌-◌, ◌<◌, ◌^◌, ◌∷◌, ◌≡◌, ◌≢◌, ◌≤◌, All, List, Some, [], length, slice_get, ℕ}
use Rattle.world_state.specs.declared.timers.{SlotTimer.SlotTimer, Timer.Timer}

-- the time of a slot that is never due
abbrev pub never : ℕ
never = 2 ^ 64 - 1

-- the timer of a slot that never was due
abbrev pub unset : Timer
unset = record { time = never; rank = 255 }

-- none is due before the time
abbrev pub AreFrom : ℕ → List Timer → Type 0
AreFrom time timers = All (λ (t : Timer). time ≤ t.time) timers

-- the slot has this timer, whose time is a true one; none has an earlier, or one of the same time and a lower rank, and
-- none below it has the same
pub record IsFirst (timers : List Timer) (due : SlotTimer) : Type 0 where
  pub inside : due.slot < length timers
  pub timer : slice_get timers due.slot ≡ Some (record { time = due.time; rank = due.rank })
  pub true_time : due.time ≢ never
  pub least : (slot : ℕ) (t : Timer) → slice_get timers slot ≡ Some t
      → IsBefore (t.time ∷ t.rank ∷ slot ∷ []) (due.time ∷ due.rank ∷ due.slot ∷ []) → ⊥
