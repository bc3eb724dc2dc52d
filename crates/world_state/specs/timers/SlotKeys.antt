-- The keys of the timers of slots.
use Rattle.std.specs.Prelude.{◌%◌, ◌/◌, ◌<◌, ◌^◌, ◌≡◌, ◌⊎◌, List, length, slice_index_or, ℕ}
use Rattle.{device_rules.specs.least_key.Trees.no_key, world_state.specs.declared.timers.Timer.Timer}

-- the timer of the slot that has this key
abbrev pub timer_of : ℕ → Timer
timer_of key = record { time = key / 2 ^ 64; rank = key % 2 ^ 64 / 2 ^ 56 }

-- each slot has no key, or one of its own
abbrev pub AreKeys : List ℕ → Type 0
AreKeys keys = (slot : ℕ) → slot < length keys
    → (slice_index_or keys slot 0 ≡ no_key) ⊎ (slice_index_or keys slot 0 % 2 ^ 56 ≡ slot)
