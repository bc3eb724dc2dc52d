-- What comes first of what is under way.
use Rattle.std.specs.Prelude.{List, ℕ}
use Rattle.run_law.specs.{records.{Happenings.Happening, Order.IsBefore}, scenario.Scenarios.Scenario}
use Rattle.world_law.specs.source.Sources.{IsSource}

-- a source that is not worked off, that is, not before the mark, is not before the place
abbrev pub NoSourceBefore : Scenario → List Happening → List ℕ → List ℕ → Type 0
NoSourceBefore s hs mark p = (w : List ℕ) → IsSource s hs w → (IsBefore w mark → ⊥) → IsBefore w p → ⊥
