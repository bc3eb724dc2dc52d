-- The least offset of a row behind others.
use Rattle.std.specs.{List.All, Prelude.{◌%◌, ◌+◌, ◌<◌, ◌^◌, ◌≡◌, ◌≤◌, List, min, ℕ}}
use Rattle.lens_plan.specs.declared.places.offsets.{MessageRow.MessageRow, Taken.Taken}

-- the two rows go by one port, and occur in one cycle: their phases are equal modulo the smaller period
pub record Meets (one other : MessageRow) : Type 0 where
  pub link : one.link ≡ other.link
  pub way : one.way ≡ other.way
  pub phase : one.phase % min one.period other.period ≡ other.phase % min one.period other.period

-- when the row's frame has left the port, and the clocks may have drifted
abbrev pub ends_at : ℕ → Taken → ℕ
ends_at gamma row = row.offset + row.slot.port + gamma

-- the row, dispatched at the offset, hits the other: neither has left the port, with gamma, when the other comes
pub record Hits (gamma : ℕ) (slot : MessageRow) (offset : ℕ) (other : Taken) : Type 0 where
  pub meets : Meets slot other.slot
  pub ahead : other.offset < offset + slot.port + gamma
  pub behind : offset < ends_at gamma other

-- it hits none of these
abbrev pub StandsClear : ℕ → MessageRow → ℕ → List Taken → Type 0
StandsClear gamma slot offset rows = All (λ row. ¬ Hits gamma slot offset row) rows

-- the least offset from this one on at which it hits none of these
pub record IsLeastOffset (gamma : ℕ) (slot : MessageRow) (from : ℕ) (rows : List Taken) (offset : ℕ) : Type 0 where
  pub not_before : from ≤ offset
  pub clear : StandsClear gamma slot offset rows
  pub least : (other : ℕ) → from ≤ other → StandsClear gamma slot other rows → offset ≤ other

-- one of these that it hits ends so
pub record IsHit (gamma : ℕ) (slot : MessageRow) (offset : ℕ) (rows : List Taken) (end : ℕ) : Type 0 where
  pub later : offset < end
  pub none_before : (other : ℕ) → offset ≤ other → other < end → StandsClear gamma slot other rows → ⊥

-- the row's numbers are those of a row of an accepted network
pub record AreSmall (row : Taken) : Type 0 where
  pub period : 1 ≤ row.slot.period
  pub port : row.slot.port ≤ 2 ^ 40
  pub offset : row.offset ≤ 2 ^ 40
