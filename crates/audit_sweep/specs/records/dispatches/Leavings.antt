-- When the frames of a row leave, by the local clock.
use Rattle.std.specs.Prelude.{if◌then◌else◌, ◌%◌, ◌*◌, ◌+◌, ◌==◌, ◌^◌, ◌≡◌, ◌≤◌, MatchOption, Option, pos, ℕ}
use Rattle.audit_devices.specs.clocks.Finding.{value_in}
use Rattle.{audit_devices.specs.declared.clocks.finding.Series.Series, net_plan.specs.declared.network.Network.Network}
use Rattle.{audit_sweep.specs.declared.records.dispatches.leaving.LeavingRow.LeavingRow, tte_units.specs.Amount.amount}

-- the row's numbers are those of a network in range
pub record IsRowFit (row : LeavingRow) : Type 0 where
  pub period_least : 1 ≤ row.period
  pub period_most : row.period ≤ 64
  pub phase : row.phase ≤ 63
  pub offset : row.offset ≤ 2 ^ 40

-- the row's virtual link occurs in the cycle
pub record Occurs (row : LeavingRow) (cycle : ℕ) : Type 0 where
  pub begun : 1 ≤ cycle
  pub in_phase : cycle % row.period ≡ row.phase

-- the first cycle in which it does, where it does in any
abbrev pub first_cycle : LeavingRow → ℕ
first_cycle row = if row.phase == 0 then row.period else row.phase

-- the cycle of this number, from 0, in which it does
abbrev pub cycle_of : LeavingRow → ℕ → ℕ
cycle_of row n = first_cycle row + n * row.period

-- the local value at which the row's frame of the cycle leaves
abbrev pub leaving_value : Network → LeavingRow → ℕ → ℕ
leaving_value network row cycle = cycle * amount network.cycle + row.offset

-- the values of the series are those at which the row's frames leave in the cycles in which its virtual link occurs
pub record AreLeavings (network : Network) (row : LeavingRow) (series : Series) : Type 0 where
  pub values : (n : ℕ) → value_in series n ≡ pos (leaving_value network row (cycle_of row n))
  pub occur : (n : ℕ) → Occurs row (cycle_of row n)
  pub all : (cycle : ℕ) → Occurs row cycle → (n : ℕ) × (cycle ≡ cycle_of row n)

-- the same, or there are none
abbrev pub AreLeavingsOrNone : Network → LeavingRow → Option Series → Type 0
AreLeavingsOrNone network row result = MatchOption result ((cycle : ℕ) → Occurs row cycle → ⊥) (AreLeavings network row)
