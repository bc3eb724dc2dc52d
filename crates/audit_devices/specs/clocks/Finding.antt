-- When a clock next crosses one of the values of a series.
use Rattle.std.specs.Prelude.{◌*◌, ◌+ℤ◌, ◌+◌, ◌-◌, ◌<◌, ◌^◌, ◌≤ℤ◌, ◌≤◌, MatchOption, Option, pos, ℕ, ℤ}
use Rattle.{audit_devices.specs.Showing.Shown, device_rules.specs.Widths.IsFar}
use Rattle.audit_devices.specs.{clocks.Crossing.HasCrossed, declared.clocks.finding.{Crossed.Crossed, Series.Series}}

-- the steps are positive, and the first value is not too far
pub record IsSeries (series : Series) : Type 0 where
  pub step : 1 ≤ series.step
  pub first : IsFar series.first

-- the value of this number in the series
abbrev pub value_in : Series → ℕ → ℤ
value_in series n = series.first +ℤ pos (n * series.step)

-- at the time the clock of these readings crosses the value, where no record changes what is shown
abbrev pub CrossesAt : (ℕ → ℕ) → Shown → ℤ → ℕ → Type 0
CrossesAt reading shown value t =
    HasCrossed shown.at_change (pos (reading (t - 1)) +ℤ shown.adjustment) (pos (reading t) +ℤ shown.adjustment) value

-- it crosses no value of the series at a time later than the first and earlier than the second
abbrev pub NoneCrossed : (ℕ → ℕ) → Shown → Series → ℕ → ℕ → Type 0
NoneCrossed reading shown series after before =
    (t n : ℕ) → after < t → t < before → CrossesAt reading shown (value_in series n) t → ⊥

-- the least time later than `after`, up to `until`, at which it crosses one, and the number of one that it then
-- crosses: none of a lower number is crossed from then on
pub record IsNextCrossing (reading : ℕ → ℕ) (shown : Shown) (series : Series) (after until : ℕ) (crossed : Crossed)
    : Type 0 where
  pub later : after < crossed.time
  pub timely : crossed.time ≤ until
  pub crosses : CrossesAt reading shown (value_in series crossed.number) crossed.time
  pub none_before : NoneCrossed reading shown series after crossed.time
  pub least : (t n : ℕ) → after < t → CrossesAt reading shown (value_in series n) t → crossed.number ≤ n
  pub near : value_in series crossed.number ≤ℤ pos (2 ^ 83)

-- the next crossing, or none where there is none
abbrev pub IsNextOrNone : (ℕ → ℕ) → Shown → Series → ℕ → ℕ → Option Crossed → Type 0
IsNextOrNone reading shown series after until result =
    MatchOption result (NoneCrossed reading shown series after (until + 1))
    (IsNextCrossing reading shown series after until)
