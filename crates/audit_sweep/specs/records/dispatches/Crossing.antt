-- When a clock crosses one value, where no record changes what is shown.
use Rattle.std.specs.Prelude.{if◌then◌else◌, ◌<◌, ◌==◌, ◌≡◌, ◌≤◌, MatchOption, None, Option, Some, ℕ, ℤ}
use Rattle.audit_devices.specs.{Showing.Shown, clocks.Finding.CrossesAt, declared.clocks.finding.Crossed.Crossed}

-- when the value is crossed, if it is the first of its series
abbrev pub first_time : Option Crossed → Option ℕ
first_time None = None
first_time (Some crossed) = if crossed.number == 0 then Some crossed.time else None

-- at this time, later than `after`, up to `until`, and at no other such time the clock crosses the value
pub record IsCrossing (reading : ℕ → ℕ) (shown : Shown) (value : ℤ) (after until t : ℕ) : Type 0 where
  pub later : after < t
  pub timely : t ≤ until
  pub crosses : CrossesAt reading shown value t
  pub only : (other : ℕ) → after < other → other ≤ until → CrossesAt reading shown value other → other ≡ t

-- there is such a time, or there is none
abbrev pub IsCrossingOrNone : (ℕ → ℕ) → Shown → ℤ → ℕ → ℕ → Option ℕ → Type 0
IsCrossingOrNone reading shown value after until result =
    MatchOption result ((t : ℕ) → after < t → t ≤ until → CrossesAt reading shown value t → ⊥)
    (IsCrossing reading shown value after until)
