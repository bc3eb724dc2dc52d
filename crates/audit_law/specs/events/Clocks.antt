-- A clock, and what the steps of its rate make of it.
use Rattle.std.specs.{List.{All, Sorted.IsNonDecreasingBy}, Prelude.{◌<ℤ◌, ◌^◌, ◌∷◌, ◌≡◌, ◌≤ℤ◌, ◌≤◌, List, [], pos, ℕ, ℤ, ⊤}}
use Rattle.drift_clock.specs.{RateSteps.RateStep, Segment.{Segment, segment_reading, stepped_segment}}
use Rattle.audit_law.specs.{declared.events.settings.Setting.Setting, events.Settings.{change_to, value_at}}

-- what each of the steps makes of the clock, from its time on
abbrev pub clocks_after : Segment → List RateStep → List (Setting Segment)
clocks_after clock [] = []
clocks_after clock (s ∷ steps) =
    change_to s.at (stepped_segment clock s.at s.rate) ∷ clocks_after (stepped_segment clock s.at s.rate) steps

-- from this time on the clock can be read
pub record IsReadable (change : Setting Segment) : Type 0 where
  pub stepped : change.value.at ≤ change.from
  pub limit : change.from ≤ 2 ^ 60

-- what it reads then
abbrev pub reading_then : Setting Segment → ℕ
reading_then change = segment_reading change.value change.from

-- then it reads less than the goal
abbrev pub IsShortOf : ℤ → Setting Segment → Type 0
IsShortOf goal change = pos (reading_then change) <ℤ goal

-- then it reads at least the goal
abbrev pub HasReached : ℤ → Setting Segment → Type 0
HasReached goal change = goal ≤ℤ pos (reading_then change)

-- each clock reads on, when it is set, from what the one before it reads then
abbrev pub GoOn : Segment → List (Setting Segment) → Type 0
GoOn clock [] = ⊤
GoOn clock (c ∷ changes) = (reading_then c ≡ segment_reading clock c.from) × GoOn c.value changes

-- a clock at its beginning, then as the steps of its rate leave it, in the order of time
pub record AreClocks (initial : Segment) (changes : List (Setting Segment)) : Type 0 where
  pub begins : initial.at ≡ 0
  pub in_order : IsNonDecreasingBy (λ c. c.from) changes
  pub each : All IsReadable changes
  pub go_on : GoOn initial changes

-- what the clocks read at a time
abbrev pub clocks_reading : Segment → List (Setting Segment) → ℕ → ℕ
clocks_reading initial changes time = segment_reading (value_at initial changes time) time
