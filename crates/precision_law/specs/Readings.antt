-- How the clocks of a lawful scenario read.
use Rattle.std.specs.Prelude.{◌*◌, ◌+ℤ◌, ◌+◌, ◌-◌, ◌<ℤ◌, ◌<◌, ◌≡◌, ◌≤ℤ◌, ◌≤◌, ◌⊎◌, pos, ℕ, ℤ}
use Rattle.{drift_clock.specs.Reach.IsReach, run_law.specs.{law.FirstLaws.IsLawful, scenario.Scenarios.Scenario}}
use Rattle.{net_plan.specs.declared.ids.DeviceId.DeviceId, precision_law.specs.Sizes.{Sizes, sizes_of}}

-- a clock that begins at 0, never falls, drifts little over two cycles, and goes on by little in one unit
pub record IsSteady (n : Sizes) (reading : ℕ → ℕ) : Type 0 where
  pub begins : reading 0 ≡ 0
  pub never_falls : (s t : ℕ) → s ≤ t → reading s ≤ reading t
  pub fast : (s t : ℕ) → s ≤ t → t ≤ s + 2 * n.cycle → reading t + s ≤ reading s + t + n.drift
  pub slow : (s t : ℕ) → s ≤ t → t ≤ s + 2 * n.cycle → reading s + t ≤ reading t + s + n.drift
  pub steps : (t : ℕ) → reading (t + 1) ≤ reading t + 2 * n.grain + 1

-- the clocks of a lawful scenario are such
abbrev pub ClocksAreSteady : Type 0
ClocksAreSteady =
    (s : Scenario) (path : ℕ) (device : DeviceId) → IsLawful s
    → IsSteady (sizes_of s.network path) (s.reading device)

-- where a reading goes on by less than two cycles, but for a drift, less than two cycles pass
abbrev pub ShortByReading : Type 0
ShortByReading =
    (n : Sizes) (reading : ℕ → ℕ) (s t : ℕ) → IsSteady n reading → s ≤ t → reading t + n.drift < reading s + 2 * n.cycle
    → t < s + 2 * n.cycle

-- a value is first read at t, behind `from`: not before, and at most two grains beyond
pub record IsFirstRead (n : Sizes) (reading : ℕ → ℕ) (from : ℕ) (v : ℤ) (t : ℕ) : Type 0 where
  pub after : from < t
  pub before : pos (reading (t - 1)) <ℤ v
  pub least : v ≤ℤ pos (reading t)
  pub most : pos (reading t) ≤ℤ (v +ℤ pos (2 * n.grain))

-- a value above the reading of `from` is reached sharply
abbrev pub ReachIsSharp : Type 0
ReachIsSharp =
    (n : Sizes) (reading : ℕ → ℕ) (from : ℕ) (v : ℤ) (t : ℕ) → IsSteady n reading → pos (reading from) <ℤ v
    → IsReach reading (pos from) v (pos t) → IsFirstRead n reading from v t

-- what is read at t and was not at x was reached between
abbrev pub ReachIsThere : Type 0
ReachIsThere =
    (n : Sizes) (reading : ℕ → ℕ) (from x : ℕ) (v : ℤ) (t : ℕ) → IsSteady n reading → from ≤ x → x < t
    → pos (reading x) <ℤ v → v ≤ℤ pos (reading t)
    → (u : ℕ) × (x < u) × (u ≤ t) × IsReach reading (pos from) v (pos u)

-- a frame whose point is not below the reading of its arrival is permanent sharply: at its arrival only where this
-- reads the point
pub record IsRipe (n : Sizes) (reading : ℕ → ℕ) (arrived : ℕ) (point : ℤ) (q : ℕ) : Type 0 where
  pub after : arrived ≤ q
  pub least : point ≤ℤ pos (reading q)
  pub most : pos (reading q) ≤ℤ (point +ℤ pos (2 * n.grain))
  pub before : (pos (reading (q - 1)) <ℤ point) ⊎ (pos (reading q) ≡ point)

-- where a reading reaches the point, the frame is permanent so
abbrev pub PermanenceIsSharp : Type 0
PermanenceIsSharp =
    (n : Sizes) (reading : ℕ → ℕ) (arrived : ℕ) (point : ℤ) (q : ℕ) → IsSteady n reading
    → pos (reading arrived) ≤ℤ point
    → IsReach reading (pos arrived) point (pos q) → IsRipe n reading arrived point q

-- of two frames the one that is permanent earlier has no later point
abbrev pub RipeInOrder : Type 0
RipeInOrder =
    (n : Sizes) (reading : ℕ → ℕ) (a b : ℕ) (p r : ℤ) (q u : ℕ) → IsSteady n reading → IsRipe n reading a p q
    → IsRipe n reading b r u → q < u
    → p ≤ℤ r
