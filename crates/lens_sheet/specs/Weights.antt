-- What the rules of a network's times weigh.
use Rattle.std.specs.Prelude.{◌*◌, ◌^◌, ◌≤◌, length, ℕ}
use Rattle.lens_sheet.specs.declared.weights.Weights.{Weights}
use Rattle.lens_slack.specs.least.Parts.{IsLongest, IsPortTimeOf, IsStartOf}
use Rattle.net_plan.specs.{Bounds.{IsGreatest, IsOfPath, beta_at, jitter_on}, declared.network.Network.Network}

-- the greatest sum of jitters and the greatest count of links of a path, the longest delay of one, the greatest start
-- of a device, and how long a protocol control frame occupies the slowest port
pub record AreWeights (network : Network) (w : Weights) : Type 0 where
  pub jitter : IsGreatest (IsOfPath network (jitter_on network)) w.jitter
  pub links : IsGreatest (IsOfPath network length) w.links
  pub delay : IsLongest network w.delay
  pub start : IsGreatest (IsStartOf network) w.start
  pub control : IsGreatest (IsPortTimeOf network) w.control

-- beta, by its parts
abbrev pub beta_of : Network → Weights → ℕ
beta_of network w = beta_at network w.jitter w.links

-- the weights are so small that sums of them fit in 64 bits
pub record AreSmall (w : Weights) : Type 0 where
  pub jitter : w.jitter ≤ 2 ^ 44
  pub links : w.links ≤ 8
  pub delay : w.delay ≤ 24 * 2 ^ 40
  pub start : w.start ≤ 2 ^ 40
  pub control : w.control ≤ 2 ^ 30
