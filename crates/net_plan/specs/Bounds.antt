use Rattle.std.specs.{List.sum_by, Option.option_map_or}
use Rattle.std.specs.Prelude.{◌*◌, ◌+◌, ◌-◌, ◌/◌, ◌^◌, ◌≡◌, ◌≤◌, ◌⊎◌, List, length, pos, ℕ, ℤ}
use Rattle.{net_plan.specs.Paths.{IsPath, IsTree}, tte_units.specs.{Amount.amount, Slip.slip_of}}
use Rattle.net_plan.specs.{Places.{IsDeviceOf, link_at}, declared.ids.{DeviceId.DeviceId, LinkId.LinkId}}
use Rattle.{net_plan.specs.declared.network.Network.Network, tte_units.specs.declared.frames.channel.Channel.Channel}

-- gamma: how far two clocks drift apart over two cycles, with the roundings of four readings of
-- one grain each
abbrev pub gamma_of : Network → ℕ
gamma_of network = slip_of network.rho (2 * amount network.cycle) + 4 * (amount network.grain - 1)

-- how far the wire delay of the link varies
abbrev pub jitter_of : Network → LinkId → ℕ
jitter_of network link = option_map_or (λ l. amount l.jitter) (link_at network link) 0

-- how far the wire delays of these links vary together
abbrev pub jitter_on : Network → List LinkId → ℕ
jitter_on network links = sum_by (jitter_of network) links

-- m is the greatest of the numbers with the property, or 0 where there are none
pub record IsGreatest (Has : ℕ → Type 0) (m : ℕ) : Type 0 where
  pub most : (n : ℕ) → Has n → n ≤ m
  pub reached : (m ≡ 0) ⊎ Has m

-- n is the measure of a path of this device on this channel
abbrev pub IsOfPathFrom : Network → Channel → DeviceId → (List LinkId → ℕ) → ℕ → Type 0
IsOfPathFrom network channel device measure n =
    (links : List LinkId)
    × IsDeviceOf network channel device × IsPath network channel device links × (measure links ≡ n)

-- n is the measure of a path of some device on this channel
abbrev pub IsOfPathOn : Network → Channel → (List LinkId → ℕ) → ℕ → Type 0
IsOfPathOn network channel measure n = (device : DeviceId) × IsOfPathFrom network channel device measure n

-- n is the measure of a path of some device on some channel
abbrev pub IsOfPath : Network → (List LinkId → ℕ) → ℕ → Type 0
IsOfPath network measure n = (channel : Channel) × IsOfPathOn network channel measure n

-- the jitter of a path, the drift of two clocks over the greatest delay, and the roundings of
-- eight readings for each link and for two more
abbrev pub beta_at : Network → ℕ → ℕ → ℕ
beta_at network jitter links =
    jitter + 4 * network.rho * amount network.dmax / 10 ^ 9 + 8 * amount network.grain * (links + 2)

-- beta: how far the time from a dispatch to its permanence may be off, over the longest path
pub record IsBeta (network : Network) (beta : ℤ) : Type 0 where
  pub jitter : ℕ
  pub links : ℕ
  pub jitter_greatest : IsGreatest (IsOfPath network (jitter_on network)) jitter
  pub links_greatest : IsGreatest (IsOfPath network length) links
  pub value : beta ≡ pos (beta_at network jitter links)

-- a network has no two betas
abbrev pub BetaIsUnique : Type 0
BetaIsUnique = (network : Network) (beta other : ℤ) → IsBeta network beta → IsBeta network other → beta ≡ other

-- a network of trees has a beta
abbrev pub BetaExists : Type 0
BetaExists = (network : Network) → IsTree network → (beta : ℤ) × IsBeta network beta
