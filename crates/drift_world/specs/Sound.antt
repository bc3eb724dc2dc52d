-- What a state keeps.
use Rattle.std.specs.{List.IsDistinct, Prelude.{◌+◌, ◌<◌, ◌^◌, ◌≡◌, ◌≤◌, All, List, length, map, nat_eq, ℕ}}
use Rattle.{drift_world.specs.declared.state.State.State, world_state.specs.declared.contents.Waits.Waits}
use Rattle.{net_plan.specs.declared.network.Network.Network, world_state.specs.Sound.{AreBelow, AreUnderWay, IsShort}}
use Rattle.world_state.specs.Giving.{HasItsOctets}

-- each device has a clock, which may be read from the present time on, a machine and a mark whether it is broken, and
-- each link its ways
pub record IsSized {C M : Type 0} (last_step : C → ℕ) (network : Network) (s : State C M) : Type 0 where
  pub clocks : length s.clocks.items ≡ length network.device
  pub machines : length s.machines.items ≡ length network.device
  pub broken : length s.broken.items ≡ length network.device
  pub ups : length s.ups.items ≡ length network.link
  pub downs : length s.downs.items ≡ length network.link
  pub stepped : All (λ (c : C). last_step c ≤ s.time) s.clocks.items
  pub limit : s.time ≤ 2 ^ 60
  pub shown : s.shown ≤ length network.device

-- no two of the frames that wait came by one record
abbrev pub AreApart : List Waits → Type 0
AreApart waiting = IsDistinct nat_eq (map (λ (w : Waits). w.cause) waiting)

-- the records that are settled may be given: the ways are short, a frame of the schedule that is dispatched has its
-- octets, and what is under way or waits has been put there by records given, of which each has one frame wait at most
pub record IsFit {C M : Type 0} (s : State C M) : Type 0 where
  pub ups : All IsShort s.ups.items
  pub downs : All IsShort s.downs.items
  pub octets : All (λ z. HasItsOctets z.body z.octets) s.settled.items
  pub below : AreBelow (s.given + 1) s.under_way.entries
  pub waits_below : All (λ w. w.cause < s.given + 1) s.waiting.items
  pub apart : AreApart s.waiting.items

-- so it is, with what is under way
pub record IsSound {C M : Type 0} (last_step : C → ℕ) (network : Network) (s : State C M) : Type 0 where
  pub sized : IsSized last_step network s
  pub under_way : AreUnderWay network s.under_way.entries
  pub fit : IsFit s
