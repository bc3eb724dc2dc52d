-- What the compression master of the sound channel sends.
use Rattle.std.specs.Prelude.{◌+ℤ◌, ◌≡◌, ◌≤ℤ◌, ◌≤◌, Some, pos, suc, ℕ}
use Rattle.{net_plan.specs.Places.IsCmOf, precision_law.specs.{Standings.IsNearHull, Views.{IsView, View}}}
use Rattle.net_plan.specs.declared.ids.DeviceId.{DeviceId}
use Rattle.tte_units.specs.declared.frames.{channel.Channel.Channel, members.Members.Members}
use Rattle.precision_law.specs.{Bases.{IsEmission, base_of}, Blocks.IsInBlock, Hulls.{Hull, first_correction, hull_of}}
use Rattle.{run_law.specs.records.Happenings.{Happening, time_of}, sync_state.specs.membership.Members.count_of}

-- the channel's compression master sends one frame of cycle n + 1 of enough masters, whose base lies in the hull
pub record SendsOn (v : View) (channel : Channel) (n : ℕ) (hull : Hull) : Type 0 where
  pub cm : DeviceId
  pub is_cm : IsCmOf v.scenario.network channel cm
  pub first : Happening
  pub members : Members
  pub emission : IsEmission v first cm (suc n) members
  pub enough : v.scenario.network.sync_threshold ≤ count_of members
  pub near : IsNearHull v.sizes hull (base_of v.sizes (time_of first))

-- the sound channel's does
abbrev pub SendsSo : View → ℕ → Hull → Type 0
SendsSo v n hull = SendsOn v v.channel n hull

-- once the correction points of the block may come, it has sent it
abbrev pub SoundMasterSends : Type 0
SoundMasterSends =
    (v : View) (n t : ℕ) (block : IsInBlock v n t) → IsView v
    → (first_correction v.sizes block.before.hull +ℤ pos v.sizes.reach) ≤ℤ pos t
    → (hull : Hull) × (hull_of v (suc n) ≡ Some hull) × SendsSo v n hull
