use Rattle.std.specs.Prelude.{◌+◌, ◌-ℤ◌, ◌^◌, ◌≡◌, ◌≤◌, ℕ}
use Rattle.sync_state.specs.{Plan.expected_at, membership.Members.count_of}
use Rattle.tte_units.specs.declared.{frames.pcf.Pcf.Pcf, units.Units.Units}
use Rattle.sync_state.specs.{Standing.Standing, declared.{answers.Joined.Joined, plan.SyncPlan.SyncPlan}}
use Rattle.sync_state.specs.declared.state.State.TheVariants.{Integrating}

-- the last cycle of a frame that is used
abbrev pub last_cycle : ℕ
last_cycle = 2 ^ 20 + 2 ^ 17

-- the frame integrates the device
pub record Integrates (s : Standing) (frame : Pcf) : Type 0 where
  pub integrating : s.state ≡ Integrating
  pub enough : s.plan.threshold ≤ count_of frame.members
  pub in_time : frame.cycle ≤ last_cycle

-- the device takes the frame's cycle, and the adjustment by which its clock shows at the point what is expected there
abbrev pub joined_by : SyncPlan → Pcf → Units → Joined
joined_by plan frame point = record {
  cycle = frame.cycle;
  adjustment = record { 0 = expected_at plan frame.cycle -ℤ point.0 };
}
