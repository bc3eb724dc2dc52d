-- How a device hears a compressed frame.
pub use Rattle.sync_state.specs.Integration.{last_cycle}
use Rattle.std.specs.Prelude.{if◌then◌else◌, ◌&&◌, ◌+ℤ◌, ◌-ℤ◌, Bool, int_le, nat_le, ℕ, ℤ}
use Rattle.run_law.specs.declared.judgement.Judgement.{Judgement, TheVariants.{Ignored, Integrates, Outside, Within}}
use Rattle.sync_state.specs.{Plan.expected_at, membership.Members.count_of}
use Rattle.{sync_state.specs.declared.plan.SyncPlan.SyncPlan, tte_units.specs.declared.frames.members.Members.Members}
use Rattle.sync_state.specs.declared.state.State.{State, TheVariants.{Integrating, Joining, Off, Synchronised}}

-- is the local value where the frame of the cycle is expected, up to the precision?
abbrev pub is_in_schedule : SyncPlan → ℤ → ℕ → ℤ → Bool
is_in_schedule plan precision cycle value =
    int_le (expected_at plan cycle -ℤ precision) value && int_le value (expected_at plan cycle +ℤ precision)

-- how a device that has the common time hears a frame
abbrev pub heard_by_schedule : Bool → Judgement
heard_by_schedule in_time = if in_time then Within else Outside

-- how a device that looks for it does
abbrev pub heard_enough : Bool → Judgement
heard_enough enough = if enough then Integrates else Ignored

-- how a device in this state and with this adjustment hears a frame of a cycle and members at a point
abbrev pub heard_as : SyncPlan → ℤ → State → ℤ → ℤ → ℕ → Members → Judgement
heard_as plan precision Off adjustment point cycle members = Ignored
heard_as plan precision Integrating adjustment point cycle members =
    heard_enough (nat_le plan.threshold (count_of members) && nat_le cycle last_cycle)
heard_as plan precision Joining adjustment point cycle members =
    heard_by_schedule (nat_le cycle last_cycle && is_in_schedule plan precision cycle (point +ℤ adjustment))
heard_as plan precision Synchronised adjustment point cycle members =
    heard_by_schedule (nat_le cycle last_cycle && is_in_schedule plan precision cycle (point +ℤ adjustment))
