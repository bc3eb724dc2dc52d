use Rattle.std.specs.Prelude.{◌≡◌, None, Option, Some, pos, unwrap_or, ℕ}
use Rattle.{sync_state.specs.declared.plan.SyncPlan.SyncPlan, tte_units.specs.declared.units.Units.Units}
use Rattle.sync_state.specs.declared.state.State.{State, TheVariants.{Integrating, Joining, Off, Synchronised}}

-- where a device stands: its state, its adjustment, the cycle of its next correction point, and the cycle by whose
-- frame it joined last
pub record Standing : Type 0 where
  pub plan : SyncPlan
  pub state : State
  pub adjustment : Units
  pub number : ℕ
  pub integrated : Option ℕ

-- the state at the beginning: synchronised with a start value, and else off
abbrev pub state_at_start : Option Units → State
state_at_start None = Off
state_at_start (Some start) = Synchronised

-- the adjustment at the beginning: the start value, or 0
abbrev pub adjustment_at_start : Option Units → Units
adjustment_at_start start = unwrap_or start (record { 0 = pos 0 })

-- where a device stands at the beginning: its first correction point is that of cycle 1
abbrev pub begun : SyncPlan → Option Units → Standing
begun plan start = record {
  plan = plan;
  state = state_at_start start;
  adjustment = adjustment_at_start start;
  number = 1;
  integrated = None;
}

-- the cycle of the next correction point, where the state has one
abbrev pub point_in : State → ℕ → Option ℕ
point_in Off n = None
point_in Integrating n = None
point_in Joining n = Some n
point_in Synchronised n = Some n

abbrev pub next_point : Standing → Option ℕ
next_point s = point_in s.state s.number

-- the next correction point is that of the cycle by whose frame the device is joining
pub record IsAtIntegration (s : Standing) : Type 0 where
  pub joining : s.state ≡ Joining
  pub cycle : s.integrated ≡ Some s.number
