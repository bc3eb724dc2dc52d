-- Where a device stands when a frame comes to it.
use Rattle.std.specs.Int.{int_div_euclid, int_rem_euclid}
use Rattle.std.specs.Prelude.{◌&&◌, ◌+ℤ◌, Bool, List, Option, find, negsuc, not, option_map, pos, ℕ, ℤ}
use Rattle.net_plan.specs.declared.{ids.DeviceId.DeviceId, network.Network.Network}
use Rattle.sync_state.specs.declared.state.State.{State}
use Rattle.run_law.specs.{declared.judgement.Reason.Reason, device.States.{adjustment_before, is_off, state_before}}
use Rattle.run_law.specs.{records.Happenings.Happening, scenario.Scenarios.{Scenario, is_broken}}

-- is it on and not broken, its state, its reading and its adjustment
pub record Standpoint : Type 0 where
  pub takes_part : Bool
  pub state : State
  pub reading : ℕ
  pub adjustment : ℤ

-- where the device stands when a frame arrives at the time: after the records of earlier times and the events of
-- this one
abbrev pub standpoint : Scenario → List Happening → DeviceId → ℕ → Standpoint
standpoint s hs device t = record {
  takes_part = not (is_off (state_before s hs device t)) && not (is_broken s device t);
  state = state_before s hs device t;
  reading = s.reading device t;
  adjustment = (adjustment_before s hs device t).0;
}

-- what its local clock shows
abbrev pub clock_of : Standpoint → ℤ
clock_of at = pos at.reading +ℤ at.adjustment

-- a number that is not negative, and else 0
abbrev pub natural : ℤ → ℕ
natural (pos n) = n
natural (negsuc n) = 0

-- the cycle of a local value, which is 0 before the first cycle
abbrev pub cycle_at : Network → ℤ → ℕ
cycle_at network value = natural (int_div_euclid value network.cycle.0)

-- the place of a local value in its cycle
abbrev pub offset_in_cycle : Network → ℤ → ℤ
offset_in_cycle network value = int_rem_euclid value network.cycle.0

-- the first of these reasons whose test holds
abbrev pub first_reason : List (Bool × Reason) → Option Reason
first_reason tests = option_map (λ test. test.1) (find (λ test. test.0) tests)
