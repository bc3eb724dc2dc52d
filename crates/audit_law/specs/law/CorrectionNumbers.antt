-- Which correction point of a device is next in an audit: by the points that its clock has come to, not by the records
-- that show them.
use Rattle.std.specs.{Int.int_div_euclid, List.after_last, Prelude.{if◌then◌else◌, nat_lt, pos, ℕ, ℤ}}
use Rattle.std.specs.Prelude.{◌&&◌, ◌+ℤ◌, ◌+◌, ◌-ℤ◌, ◌-◌, ◌==◌, ◌≡◌, List, Some, false, filter, filter_map}
use Rattle.sync_state.specs.membership.{Hearing.Hearing, Summary.{Summarizes, Summary}}
use Rattle.net_plan.specs.declared.ids.DeviceId.{DeviceId}
use Rattle.run_law.specs.control.Corrections.{correction_value, hearing_by, integration_cycle, recorded_cycle}
use Rattle.run_law.specs.device.{LocalClocks.{Reaches, changes_adjustment, had_come}, Standpoints.natural}
use Rattle.run_law.specs.{device.States.{adjustment_before, state_before}, scenario.Devices.plan_of}
use Rattle.run_law.specs.{records.Happenings.{Happening, earlier, time_of}, scenario.Scenarios.{Scenario, is_broken}}
use Rattle.sync_state.specs.{Standing.{Standing, next_point}, Verdicts.HasVerdict, declared.answers.Verdict.Verdict}

-- what the local clock shows at the time `at`, by the adjustment that the records of times before t leave
abbrev pub shown_at : Scenario → List Happening → DeviceId → ℕ → ℕ → ℤ
shown_at s hs device t at = pos (s.reading device at) +ℤ (adjustment_before s hs device t).0

-- how many correction points the clock has come to before the time `by`, since the last change of its adjustment before
-- t: none where that change has passed the first
abbrev pub points_come : Scenario → List Happening → DeviceId → ℕ → ℕ → ℕ
points_come s hs device t by =
    let first = correction_value s.network (recorded_cycle (earlier t hs) device) in
    if had_come s hs device first t by
    then natural (int_div_euclid (shown_at s hs device t (by - 1) -ℤ first) s.network.cycle.0) + 1
    else 0

-- the cycle of the device's next correction point
abbrev pub next_number : Scenario → List Happening → DeviceId → ℕ → ℕ
next_number s hs device t = recorded_cycle (earlier t hs) device + points_come s hs device t t

-- where the device's synchronisation stands before this time
abbrev pub standing_at : Scenario → List Happening → DeviceId → ℕ → Standing
standing_at s hs device t = record {
  plan = plan_of s.network device;
  state = state_before s hs device t;
  adjustment = adjustment_before s hs device t;
  number = next_number s hs device t;
  integrated = integration_cycle (earlier t hs) device;
}

-- what the device has heard since its last correction point before this time, this time included
abbrev pub heard_since_point : Scenario → List Happening → DeviceId → ℕ → List Hearing
heard_since_point s hs device t =
    let since = after_last (λ h. nat_lt (time_of h) t && changes_adjustment device h.note.body) hs in
    let kept = filter (λ h. points_come s hs device t t == points_come s hs device t (time_of h)) since in
    filter_map (λ h. hearing_by s.network device h h.note.body) kept

-- the correction point of this cycle comes at the time, and comes to this
pub record ComesToPoint (s : Scenario) (hs : List Happening) (device : DeviceId) (t : ℕ) (cycle : ℕ)
    (verdict : Verdict) : Type 0 where
  pub next : next_point (standing_at s hs device t) ≡ Some cycle
  pub reached : Reaches s hs device (correction_value s.network cycle) t
  pub correct : is_broken s device t ≡ false
  pub summary : Summary
  pub heard : Summarizes summary (heard_since_point s hs device t)
  pub comes : HasVerdict (standing_at s hs device t) summary verdict
