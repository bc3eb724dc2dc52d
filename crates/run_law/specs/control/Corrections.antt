-- The correction points of a device.
use Rattle.std.specs.{List.after_last, Option.option_map_or}
use Rattle.std.specs.Prelude.{if◌then◌else◌, ◌&&◌, ◌*◌, ◌+◌, ◌==◌, ◌||◌, ◌≡◌, Bool, List, None, Option, Some, false}
use Rattle.std.specs.Prelude.{filter, filter_map, fold, nat_lt, not, option_map, pos, true, ℕ, ℤ}
use Rattle.{net_plan.specs.declared.ids.DeviceId.DeviceId, sync_state.specs.Standing.{Standing, next_point}}
use Rattle.{net_plan.specs.declared.network.Network.Network, tte_units.specs.declared.frames.channel.Channel.Channel}
use Rattle.run_law.specs.declared.{judgement.Judgement.TheVariants.{Outside, Within}, note.NoteBody.NoteBody}
use Rattle.run_law.specs.{device.LocalClocks.{Reaches, changes_adjustment, had_come}, records.Ranks.members_in}
use Rattle.run_law.specs.device.States.{adjustment_before, cycle_in, is_joined_by, state_before}
use Rattle.{run_law.specs.records.Happenings.{Happening, earlier, time_of}, sync_state.specs.membership.Hearing.Hearing}
use Rattle.run_law.specs.scenario.{Devices.{channel_of, channel_of_link, plan_of}, Scenarios.{Scenario, is_broken}}
use Rattle.{sync_state.specs.Verdicts.HasVerdict, tte_units.specs.{Amount.amount, declared.units.Units.Units}}
use Rattle.sync_state.specs.{declared.answers.Verdict.Verdict, membership.Summary.{Summarizes, Summary}}
use Rattle.run_law.specs.declared.note.NoteBody.TheVariants as notes

-- where the clock stands at the correction point of a cycle
abbrev pub correction_value : Network → ℕ → ℤ
correction_value network cycle = pos (cycle * amount network.cycle + amount network.correction)

-- the cycle of the frame that told the device the time last
abbrev pub integration_cycle : List Happening → DeviceId → Option ℕ
integration_cycle hs device =
    fold (λ last h. if is_joined_by device h.note.body then Some (cycle_in h) else last) None hs

-- the cycle of the correction point that is next after a record: the frame's, or the one after the correction's
abbrev pub cycle_after : DeviceId → ℕ → Happening → NoteBody → ℕ
cycle_after device next h (notes.Corrected other cycle by adjustment) = if device.0 == other.0 then cycle + 1 else next
cycle_after device next h body = if is_joined_by device body then cycle_in h else next

-- the cycle of the correction point that the records leave as the next: at first 1
abbrev pub recorded_cycle : List Happening → DeviceId → ℕ
recorded_cycle hs device = fold (λ next h. cycle_after device next h h.note.body) 1 hs

-- is that the cycle by whose frame the device joined? At its correction point a joiner only clears what it has
-- heard, which makes no record
abbrev pub is_integration_cycle : List Happening → DeviceId → Bool
is_integration_cycle hs device =
    option_map_or (λ cycle. recorded_cycle hs device == cycle) (integration_cycle hs device) false

-- a joiner before t: has it cleared what it had heard, at the correction point of its integration cycle, before the
-- time `by`?
abbrev pub has_cleared : Scenario → List Happening → DeviceId → ℕ → ℕ → Bool
has_cleared s hs device t by =
    is_integration_cycle (earlier t hs) device
    && had_come s hs device (correction_value s.network (recorded_cycle (earlier t hs) device)) t by

-- the cycle of the device's next correction point
abbrev pub next_cycle : Scenario → List Happening → DeviceId → ℕ → ℕ
next_cycle s hs device t =
    if has_cleared s hs device t t then recorded_cycle (earlier t hs) device + 1
    else recorded_cycle (earlier t hs) device

-- where the device's synchronisation stands before this time
abbrev pub standing_before : Scenario → List Happening → DeviceId → ℕ → Standing
standing_before s hs device t = record {
  plan = plan_of s.network device;
  state = state_before s hs device t;
  adjustment = adjustment_before s hs device t;
  number = next_cycle s hs device t;
  integrated = integration_cycle (earlier t hs) device;
}

-- a frame of a record, as it was heard by the channel
abbrev pub heard_by : Channel → Happening → Units → Bool → Hearing
heard_by channel h point within = record {
  channel = channel;
  frame = record { cycle = cycle_in h; members = record { 0 = members_in h }; point = point };
  within = within;
}

-- what the device has heard by a record: a frame within its time or outside it
abbrev pub hearing_by : Network → DeviceId → Happening → NoteBody → Option Hearing
hearing_by network device h (notes.Permanent other link cause point Within) =
    if device.0 == other.0 then option_map (λ channel. heard_by channel h point true) (channel_of_link network link)
    else None
hearing_by network device h (notes.Permanent other link cause point Outside) =
    if device.0 == other.0 then option_map (λ channel. heard_by channel h point false) (channel_of_link network link)
    else None
hearing_by network device h (notes.Compressed other opened at cycle members Within) =
    if device.0 == other.0 then option_map (λ channel. heard_by channel h at true) (channel_of network device) else None
hearing_by network device h (notes.Compressed other opened at cycle members Outside) =
    if device.0 == other.0 then option_map (λ channel. heard_by channel h at false) (channel_of network device)
    else None
hearing_by network device h other = None

-- what the device has heard since its last correction point before this time, this time included: since the last
-- change of its adjustment, and for a joiner since it has cleared
abbrev pub heard_since : Scenario → List Happening → DeviceId → ℕ → List Hearing
heard_since s hs device t =
    let since = after_last (λ h. nat_lt (time_of h) t && changes_adjustment device h.note.body) hs in
    let kept = filter (λ h. not (has_cleared s hs device t t) || has_cleared s hs device t (time_of h)) since in
    filter_map (λ h. hearing_by s.network device h h.note.body) kept

-- the correction point of this cycle comes at the time, and comes to this
pub record ComesToCorrection (s : Scenario) (hs : List Happening) (device : DeviceId) (t : ℕ) (cycle : ℕ)
    (verdict : Verdict) : Type 0 where
  pub next : next_point (standing_before s hs device t) ≡ Some cycle
  pub reached : Reaches s hs device (correction_value s.network cycle) t
  pub correct : is_broken s device t ≡ false
  pub summary : Summary
  pub heard : Summarizes summary (heard_since s hs device t)
  pub comes : HasVerdict (standing_before s hs device t) summary verdict
