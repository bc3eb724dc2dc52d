-- What a correction of a device's clock comes from, or a state by a clique: what the device has heard since its last
-- correction point.
use Rattle.std.specs.Prelude.{if◌then◌else◌, ◌&&◌, ◌==◌, ◌||◌, Bool, List, None, Option, Some, false, fold, int_lt}
use Rattle.std.specs.Prelude.{nat_le, nat_lt, option_and_then, option_map, true, ℕ, ℤ}
use Rattle.{audit_devices.specs.Keeping.records_before, tte_units.specs.declared.units.Units.Units}
use Rattle.{audit_law.specs.law.CorrectionNumbers.heard_since_point, net_plan.specs.declared.network.Network.Network}
use Rattle.{lens_why.specs.Seeking.last_sought, run_law.specs.records.Ranks.place_of, sync_state.specs.Plan.expected_at}
use Rattle.{audit_sweep.specs.Indexing.before_corrections, lens_why.specs.declared.ground.Ground.Ground}
use Rattle.{lens_why.specs.declared.ground.Best.Best, lens_why.specs.declared.ground.BestHeard.BestHeard}
use Rattle.lens_why.specs.declared.{ground.Ground.TheVariants.{Clique, Corrected}, seeking.Sought.TheVariants.Frame}
use Rattle.{net_plan.specs.declared.ids.DeviceId.DeviceId, run_law.specs.records.Happenings.{Happening, time_of}}
use Rattle.tte_units.specs.declared.frames.channel.Channel.{Channel, TheVariants.{A, B}}
use Rattle.run_law.specs.{declared.judgement.Why.TheVariants.{AsyncClique, SyncClique}, device.States.adjustment_before}
use Rattle.run_law.specs.{declared.judgement.Why.Why, scenario.{Devices.plan_of, Scenarios.Scenario}}
use Rattle.sync_state.specs.{correction.Deviation.deviation_of, declared.membership.frame.HeardFrame.HeardFrame}
use Rattle.sync_state.specs.membership.{Hearing.Hearing, Members.{count_of, union}, Summary.{Summary, best_on, silence}}

-- has the frame fewer members than the other, or as many and an earlier point?
abbrev pub is_behind : HeardFrame → HeardFrame → Bool
is_behind frame other =
    nat_lt (count_of frame.members) (count_of other.members)
    || (count_of frame.members == count_of other.members && int_lt frame.point.0 other.point.0)

-- the best frame so far, or the later one where that is not behind it
abbrev pub better : Option HeardFrame → HeardFrame → HeardFrame
better None later = later
better (Some best) later = if is_behind later best then best else later

-- what is kept of the frames heard, with one more that came by the channel within its time
abbrev pub with_frame : Summary → Channel → HeardFrame → Summary
with_frame old A frame = record old { best_a = Some (better old.best_a frame) }
with_frame old B frame = record old { best_b = Some (better old.best_b frame) }

-- with one more, which came within its time or outside it
abbrev pub with_hearing : Summary → Hearing → Summary
with_hearing old h =
    if h.within then with_frame old h.channel h.frame
    else record old { outside = union old.outside h.frame.members }

-- what is kept of these
abbrev pub summary_of : List Hearing → Summary
summary_of heard = fold with_hearing silence heard

-- what the device has heard since its last correction point, where one comes at the time
abbrev pub heard_at_point : Scenario → List Happening → DeviceId → ℕ → Summary
heard_at_point s hs device t = summary_of (heard_since_point s (before_corrections t hs) device t)

-- how far the clock of the device, with this adjustment, is behind by a frame of this point, at the correction point of
-- the cycle
abbrev pub value_of : Network → DeviceId → ℕ → ℤ → Units → ℤ
value_of network device cycle adjustment point =
    deviation_of (expected_at (plan_of network device) cycle) point.0 adjustment

-- what the frame, the best of its channel, says to the correction of the clock with this adjustment by this record, if
-- it has enough members; and the last record before that told it
abbrev pub said_by : Scenario → List Happening → Happening → DeviceId → ℕ → ℤ → Channel → HeardFrame → Option Best
said_by s hs h device cycle adjustment channel frame =
    if nat_le s.network.sync_threshold (count_of frame.members)
    then Some (record {
      number = last_sought s.network (Frame device channel frame) (records_before (place_of h) hs);
      members = frame.members;
      value = value_of s.network device cycle adjustment frame.point;
    })
    else None

-- what the channel says
abbrev pub channel_ground : Scenario → List Happening → Happening → DeviceId → ℕ → Channel → Option Best
channel_ground s hs h device cycle channel =
    option_and_then (said_by s hs h device cycle (adjustment_before s hs device (time_of h)).0 channel)
    (best_on channel (heard_at_point s hs device (time_of h)))

-- the ground of a correction of the device's clock, that of the cycle, by this record: what both channels say to it
abbrev pub corrected_ground : Scenario → List Happening → Happening → DeviceId → ℕ → Ground
corrected_ground s hs h device cycle =
    Corrected (channel_ground s hs h device cycle A) (channel_ground s hs h device cycle B)

-- does a device come to its state so by what it has heard?
abbrev pub is_clique : Why → Bool
is_clique SyncClique = true
is_clique AsyncClique = true
is_clique other = false

-- what is told of the best frame of its channel: the last record before this that told it, and its members
abbrev pub told_by : Network → List Happening → Happening → DeviceId → Channel → HeardFrame → BestHeard
told_by network hs h device channel frame = record {
  number = last_sought network (Frame device channel frame) (records_before (place_of h) hs);
  members = frame.members;
}

-- what is told of the channel's best frame, if there is one
abbrev pub told_on : Network → List Happening → Happening → DeviceId → Channel → Summary → Option BestHeard
told_on network hs h device channel heard = option_map (told_by network hs h device channel) (best_on channel heard)

-- the ground of the device's state by a clique, with this record: the best frame of each channel, the members of those
-- heard outside their time, and how many masters are enough
abbrev pub clique_ground : Scenario → List Happening → Happening → DeviceId → Ground
clique_ground s hs h device =
    let heard = heard_at_point s hs device (time_of h) in
    Clique (told_on s.network hs h device A heard) (told_on s.network hs h device B heard) heard.outside
    s.network.sync_threshold
