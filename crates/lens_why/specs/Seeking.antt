-- The last record before another one by which something came about.
use Rattle.std.specs.{List.last_or, Option.option_map_or}
use Rattle.std.specs.Prelude.{if◌then◌else◌, ◌&&◌, ◌==◌, ◌||◌, Bool, List, None, Option, Some, false, filter, fold}
use Rattle.std.specs.Prelude.{int_le, nat_lt, true, ℕ}
use Rattle.lens_why.specs.declared.seeking.Sought.{Sought, TheVariants.{Frame, Opening, Taking, Turning}}
use Rattle.net_plan.specs.declared.{ids.{DeviceId.DeviceId, LinkId.LinkId}, tables.Way.Way}
use Rattle.run_law.specs.{declared.judgement.Why.TheVariants.On, timed.Receptions.is_taken_before}
use Rattle.{net_plan.specs.declared.network.Network.Network, run_law.specs.records.Happenings.{Happening, time_of}}
use Rattle.run_law.specs.{control.Corrections.hearing_by, device.States.is_joined_by, scenario.Ways.cut_set}
use Rattle.run_law.specs.declared.{judgement.Judgement.TheVariants.Opened, note.NoteBody.{NoteBody, TheVariants.Event}}
use Rattle.sync_state.specs.{declared.membership.frame.HeardFrame.HeardFrame, membership.Hearing.Hearing}
use Rattle.tte_units.specs.declared.{frames.channel.Channel.{Channel, TheVariants.{A, B}}, units.Units.Units}
use Rattle.run_law.specs.declared.note.NoteBody.TheVariants as notes

-- are the two channels one?
abbrev pub is_channel : Channel → Channel → Bool
is_channel A A = true
is_channel A B = false
is_channel B A = false
is_channel B B = true

-- are the two frames one?
abbrev pub is_frame : HeardFrame → HeardFrame → Bool
is_frame frame other =
    frame.cycle == other.cycle && (frame.members.0 == other.members.0
    && (int_le frame.point.0 other.point.0 && int_le other.point.0 frame.point.0))

-- is this the frame, come by the channel within its time?
abbrev pub is_hearing_of : Channel → HeardFrame → Option Hearing → Bool
is_hearing_of channel frame None = false
is_hearing_of channel frame (Some h) = h.within && (is_channel h.channel channel && is_frame h.frame frame)

-- does the record change the device's state?
abbrev pub turns : DeviceId → NoteBody → Bool
turns device (notes.State other state cause why) = device.0 == other.0
turns device other = is_joined_by device other

-- does by the record a frame open a collection of the device at the point?
abbrev pub opens : DeviceId → Units → NoteBody → Bool
opens device point (notes.Permanent other link cause at Opened) =
    device.0 == other.0 && (int_le at.0 point.0 && int_le point.0 at.0)
opens device point other = false

-- does the record turn a device on?
abbrev pub is_turning_on : NoteBody → Bool
is_turning_on (notes.State device state cause On) = true
is_turning_on other = false

-- does by the record, of the time `at`, the device come to the state in which it is when something comes to it at the
-- time t? The record is of an earlier time, or the device is turned on by it
abbrev pub turns_before : DeviceId → ℕ → ℕ → NoteBody → Bool
turns_before device t at body = turns device body && (nat_lt at t || is_turning_on body)

-- is it by the record, which has this body, that the device hears the frame so, that it took a frame of the virtual
-- link before this one, that it comes to its state before the time, or that a collection opens at the point?
abbrev pub is_sought : Network → Sought → Happening → NoteBody → Bool
is_sought network (Frame device channel frame) h body = is_hearing_of channel frame (hearing_by network device h body)
is_sought network (Taking c) h body = is_taken_before c.device c.vl c.time c.link c.cause (time_of h) body
is_sought network (Turning device t) h body = turns_before device t (time_of h) body
is_sought network (Opening device point) h body = opens device point body

-- the number of the last of these records that is looked for, or 0
abbrev pub last_sought : Network → Sought → List Happening → ℕ
last_sought network sought before =
    option_map_or (λ h. h.note.number) (last_or None (filter (λ h. is_sought network sought h h.note.body) before)) 0

-- whether the way is cut from the record on, if the record says so
abbrev pub cut_told : LinkId → Way → NoteBody → Option Bool
cut_told link way (Event line what) = cut_set link way what
cut_told link way other = None

-- the number of the record that cut the way, or 0 where it is whole: behind one more record, of this number, which says
-- this of it. One that cuts a cut way changes nothing
abbrev pub cut_with : ℕ → ℕ → Option Bool → ℕ
cut_with since number None = since
cut_with since number (Some false) = 0
cut_with since number (Some true) = if since == 0 then number else since

-- the same behind these records
abbrev pub cut_by : LinkId → Way → List Happening → ℕ
cut_by link way hs = fold (λ since h. cut_with since h.note.number (cut_told link way h.note.body)) 0 hs
