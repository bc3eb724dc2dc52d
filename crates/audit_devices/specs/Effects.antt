-- What a record shows of a device.
use Rattle.std.specs.Prelude.{if◌then◌else◌, ◌==◌, Bool, None, Option, Some, false, true, ℕ}
use Rattle.{audit_devices.specs.declared.effect.Carried.Carried, net_plan.specs.declared.ids.DeviceId.DeviceId}
use Rattle.audit_devices.specs.declared.effect.Effect.{Effect, TheVariants.{Corrects, Hears, Joins, Nothing, Turns}}
use Rattle.{net_plan.specs.declared.network.Network.Network, tte_units.specs.declared.frames.channel.Channel.Channel}
use Rattle.run_law.specs.declared.judgement.Judgement.{Judgement, TheVariants.{Integrates, Outside, Within}}
use Rattle.run_law.specs.{declared.note.NoteBody.NoteBody, scenario.Devices.{channel_of, channel_of_link}}
use Rattle.{run_law.specs.device.States.cycle_in, sync_state.specs.declared.membership.frame.HeardFrame.HeardFrame}
use Rattle.{run_law.specs.records.{Happenings.Happening, Ranks.members_in}, tte_units.specs.declared.units.Units.Units}
use Rattle.run_law.specs.declared.note.NoteBody.TheVariants as notes

-- what the frame of the record says
abbrev pub carried_by : Happening → Carried
carried_by h = record { cycle = cycle_in h; members = record { 0 = members_in h } }

-- the frame as it is heard with this permanence point
abbrev pub heard_as : Carried → Units → HeardFrame
heard_as carried point = record { cycle = carried.cycle; members = carried.members; point = point }

-- the frame is heard where it came on a channel
abbrev pub heard_on : Option Channel → Carried → Units → Bool → Effect
heard_on None carried point within = Nothing
heard_on (Some channel) carried point within = Hears channel (heard_as carried point) within

-- what a judgement of a frame on the channel shows of the device that judged it as one of the cycle
abbrev pub judged_as : Option Channel → Carried → ℕ → Units → Judgement → Effect
judged_as channel carried own point Integrates = Joins carried.cycle own point
judged_as channel carried own point Within = heard_on channel carried point true
judged_as channel carried own point Outside = heard_on channel carried point false
judged_as channel carried own point other = Nothing

-- what a record of this body, whose frame says this, shows of the device
abbrev pub effect_by : Network → DeviceId → Carried → NoteBody → Effect
effect_by network device carried (notes.Permanent other link cause point verdict) =
    if device.0 == other.0 then judged_as (channel_of_link network link) carried carried.cycle point verdict
    else Nothing
effect_by network device carried (notes.Compressed other opened at cycle members verdict) =
    if device.0 == other.0 then judged_as (channel_of network device) carried cycle at verdict else Nothing
effect_by network device carried (notes.Corrected other cycle by adjustment) =
    if device.0 == other.0 then Corrects cycle adjustment else Nothing
effect_by network device carried (notes.State other state cause why) =
    if device.0 == other.0 then Turns state else Nothing
effect_by network device carried other = Nothing

-- what a record shows of the device
abbrev pub effect_of : Network → DeviceId → Happening → Effect
effect_of network device h = effect_by network device (carried_by h) h.note.body

-- the device that a record shows something of, if it is of a kind that does
abbrev pub subject_of : NoteBody → Option DeviceId
subject_of (notes.Permanent device link cause point verdict) = Some device
subject_of (notes.Compressed device opened at cycle members verdict) = Some device
subject_of (notes.Corrected device cycle by adjustment) = Some device
subject_of (notes.State device state cause why) = Some device
subject_of other = None
