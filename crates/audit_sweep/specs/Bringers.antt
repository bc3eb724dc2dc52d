-- What a record of which this is kept is to the state of a device.
use Rattle.std.specs.Prelude.{if◌then◌else◌, ◌&&◌, ◌==◌}
use Rattle.audit_devices.specs.declared.clocks.changing.Bringer.{Bringer, TheVariants.{Corrects, Joins, Other, TurnsOn}}
use Rattle.{audit_sweep.specs.declared.records.kept.Kept.Kept, net_plan.specs.declared.ids.DeviceId.DeviceId}
use Rattle.audit_sweep.specs.declared.records.kept.Kept.TheVariants as kepts

-- it turns it on, corrects its clock, tells it the time, or none of these
abbrev pub bringer_by : DeviceId → Kept → Bringer
bringer_by device (kepts.On other) = if device.0 == other.0 then TurnsOn else Other
bringer_by device (kepts.Corrected other) = if device.0 == other.0 then Corrects else Other
bringer_by device (kepts.Permanent other tells) = if tells && device.0 == other.0 then Joins else Other
bringer_by device (kepts.Compressed other tells) = if tells && device.0 == other.0 then Joins else Other
bringer_by device rest = Other
