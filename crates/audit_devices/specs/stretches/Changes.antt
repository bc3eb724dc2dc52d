-- What a record does to the collections of its device.
use Rattle.std.specs.Prelude.{None, Option, Some}
use Rattle.audit_devices.specs.declared.stretches.change.CollectionChange.{CollectionChange, TheVariants.{Ends, Gives}}
use Rattle.{net_plan.specs.declared.ids.DeviceId.DeviceId, run_law.specs.declared.note.NoteBody.NoteBody}
use Rattle.run_law.specs.declared.judgement.{Judgement.{Judgement, TheVariants.Integrates}, Why.{TheVariants.On, Why}}
use Rattle.tte_units.specs.declared.units.Units.{Units}
use Rattle.run_law.specs.declared.note.NoteBody.TheVariants as notes

-- a frame that is permanent gives its point, but ends the stretch where it tells the device the time
abbrev pub permanence_change : Units → Judgement → CollectionChange
permanence_change point Integrates = Ends
permanence_change point other = Gives point

-- a frame that is sent ends the stretch where it tells the device the time
abbrev pub emission_change : Judgement → Option CollectionChange
emission_change Integrates = Some Ends
emission_change other = None

-- a change of the state ends the stretch, but being turned on does not
abbrev pub state_change : Why → Option CollectionChange
state_change On = None
state_change other = Some Ends

-- the device whose collections a record may change
abbrev pub collector_in : NoteBody → Option DeviceId
collector_in (notes.Permanent device link cause point verdict) = Some device
collector_in (notes.Compressed device opened at cycle members verdict) = Some device
collector_in (notes.State device state cause why) = Some device
collector_in other = None

-- what a record of this body does to the collections of its device, if anything
abbrev pub change_by : NoteBody → Option CollectionChange
change_by (notes.Permanent device link cause point verdict) = Some (permanence_change point verdict)
change_by (notes.Compressed device opened at cycle members verdict) = emission_change verdict
change_by (notes.State device state cause why) = state_change why
change_by other = None
