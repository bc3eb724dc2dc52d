-- What a record says, by what is kept of it.
use Rattle.{audit_sweep.specs.records.Keeping.kept_of, std.proofs.Common.{◌≡◌, ℕ}}
use Rattle.{net_plan.specs.declared.ids.DeviceId.DeviceId, run_law.specs.declared.note.NoteBody.NoteBody, tte_units.specs.declared.units.Units.Units}
use Rattle.audit_sweep.specs.declared.records.kept.Kept.TheVariants as kept
use Rattle.net_plan.specs.declared.event.What.TheVariants as events
use Rattle.run_law.specs.declared.note.NoteBody.TheVariants as notes

-- an event turns the device on
pub on_body : (body : NoteBody) (device : DeviceId) → kept_of body ≡ kept.On device → (line : ℕ) × (body ≡ notes.Event line (events.On device))
on_body (notes.Event line (events.On other)) device e = (line, cc)
on_body (notes.Event line (events.Send link octets)) device e = absurd cc
on_body other device e = absurd cc

-- a device corrects its clock
pub corrected_body : (body : NoteBody) (device : DeviceId) → kept_of body ≡ kept.Corrected device
    → (cycle : ℕ) × (by : Units) × (adjustment : Units) × (body ≡ notes.Corrected device cycle by adjustment)
corrected_body (notes.Corrected d cycle by adjustment) device e = (cycle, by, adjustment, cc)
corrected_body (notes.Event line (events.On d)) device e = absurd cc
corrected_body (notes.Event line (events.Send l octets)) device e = absurd cc
corrected_body other device e = absurd cc
