-- The deliveries of a report are those that what is kept of its records tells.
use Rattle.audit_sweep.specs.{declared.records.kept.KeptRecord.KeptRecord, records.Keeping.{kept_of, records_of}}
use Rattle.lens_flows.specs.{counts.Deliveries.{deliveries_of, delivered_by, delivery_by, delivery_kept}, declared.counts.deliveries.Delivery.Delivery}
use Rattle.{net_plan.specs.declared.network.Network.Network, run_law.proofs.{records.Told.notes_of, runs.NetworkRuns.same_notes}}
use Rattle.run_law.specs.{declared.note.{Note.Note, NoteBody.NoteBody}, records.Happenings.{Happening, happenings, time_of}}
use Rattle.std.{proofs.Common.{◌∙◌, ◌∷◌, ◌≡◌, List, [], ap, refl, ℕ}, specs.{List.cons_option, Prelude.{Option, filter_map}}}
use Rattle.net_plan.specs.declared.event.What.TheVariants as events
use Rattle.run_law.specs.declared.note.NoteBody.TheVariants as notes

same_delivery : (time : ℕ) (body : NoteBody) → delivered_by time (kept_of body) ≡ delivery_by time body
same_delivery time (notes.Event line (events.On device)) = refl
same_delivery time (notes.Event line (events.Send link octets)) = refl
same_delivery time (notes.Delivered device link cause vl cycle) = refl
same_delivery time other = refl

all_kept : (hs : List Happening) → filter_map delivery_kept (records_of hs) ≡ deliveries_of (notes_of hs)
all_kept [] = refl
all_kept (h ∷ hs) =
    ap (λ (d : Option Delivery). cons_option d (filter_map delivery_kept (records_of hs))) (same_delivery (time_of h) h.note.body)
    ∙ ap (λ (ds : List Delivery). cons_option (delivery_by (time_of h) h.note.body) ds) (all_kept hs)

pub deliveries_kept : (network : Network) (ns : List Note) {records : List KeptRecord} {seen : List Delivery}
    → seen ≡ filter_map delivery_kept records → records ≡ records_of (happenings network ns) → seen ≡ deliveries_of ns
deliveries_kept network ns seen kept =
    seen ∙ ap (λ (rs : List KeptRecord). filter_map delivery_kept rs) kept ∙ all_kept (happenings network ns)
    ∙ ap (λ (ns : List Note). deliveries_of ns) (same_notes network ns)
