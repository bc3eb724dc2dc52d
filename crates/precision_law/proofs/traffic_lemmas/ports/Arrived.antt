-- What a device has found of a control frame whose arrival has a record.
use Rattle.precision_law.proofs.traffic_lemmas.Words.{◌≡◌, DeviceId, Happening, IsCaused, IsFoundedAt, IsView, LinkId, View, standpoint, subst, time_of, ℕ}
use Rattle.run_law.{proofs.control.Arrived.{IsSoundArrival, arrived_finds}, specs.declared.note.NoteBody.TheVariants.Arrived}

pub arrived_sound : {v : View} {h : Happening} (device : DeviceId) (link : LinkId) (cause clock : ℕ) → IsView v
    → (found : IsFoundedAt v.scenario v.records h) → h.note.body ≡ Arrived device link cause clock
    → IsSoundArrival v.scenario.network device (standpoint v.scenario found.front device (time_of h)) clock
arrived_sound {v} {h} device link cause clock is found body =
    arrived_finds (subst (IsCaused v.scenario found.front h.note.time) body found.due.cause)
