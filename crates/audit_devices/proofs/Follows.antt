-- What follows a record is what the records with it show.
use Rattle.std.proofs.Common.{arith}
use Rattle.audit_devices.{specs.{Following.{Follows, IsMet}, declared.shown.Readings.Readings}}
use Rattle.audit_devices.proofs.Kept.{corrected, heard_one, joined, quiet, turned}
use Rattle.audit_devices.proofs.{Words.{silence, subst, sym, time_of, ℕ}}
use Rattle.audit_devices.proofs.Words.{◌++◌, ◌∙◌, ◌∷◌, ◌≡◌, Carried, Corrects, DeviceId, Effect, Happening, Hears, IsInRange, Joins, List, Network, NoneLater}
use Rattle.audit_devices.proofs.Words.{NoteBody, Nothing, Scenario, Shown, Shows, Summarizes, Turns, [], ap, carried_by, effect_by, effect_of, points_by}

abbrev ShowsNew : Scenario → List Happening → DeviceId → Happening → Shown → Type 0
ShowsNew s hs device h new = Shows s (hs ++ h ∷ []) device new

by_effect : {s : Scenario} {hs : List Happening} {device : DeviceId} {h : Happening} {t : ℕ} {body : NoteBody}
    {carried : Carried} {readings : Readings} {old : Shown} (new : Shown) (e : Effect) → IsInRange s.network
    → Summarizes silence [] → IsMet s device h t body carried readings → NoneLater (time_of h) hs
    → Shows s hs device old → effect_of s.network device h ≡ e → Follows s.network device t readings e old new
    → ShowsNew s hs device h new
by_effect {s} {hs} {device} {h} {old} new Nothing range none met late sh is new_is =
    subst (ShowsNew s hs device h) (sym new_is) (quiet s hs device h old is sh)
by_effect {s} {hs} {device} {h} {old} new (Turns state) range none met late sh is new_is =
    subst (ShowsNew s hs device h) (sym new_is) (turned s hs device h old state is sh)
by_effect {s} {hs} {device} {h} {t} {readings} {old} new (Corrects cycle adjustment) range none met late sh is new_is =
    subst (ShowsNew s hs device h) (sym new_is) (corrected s hs device h old cycle adjustment t readings.now is met.time met.reading.now none sh)
by_effect {s} {hs} {device} {h} {t} {readings} {old} new (Joins cycle own point) range none met late sh is new_is =
    subst (ShowsNew s hs device h) (sym new_is) (joined s hs device h old cycle own point t readings.now is late met.time met.reading.now none sh)
by_effect {s} {hs} {device} {h} {readings} {old} new (Hears channel frame within) range none met late sh is has =
    let points = ap (points_by s.network old) met.reading.before in
    subst (ShowsNew s hs device h) (sym has.is)
    (heard_one h (record { channel = channel; frame = frame; within = within })
    (points_by s.network old readings.before) has.heard is
    points range met.steady late none has.hears sh)

effect_met : (network : Network) {device : DeviceId} {s : Scenario} {h : Happening} {t : ℕ} {body : NoteBody}
    {carried : Carried} {readings : Readings} → s.network ≡ network → IsMet s device h t body carried readings
    → effect_of s.network device h ≡ effect_by network device carried body
effect_met network of met = grind (arith, effect_by, carried_by)

-- what follows a record is what the records with it show
pub follows : (network : Network) (device : DeviceId) (t : ℕ) (body : NoteBody) (carried : Carried) (readings : Readings) (old new : Shown) (e : Effect)
    → IsInRange network → Summarizes silence [] → e ≡ effect_by network device carried body → Follows network device t readings e old new
    → (s : Scenario) (hs : List Happening) (h : Happening) → s.network ≡ network → IsMet s device h t body carried readings
    → NoneLater (time_of h) hs → Shows s hs device old → Shows s (hs ++ h ∷ []) device new
follows network device t body carried readings old new e range none is goes s hs h of met late sh =
    by_effect new e (subst IsInRange (sym of) range) none met late sh (effect_met network of met ∙ sym is)
    (subst (λ n. Follows n device t readings e old new) (sym of) goes)
