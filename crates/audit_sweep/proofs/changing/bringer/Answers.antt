use Rattle.audit_sweep.proofs.Words.{if◌then◌else◌, ◌==◌, ◌∙◌, ◌≡◌, Bool, DeviceId, KeptRecord, NoteBody, ap, kept_of, refl, sym, time_of}
use Rattle.{audit_devices.specs.clocks.Brought.{bringer_as, bringer_at}, audit_sweep.specs.Bringers.bringer_by}
use Rattle.net_plan.specs.declared.event.What.TheVariants.{On}
use Rattle.{run_law.specs.declared.judgement.Judgement.TheVariants.Integrates, tte_units.proofs.general_lemmas.Naturals.{eqb_same, unequal}}
use Rattle.audit_devices.specs.declared.clocks.changing.Bringer.TheVariants as bringers
use Rattle.audit_sweep.proofs.changing.bringer.Goals as goal
use Rattle.run_law.specs.declared.note.NoteBody.TheVariants as notes

-- what is kept of a record tells what it is to the state
by_body : (device : DeviceId) (body : NoteBody) → bringer_by device (kept_of body) ≡ bringer_as device body
by_body device (notes.Event line (On other)) = refl
by_body device (notes.Permanent other link cause point Integrates) = refl
by_body device (notes.Compressed other opened at cycle members Integrates) = refl
by_body device other = refl

pub returns-in-None : goal.returns-in-None
returns-in-None c network befallen hs k = sym (ap (bringer_at c.args.device c.args.time) (c.in-None.ensures hs k.records))

pub returns-then-kept-time : goal.returns-then-kept-time
returns-then-kept-time c network befallen hs k =
    let device = c.args.device in
    let found = c.in-Some.ensures hs k.records in
    let body = found.0.note.body in
    let at = sym (ap (λ (r : KeptRecord). r.time) found.2) ∙ c.if-kept-time.true in
    let now = sym (ap (λ n. time_of found.0 == n) at) ∙ eqb_same (time_of found.0) in
    c.bringer_by.ensures ∙ ap (λ (r : KeptRecord). bringer_by device r.kept) found.2 ∙ by_body device body
    ∙ sym (ap (λ (b : Bool). if b then bringer_as device body else bringers.Other) now)
    ∙ sym (ap (bringer_at device c.args.time) found.1)

pub returns-else-kept-time : goal.returns-else-kept-time
returns-else-kept-time c network befallen hs k =
    let device = c.args.device in
    let found = c.in-Some.ensures hs k.records in
    let not = unequal (time_of found.0) c.args.time (λ e. c.if-kept-time.false (ap (λ (r : KeptRecord). r.time) found.2 ∙ e)) in
    sym (ap (λ (b : Bool). if b then bringer_as device found.0.note.body else bringers.Other) not)
    ∙ sym (ap (bringer_at device c.args.time) found.1)
