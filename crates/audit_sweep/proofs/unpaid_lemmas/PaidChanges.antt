-- What pays the debts of changes of state.
use Rattle.audit_law.{proofs.law_lemmas.Founded.change_law, specs.law.DueRecords.ChangesState}
use Rattle.audit_sweep.proofs.{Lacks.none_some, unpaid_lemmas.{Payers.payer_due, Words.{sym, time_of, true, ℕ}}}
use Rattle.sync_state.specs.declared.state.State.{State}
use Rattle.{audit_law.specs.law.Changes.{IsBrought, IsDueByChange, OwesChange, TellsChange}, run_law.specs.declared.judgement.Judgement.TheVariants.Integrates}
use Rattle.audit_sweep.proofs.unpaid_lemmas.Words.{◌∙◌, ◌≡◌, ◌≤◌, DeviceId, Happening, IsDue, IsFounded, IsMarked, IsPaid, List, NoteBody, Paid, Pays, Scenario}
use Rattle.audit_sweep.proofs.unpaid_lemmas.Words.{Some, ap, arith, cause_of, false, is_broken, numbered, numbered_within, paid_by, place_of, refl, same_some}
use Rattle.{audit_sweep.specs.unpaid.Changing.HasChange, net_plan.specs.declared.event.What.TheVariants.On, tte_units.proofs.general_lemmas.Naturals.eqb_same}
use Rattle.{run_law.specs.{declared.judgement.Why.Why, records.Causes.IsOfThisTime}, std.proofs.Common.None}
use Rattle.{run_law.specs.device.States.{is_joined_by, state_before}, sync_state.specs.declared.state.State.TheVariants.{Integrating, Joining, Synchronised}}
use Rattle.audit_law.specs.law.Owed as debts
use Rattle.run_law.specs.declared.note.NoteBody.TheVariants as notes
use Rattle.run_law.specs.declared.judgement.Why.TheVariants as whys

tells : (body : NoteBody) (cause : ℕ) → TellsChange cause body → (cause_of body ≡ cause) × ((paid_by body).change ≡ true)
tells (notes.State device state from why) cause of = (of, refl)
tells other cause of = absurd of

-- what tells of a change pays it
told : (body : NoteBody) (cause : ℕ) → cause_of body ≡ cause → (paid_by body).change ≡ true → TellsChange cause body
told (notes.State device state from why) cause of pays = of
told other cause of pays = absurd cc

-- what is marked is paid
pub change_paid : (s : Scenario) {hs : List Happening} {cause : ℕ} → IsMarked (λ (p : Paid). p.change) hs cause
    → IsPaid hs (Pays s) (debts.change cause)
change_paid s {cause} m = (m.paying, m.there, told m.paying.note.body cause m.of_cause m.pays)

-- what brings a change is the record of its cause
pub bringer : (s : Scenario) (hs : List Happening) (device : DeviceId) (t : ℕ) (state : State) (cause : ℕ) (why : Why) → IsBrought why
    → ChangesState s hs device t state cause why → (h : Happening) × IsOfThisTime hs t cause h
bringer s hs device t state cause whys.On b c = (c.2.1, c.2.2)
bringer s hs device t state cause whys.Frame b c = (c.1.0, c.1.1)
bringer s hs device t state cause whys.Correction b c = (c.2.3, c.2.4)
bringer s hs device t state cause whys.SyncClique b c = absurd b
bringer s hs device t state cause whys.AsyncClique b c = absurd b

module _ (s : Scenario) (hs : List Happening) (until : ℕ) where
  -- what pays a debt that is owed is marked
  pub change_marked : {cause : ℕ} → IsFounded place_of (IsDue s) hs → OwesChange s hs until cause
      → IsPaid hs (Pays s) (debts.change cause) → IsMarked (λ (p : Paid). p.change) hs cause
  change_marked {cause} founded owed paid =
      let m = paid.0 in
      let so = tells m.note.body cause paid.2 in
      let due = payer_due s until (IsDueByChange s) (OwesChange s hs until) (λ x c. TellsChange c x.note.body)
      (λ ps x d. d.due)
      (change_law s hs until founded) founded cause owed m paid.1 paid.2 in
      let d = due.due in
      let same : d.cause ≡ cause = sym (ap cause_of d.says) ∙ so.0 in
      let from = bringer s due.before d.device _ d.state d.cause d.why d.brought d.changes in
      let few = numbered_within due.before d.cause from.0 from.1.there in
      let number = d.due.number in
      record { paying = m; there = paid.1; behind = omega (arith, few, number, same); of_cause = so.0; pays = so.1 }

  pub changes_of_records : (cause : ℕ) → OwesChange s hs until cause → (h : Happening) × (numbered hs cause ≡ Some h)
  changes_of_records cause owed =
      let from = bringer s hs owed.device owed.time owed.state cause owed.why owed.brought owed.changes in
      (from.0, from.1.there)

  pub change_of_record : {cause : ℕ} → OwesChange s hs until cause → numbered hs cause ≡ None → ⊥
  change_of_record {cause} owed none = none_some _ (sym none ∙ (changes_of_records cause owed).1)

  -- what is owed is a change by the record at its time
  pub owed_change : {cause : ℕ} (h : Happening) → numbered hs cause ≡ Some h → OwesChange s hs until cause
      → HasChange s hs cause (time_of h) × (time_of h ≤ until)
  owed_change h there o = grind (arith, bringer, same_some, numbered, time_of)

-- what a record of this body says that brings a change
abbrev pub Brings : Scenario → List Happening → ℕ → NoteBody → Type 0
Brings s hs t (notes.Event line (On device)) = is_broken s device t ≡ false
Brings s hs t (notes.Permanent device link cause point Integrates) = Unit {0}
Brings s hs t (notes.Compressed device opened at cycle members Integrates) = Unit {0}
Brings s hs t (notes.Corrected device cycle by adjustment) = state_before s hs device t ≡ Joining
Brings s hs t other = ⊥

joined_brings : (s : Scenario) (hs : List Happening) (t : ℕ) (device : DeviceId) (body : NoteBody) → is_joined_by device body ≡ true → Brings s hs t body
joined_brings s hs t device (notes.Permanent other link cause point Integrates) e = tt
joined_brings s hs t device (notes.Compressed other opened at cycle members Integrates) e = tt
joined_brings s hs t device other e = absurd cc

pub change_brought : {s : Scenario} {hs : List Happening} {cause t : ℕ} (h : Happening) → numbered hs cause ≡ Some h
    → HasChange s hs cause t → Brings s hs t h.note.body
change_brought h there has = grind (arith, same_some, numbered, joined_brings)

pub brought_change : (s : Scenario) (hs : List Happening) (cause : ℕ) (h : Happening) → numbered hs cause ≡ Some h → (body : NoteBody) → h.note.body ≡ body
    → Brings s hs (time_of h) body → HasChange s hs cause (time_of h)
brought_change s hs cause h there (notes.Event line (On device)) is b = record {
  device = device;
  state = Integrating;
  why = whys.On;
  brought = tt;
  changes = (refl, b, (line, h, record { there = there; same_time = refl }, is));
}
brought_change s hs cause h there (notes.Permanent device link from point Integrates) is b = record {
  device = device;
  state = Joining;
  why = whys.Frame;
  brought = tt;
  changes = (refl, (h, record { there = there; same_time = refl }, ap (is_joined_by device) is ∙ eqb_same device.0));
}
brought_change s hs cause h there (notes.Compressed device opened at cycle members Integrates) is b = record {
  device = device;
  state = Joining;
  why = whys.Frame;
  brought = tt;
  changes = (refl, (h, record { there = there; same_time = refl }, ap (is_joined_by device) is ∙ eqb_same device.0));
}
brought_change s hs cause h there (notes.Corrected device cycle by adjustment) is b = record {
  device = device;
  state = Synchronised;
  why = whys.Correction;
  brought = tt;
  changes = (refl, b, (cycle, by, adjustment, h, record { there = there; same_time = refl }, is));
}
brought_change s hs cause h there other is b = absurd b
