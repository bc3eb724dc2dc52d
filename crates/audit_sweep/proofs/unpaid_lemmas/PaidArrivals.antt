-- What pays the debts of arrivals.
use Rattle.audit_law.{proofs.law_lemmas.Arriving.arrival_law, specs.law.Arrivals.{IsDueByArrival, OwesArrival, TellsArrival, arrival_record}}
use Rattle.run_law.specs.declared.steps.Arrival.{Arrival}
use Rattle.audit_sweep.proofs.unpaid_lemmas.{Payers.payer_due, Words.{cause_of, numbered_within, paid_by, place_of, refl, sym, true, ℕ}}
use Rattle.audit_sweep.proofs.unpaid_lemmas.Words.{◌∙◌, ◌≡◌, Happening, IsDue, IsFounded, IsMarked, IsPaid, List, NoteBody, Paid, Pays, Scenario, ap, arith}
use Rattle.audit_law.specs.law.Owed as debts
use Rattle.run_law.specs.declared.note.NoteBody.TheVariants as notes
use Rattle.run_law.specs.declared.steps.Arrival.TheVariants as arrivals

-- what tells of an arrival pays it
told : (body : NoteBody) (cause : ℕ) → cause_of body ≡ cause → (paid_by body).arrival ≡ true → TellsArrival cause body
told (notes.Arrived device link from clock) cause of pays = of
told (notes.Accepted device link from vl cycle) cause of pays = of
told (notes.Delivered device link from vl cycle) cause of pays = of
told (notes.Dropped device link from reason) cause of pays = of
told other cause of pays = absurd cc

tells : (body : NoteBody) (cause : ℕ) → TellsArrival cause body → (cause_of body ≡ cause) × ((paid_by body).arrival ≡ true)
tells (notes.Arrived device link from clock) cause of = (of, refl)
tells (notes.Accepted device link from vl cycle) cause of = (of, refl)
tells (notes.Delivered device link from vl cycle) cause of = (of, refl)
tells (notes.Dropped device link from reason) cause of = (of, refl)
tells other cause of = absurd of

recorded_cause : (device : _) (link : _) (cause : ℕ) (is : Arrival) → cause_of (arrival_record device link cause is) ≡ cause
recorded_cause device link cause (arrivals.Dropped reason) = refl
recorded_cause device link cause other = refl

-- what is marked is paid
pub arrival_paid : (s : Scenario) {hs : List Happening} {cause : ℕ} → IsMarked (λ (p : Paid). p.arrival) hs cause
    → IsPaid hs (Pays s) (debts.arrival cause)
arrival_paid s {cause} m = (m.paying, m.there, told m.paying.note.body cause m.of_cause m.pays)

module _ (s : Scenario) (hs : List Happening) (until cause : ℕ) (founded : IsFounded place_of (IsDue s) hs) where
  -- what pays a debt that is owed is marked
  pub arrival_marked : OwesArrival s hs until cause → IsPaid hs (Pays s) (debts.arrival cause)
      → IsMarked (λ (p : Paid). p.arrival) hs cause
  arrival_marked owed paid =
      let m = paid.0 in
      let so = tells m.note.body cause paid.2 in
      let due = payer_due s until (IsDueByArrival s) (OwesArrival s hs until) (λ x c. TellsArrival c x.note.body)
      (λ ps x d. d.due)
      (arrival_law s hs until founded) founded cause owed m paid.1 paid.2 in
      let d = due.due in
      let same : d.cause ≡ cause = sym (ap cause_of d.says ∙ recorded_cause d.device d.link d.cause d.is) ∙ so.0 in
      let few = numbered_within due.before d.cause d.arrives.putting d.arrives.there in
      let number = d.due.number in
      record { paying = m; there = paid.1; behind = omega (arith, few, number, same); of_cause = so.0; pays = so.1 }
