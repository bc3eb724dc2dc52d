-- What pays the debts of losses.
use Rattle.audit_sweep.proofs.unpaid_lemmas.{Payers.payer_due, Words.{cause_of, numbered_within, paid_by, place_of, refl, sym, true, ℕ}}
use Rattle.audit_sweep.proofs.unpaid_lemmas.Words.{◌∙◌, ◌≡◌, Happening, IsDue, IsFounded, IsMarked, IsPaid, List, NoteBody, Paid, Pays, Scenario, ap, arith}
use Rattle.audit_law.{proofs.law_lemmas.EventDebts.loss_law, specs.law.LostSends.{IsDueBySend, OwesLoss, TellsLoss}}
use Rattle.audit_law.specs.law.Owed as debts
use Rattle.run_law.specs.declared.note.NoteBody.TheVariants as notes

-- what tells of a loss pays it
told : (body : NoteBody) (cause : ℕ) → cause_of body ≡ cause → (paid_by body).loss ≡ true → TellsLoss cause body
told (notes.Lost device link from) cause of pays = of
told other cause of pays = absurd cc

tells : (body : NoteBody) (cause : ℕ) → TellsLoss cause body → (cause_of body ≡ cause) × ((paid_by body).loss ≡ true)
tells (notes.Lost device link from) cause of = (of, refl)
tells other cause of = absurd of

-- what is marked is paid
pub loss_paid : (s : Scenario) {hs : List Happening} {cause : ℕ} → IsMarked (λ (p : Paid). p.loss) hs cause
    → IsPaid hs (Pays s) (debts.loss cause)
loss_paid s {cause} m = (m.paying, m.there, told m.paying.note.body cause m.of_cause m.pays)

module _ (s : Scenario) (hs : List Happening) (until cause : ℕ) (founded : IsFounded place_of (IsDue s) hs) where
  -- what pays a debt that is owed is marked
  pub loss_marked : OwesLoss s hs until cause → IsPaid hs (Pays s) (debts.loss cause)
      → IsMarked (λ (p : Paid). p.loss) hs cause
  loss_marked owed paid =
      let m = paid.0 in
      let so = tells m.note.body cause paid.2 in
      let due = payer_due s until (IsDueBySend s) (OwesLoss s hs until) (λ x c. TellsLoss c x.note.body)
      (λ ps x d. d.due)
      (loss_law s hs until founded) founded cause owed m paid.1 paid.2 in
      let d = due.due in
      let same : d.cause ≡ cause = sym (ap cause_of d.says) ∙ so.0 in
      let few = numbered_within due.before d.cause d.lost.event d.lost.is.there in
      let number = d.due.number in
      record { paying = m; there = paid.1; behind = omega (arith, few, number, same); of_cause = so.0; pays = so.1 }
