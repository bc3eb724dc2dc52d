use Rattle.audit_law.specs.law.FirstDebts.{earlier_of}
use Rattle.audit_sweep.proofs.unpaid_lemmas.Debts.{first_of_record}
use Rattle.audit_sweep.proofs.unpaid_lemmas.Words.{◌∙◌, ◌≡◌, IsRecordDebtOf, Option, TellsFirst, ap, scenario_of, subst, sym, ℕ}
use Rattle.audit_sweep.proofs.unpaid.debtor.Debtor.unpaid_by.Goals as goal

pub returns : goal.returns
returns c befallen hs known =
    let s = scenario_of c.args.self.now befallen in
    let until = c.args.self.now.until in
    let arrival = c.unpaid_arrival-arrival.result in
    let permanence = c.unpaid_permanence-permanence.result in
    let change = c.unpaid_change-change.result in
    let departure = c.unpaid_departure-departure.result in
    let loss = c.unpaid_loss-loss.result in
    let is : earlier_of arrival
    (earlier_of permanence (earlier_of change (earlier_of departure loss))) ≡ c.earlier_of.result =
    ap (λ x. earlier_of arrival (earlier_of permanence (earlier_of change x))) (sym c.earlier_of-last.ensures)
    ∙ ap (λ x. earlier_of arrival (earlier_of permanence x)) (sym c.earlier_of-late.ensures)
    ∙ ap (earlier_of arrival) (sym c.earlier_of-rest.ensures)
    ∙ sym c.earlier_of.ensures in
    subst (λ (r : Option ℕ). TellsFirst s hs until (IsRecordDebtOf c.args.number) r) is
    (first_of_record s hs until known.founded c.args.number arrival permanence change departure loss
    (c.unpaid_arrival-arrival.ensures befallen hs known) (c.unpaid_permanence-permanence.ensures befallen hs known)
    (c.unpaid_change-change.ensures befallen hs known) (c.unpaid_departure-departure.ensures befallen hs known)
    (c.unpaid_loss-loss.ensures befallen hs known))
