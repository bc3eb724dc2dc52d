use Rattle.audit_law.proofs.law_lemmas.Owed.{IsOfFirst, first_of_next, first_of_none}
use Rattle.audit_sweep.proofs.unpaid_lemmas.Debts.{first_of_records}
use Rattle.audit_sweep.proofs.unpaid_lemmas.Words.{◌+◌, IsRecordDebtOf, Option, TellsFirst, arith, scenario_of, subst, sym, ℕ}
use Rattle.audit_sweep.proofs.unpaid.debtor.Debtor.first_unpaid.Goals as goal

pub records-init : goal.records-init
records-init c befallen hs known =
    first_of_none (scenario_of c.args.self.now befallen) hs c.args.self.now.until (λ (n : ℕ). IsRecordDebtOf (n + 1))

pub records-preserved : goal.records-preserved
records-preserved c befallen hs known =
    let s = scenario_of c.args.self.now befallen in
    let until = c.args.self.now.until in
    let place = c.records.place in
    let Is = λ (n : ℕ). IsRecordDebtOf (n + 1) in
    subst (λ (r : Option ℕ). TellsFirst s hs until (IsOfFirst Is (place + 1)) r) (sym c.earlier_of-first.ensures)
    (first_of_next s hs until Is place c.records.first c.unpaid_by.result (c.records.invariant befallen hs known)
    (c.unpaid_by.ensures befallen hs known))

pub returns : goal.returns
returns c befallen hs known =
    let count = known.paid.count in
    first_of_records (scenario_of c.args.self.now befallen) hs c.args.self.now.until c.records.place c.records.first
    (omega (arith, c.records-test.false, c.records.auto.place-end, c.count-place-end.ensures, count))
    (c.records.invariant befallen hs known)
