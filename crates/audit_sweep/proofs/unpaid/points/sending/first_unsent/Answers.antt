use Rattle.audit_law.proofs.law_lemmas.Owed.{IsOfFirst, first_of_more, first_of_next, first_of_none}
use Rattle.audit_law.{specs.law.FirstDebts.TellsFirst}
use Rattle.audit_sweep.proofs.unpaid_lemmas.points_lemmas.{FirstUnpaid.{first_sending, sending_within}}
use Rattle.audit_sweep.proofs.unpaid_lemmas.points_lemmas.{Words.{◌+◌, Option, ap, arith, length, scenario_under}}
use Rattle.audit_sweep.{proofs.unpaid_lemmas.points_lemmas.Words.{subst, sym, ℕ}, specs.unpaid.Sorts.{IsSendingDebt, IsSendingDebtOf}}
use Rattle.audit_sweep.proofs.unpaid.points.sending.first_unsent.Goals as goal

pub devices-init : goal.devices-init
devices-init c befallen hs kept =
    first_of_none (scenario_under c.args.network.now befallen) hs c.args.until
    (λ (n : ℕ). IsSendingDebtOf (record { 0 = n }))

pub devices-preserved : goal.devices-preserved
devices-preserved c befallen hs kept =
    let s = scenario_under c.args.network.now befallen in
    let until = c.args.until in
    let place = c.devices.place in
    let one = c.first_unsent_by-unsent.result in
    let Is = λ (n : ℕ). IsSendingDebtOf (record { 0 = n }) in
    subst (λ (r : Option ℕ). TellsFirst s hs until (IsOfFirst Is (place + 1)) r) (sym c.earlier_of-first.ensures)
    (first_of_next s hs until Is place c.devices.first one (c.devices.invariant befallen hs kept)
    (first_sending s hs until (record { 0 = place }) one (c.first_unsent_by-unsent.ensures befallen hs kept)))

pub returns : goal.returns
returns c befallen hs kept =
    let s = scenario_under c.args.network.now befallen in
    let until = c.args.until in
    let all = ap length c.as_slice-place-end.ensures in
    let most = c.devices.auto.place-end in
    let least = c.devices-test.false in
    first_of_more s hs until
    (IsOfFirst (λ (n : ℕ). IsSendingDebtOf (record { 0 = n })) c.devices.place) IsSendingDebt c.devices.first
    (λ o is. (record { 0 = is.0 }, is.2))
    (λ o is owed.
    let there = sending_within s hs until is.0 o is.1 owed in
    (is.0.0, omega (arith, there, all, most, least), is.1))
    (c.devices.invariant befallen hs kept)
