use Rattle.audit_law.proofs.law_lemmas.Owed.{IsOfFirst, first_of_more, first_of_next, first_of_none}
use Rattle.audit_law.{specs.law.FirstDebts.TellsFirst}
use Rattle.audit_sweep.proofs.unpaid_lemmas.emissions_lemmas.FirstUnpaid.{emission_within, first_emission}
use Rattle.{audit_law.specs.events.Readings.scenario_under, audit_sweep.specs.unpaid.Sorts.{IsEmissionDebt, IsEmissionDebtOf}}
use Rattle.std.proofs.Common.{◌+◌, Option, ap, arith, length, subst, sym, ℕ}
use Rattle.audit_sweep.proofs.unpaid.emissions.first.first_unemitted.Goals as goal

pub devices-init : goal.devices-init
devices-init c befallen hs kept founded =
    first_of_none (scenario_under c.args.network.now befallen) hs c.args.until
    (λ (n : ℕ). IsEmissionDebtOf (record { 0 = n }))

pub devices-preserved : goal.devices-preserved
devices-preserved c befallen hs kept founded =
    let s = scenario_under c.args.network.now befallen in
    let until = c.args.until in
    let place = c.devices.place in
    let one = c.first_unemitted_by-unemitted.result in
    let Is = λ (n : ℕ). IsEmissionDebtOf (record { 0 = n }) in
    subst (λ (r : Option ℕ). TellsFirst s hs until (IsOfFirst Is (place + 1)) r) (sym c.earlier_of-first.ensures)
    (first_of_next s hs until Is place c.devices.first one (c.devices.invariant befallen hs kept founded)
    (first_emission s hs until (record { 0 = place }) one
    (c.first_unemitted_by-unemitted.ensures befallen hs kept founded)))

pub returns : goal.returns
returns c befallen hs kept founded =
    let s = scenario_under c.args.network.now befallen in
    let until = c.args.until in
    let all = ap length c.as_slice-place-end.ensures in
    let most = c.devices.auto.place-end in
    let least = c.devices-test.false in
    first_of_more s hs until
    (IsOfFirst (λ (n : ℕ). IsEmissionDebtOf (record { 0 = n })) c.devices.place) IsEmissionDebt c.devices.first
    (λ o is. (record { 0 = is.0 }, is.2))
    (λ o is owed.
    let there = emission_within s hs until is.0 o is.1 owed in
    (is.0.0, omega (arith, there, all, most, least), is.1))
    (c.devices.invariant befallen hs kept founded)
