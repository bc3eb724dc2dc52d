use Rattle.audit_law.proofs.law_lemmas.Owed.{IsOfFirst, first_of_more, first_of_next, first_of_none}
use Rattle.audit_law.{specs.law.FirstDebts.TellsFirst}
use Rattle.audit_sweep.proofs.unpaid_lemmas.dispatches_lemmas.RowDebts.{link_within}
use Rattle.audit_sweep.specs.unpaid.{Sorts.{IsDispatchDebt, IsDispatchDebtOn}, dispatches.Debtors.scenario_of}
use Rattle.std.proofs.Common.{◌+◌, Option, ap, arith, length, subst, sym, ℕ}
use Rattle.audit_sweep.proofs.unpaid.dispatches.debtor.RowDebtor.first_undispatched.Goals as goal

pub links-init : goal.links-init
links-init c befallen hs known =
    first_of_none (scenario_of c.args.self.now befallen) hs c.args.self.now.until
    (λ (n : ℕ). IsDispatchDebtOn (record { 0 = n }))

pub links-preserved : goal.links-preserved
links-preserved c befallen hs known =
    let s = scenario_of c.args.self.now befallen in
    let until = c.args.self.now.until in
    let place = c.links.place in
    let Is = λ (n : ℕ). IsDispatchDebtOn (record { 0 = n }) in
    subst (λ (r : Option ℕ). TellsFirst s hs until (IsOfFirst Is (place + 1)) r) (sym c.earlier_of-first.ensures)
    (first_of_next s hs until Is place c.links.first c.first_on.result (c.links.invariant befallen hs known)
    (c.first_on.ensures befallen hs known))

pub returns : goal.returns
returns c befallen hs known =
    let s = scenario_of c.args.self.now befallen in
    let until = c.args.self.now.until in
    let all = ap length c.as_slice-place-end.ensures in
    let most = c.links.auto.place-end in
    let least = c.links-test.false in
    first_of_more s hs until
    (IsOfFirst (λ (n : ℕ). IsDispatchDebtOn (record { 0 = n })) c.links.place) IsDispatchDebt c.links.first
    (λ o is. (record { 0 = is.0 }, is.2))
    (λ o is owed.
    let there = link_within s hs until is.0 o is.1 owed in
    (is.0.0, omega (arith, there, all, most, least), is.1))
    (c.links.invariant befallen hs known)
