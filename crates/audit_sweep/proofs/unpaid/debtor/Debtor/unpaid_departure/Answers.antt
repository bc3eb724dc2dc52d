use Rattle.audit_law.proofs.law_lemmas.Owed.{IsOfFirst, first_of_more, first_of_next, first_of_one}
use Rattle.audit_sweep.{proofs.unpaid_lemmas.Debts.{IsLeavingAt, leaving_within, none_leaves}}
use Rattle.audit_sweep.{specs.unpaid.Leavings.may_give}
use Rattle.audit_sweep.proofs.unpaid_lemmas.Words.{◌+◌, ◌∙◌, IsLeavingDebtOf, KeptRecord, Option, TellsFirst, ap, arith, both_ways, length, refl}
use Rattle.audit_sweep.proofs.unpaid_lemmas.Words.{scenario_of, subst, sym, ℕ}
use Rattle.audit_law.specs.law.Owed as debts
use Rattle.audit_sweep.proofs.unpaid.debtor.Debtor.unpaid_departure.Goals as goal

pub links-preserved : goal.links-preserved
links-preserved c befallen hs h known there kept =
    let s = scenario_of c.args.self.now befallen in
    let until = c.args.self.now.until in
    let n = c.args.number in
    let place = c.links.place in
    subst (λ (r : Option ℕ). TellsFirst s hs until (IsOfFirst (IsLeavingAt n) (place + 1)) r)
    (sym c.earlier_of-first.ensures)
    (first_of_next s hs until (IsLeavingAt n) place c.links.first c.unpaid_leaving.result
    (c.links.invariant befallen hs h known there kept)
    (first_of_one s hs until known.founded (debts.departure n (record { 0 = place })) c.unpaid_leaving.result
    (c.unpaid_leaving.ensures befallen hs h known there kept)))

pub returns : goal.returns
returns c befallen hs known =
    let s = scenario_of c.args.self.now befallen in
    let until = c.args.self.now.until in
    let n = c.args.number in
    let count = c.links.place in
    let got = c.in-Some.ensures hs known.kept in
    first_of_more s hs until (IsOfFirst (IsLeavingAt n) count) (IsLeavingDebtOf n) c.links.first
    (λ o is. subst (IsLeavingDebtOf n) (sym is.2) refl)
    (leaving_within s hs until n count
    (omega (arith, c.links-test.false, c.links.auto.place-end, ap length c.as_slice-place-end.ensures)))
    (c.links.invariant befallen hs got.0 known got.1 got.2)

pub returns-then-not-may_give : goal.returns-then-not-may_give
returns-then-not-may_give c befallen hs known =
    let network = c.args.self.now.network.now in
    let got = c.in-Some.ensures hs known.kept in
    none_leaves (scenario_of c.args.self.now befallen) hs c.args.self.now.until c.args.number got.0 got.1
    (λ may.
    both_ways c.may_give.result c.if-not-may_give.true
    (c.may_give.ensures ∙ ap (λ (r : KeptRecord). may_give network r.kept) got.2 ∙ may))
