use Rattle.audit_sweep.proofs.unpaid_lemmas.{Debts.{permanence_paid, permanence_unpaid}, Words.scenario_of}
use Rattle.audit_sweep.proofs.unpaid.debtor.Debtor.unpaid_permanence.Goals as goal

pub returns-then-of : goal.returns-then-of
returns-then-of c befallen hs known owed =
    let got = c.in-Some.ensures hs known.kept in
    let so = c.of.ensures hs got.0 known.paid got.1 in
    permanence_paid (scenario_of c.args.self.now befallen) (so.permanence.0 c.if-of.true)

pub returns : goal.returns
returns c befallen hs known =
    let n = c.args.number in
    let got = c.in-Some.ensures hs known.kept in
    let so = c.of.ensures hs got.0 known.paid got.1 in
    permanence_unpaid (scenario_of c.args.self.now befallen) hs c.args.self.now.until n c.permanence.result
    known.founded so c.if-of.false
    (c.permanence.ensures befallen hs n got.0 known got.1 got.2)
