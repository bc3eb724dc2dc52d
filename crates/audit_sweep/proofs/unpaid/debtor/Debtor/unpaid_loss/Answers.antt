use Rattle.audit_sweep.proofs.unpaid_lemmas.{PaidLosses.{loss_marked, loss_paid}, Words.{both_ways, scenario_of}}
use Rattle.audit_sweep.proofs.unpaid.debtor.Debtor.unpaid_loss.Goals as goal

pub returns-then-of : goal.returns-then-of
returns-then-of c befallen hs known owed =
    let s = scenario_of c.args.self.now befallen in
    let got = c.in-Some.ensures hs known.kept in
    let so = c.of.ensures hs got.0 known.paid got.1 in
    loss_paid s (so.loss.0 c.if-of.true)

pub returns-in-Some-loss_due : goal.returns-in-Some-loss_due
returns-in-Some-loss_due c befallen hs known =
    let s = scenario_of c.args.self.now befallen in
    let n = c.args.number in
    let until = c.args.self.now.until in
    let got = c.in-Some.ensures hs known.kept in
    let so = c.of.ensures hs got.0 known.paid got.1 in
    let owes = c.in-Some-loss_due.ensures befallen hs got.0 n known.remembers got.1 got.2 in
    record {
      owed = owes.0;
      unpaid = λ paid. both_ways c.of.result.loss c.if-of.false (so.loss.1 (loss_marked s hs until n known.founded owes.0 paid));
      at = owes.3;
    }

pub returns-in-None-loss_due : goal.returns-in-None-loss_due
returns-in-None-loss_due c befallen hs known owed =
    let s = scenario_of c.args.self.now befallen in
    let n = c.args.number in
    let got = c.in-Some.ensures hs known.kept in
    let none = c.in-None-loss_due.ensures befallen hs got.0 n known.remembers got.1 got.2 in
    absurd (none owed)
