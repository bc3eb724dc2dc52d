use Rattle.audit_sweep.proofs.unpaid_lemmas.Words.{both_ways, scenario_of}
use Rattle.audit_sweep.proofs.unpaid_lemmas.{PaidArrivals.{arrival_marked, arrival_paid}, Payers.shows_by_cause}
use Rattle.audit_sweep.proofs.unpaid.debtor.Debtor.unpaid_arrival.Goals as goal

pub returns-then-of : goal.returns-then-of
returns-then-of c befallen hs known owed =
    let s = scenario_of c.args.self.now befallen in
    let got = c.in-Some.ensures hs known.kept in
    let so = c.of.ensures hs got.0 known.paid got.1 in
    arrival_paid s (so.arrival.0 c.if-of.true)

pub returns-in-Some-arrival_due : goal.returns-in-Some-arrival_due
returns-in-Some-arrival_due c befallen hs known =
    let s = scenario_of c.args.self.now befallen in
    let n = c.args.number in
    let until = c.args.self.now.until in
    let got = c.in-Some.ensures hs known.kept in
    let so = c.of.ensures hs got.0 known.paid got.1 in
    let owes = c.in-Some-arrival_due.ensures.owed befallen hs got.0 n known.remembers got.1 (shows_by_cause s hs n got.0 known.founded got.1) got.2 in
    record {
      owed = owes.0;
      unpaid = λ paid. both_ways c.of.result.arrival c.if-of.false (so.arrival.1 (arrival_marked s hs until n known.founded owes.0 paid));
      at = owes.3;
    }

pub returns-in-None-arrival_due : goal.returns-in-None-arrival_due
returns-in-None-arrival_due c befallen hs known owed =
    let s = scenario_of c.args.self.now befallen in
    let n = c.args.number in
    let got = c.in-Some.ensures hs known.kept in
    let none = c.in-None-arrival_due.ensures.owed befallen hs got.0 n known.remembers got.1 (shows_by_cause s hs n got.0 known.founded got.1) got.2 in
    absurd (none owed)
