use Rattle.audit_law.specs.law.Changes.{OwesChange}
use Rattle.audit_sweep.proofs.unpaid_lemmas.PaidChanges.{change_marked, change_of_record, change_paid, owed_change}
use Rattle.audit_sweep.proofs.unpaid_lemmas.Words.{◌≡◌, ◌≤◌, KeptRecord, ap, arith, both_ways, scenario_of, subst, time_of}
use Rattle.audit_sweep.proofs.unpaid.debtor.Debtor.unpaid_change.Goals as goal

pub returns-in-None : goal.returns-in-None
returns-in-None c befallen hs known owed =
    absurd (change_of_record (scenario_of c.args.self.now befallen) hs c.args.self.now.until owed
    (c.in-None.ensures hs known.kept))

pub returns-then-of : goal.returns-then-of
returns-then-of c befallen hs known owed =
    let got = c.in-Some.ensures hs known.kept in
    let so = c.of.ensures hs got.0 known.paid got.1 in
    change_paid (scenario_of c.args.self.now befallen) (so.change.0 c.if-of.true)

pub returns-then-self-kept : goal.returns-then-self-kept
returns-then-self-kept c befallen hs known owed =
    let got = c.in-Some.ensures hs known.kept in
    let late = (owed_change (scenario_of c.args.self.now befallen) hs c.args.self.now.until got.0 got.1 owed).1 in
    absurd (omega (arith, late, ap (λ (r : KeptRecord). r.time) got.2, c.if-self-kept.true))

pub returns-then-not-changes_state : goal.returns-then-not-changes_state
returns-then-not-changes_state c befallen hs known owed =
    let s = scenario_of c.args.self.now befallen in
    let n = c.args.number in
    let got = c.in-Some.ensures hs known.kept in
    let has = (owed_change s hs c.args.self.now.until got.0 got.1 owed).0 in
    absurd (both_ways c.changes_state.result c.if-not-changes_state.true
    ((c.changes_state.ensures befallen hs n got.0 known got.1 got.2).1 has))

pub returns : goal.returns
returns c befallen hs known =
    let s = scenario_of c.args.self.now befallen in
    let n = c.args.number in
    let until = c.args.self.now.until in
    let got = c.in-Some.ensures hs known.kept in
    let so = c.of.ensures hs got.0 known.paid got.1 in
    let has = (c.changes_state.ensures befallen hs n got.0 known got.1 got.2).0 c.if-not-changes_state.false in
    let time : c.in-Some.kept.now.time ≡ time_of got.0 = ap (λ (r : KeptRecord). r.time) got.2 in
    let owed : OwesChange s hs until n = record {
      device = has.device;
      time = time_of got.0;
      state = has.state;
      why = has.why;
      brought = has.brought;
      changes = has.changes;
      timely = subst (λ t. t ≤ until) time c.if-self-kept.false;
    } in
    record {
      owed = owed;
      unpaid = λ paid. both_ways c.of.result.change c.if-of.false
          (so.change.1 (change_marked s hs until known.founded owed paid));
      at = time;
    }
