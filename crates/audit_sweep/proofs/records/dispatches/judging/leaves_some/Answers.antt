use Rattle.audit_law.specs.events.Readings.{scenario_under}
use Rattle.audit_sweep.proofs.records_lemmas.dispatches_lemmas.Dispatches.{passed_none, passed_some}
use Rattle.std.proofs.Common.{◌∙◌, sym}
use Rattle.audit_sweep.proofs.records.dispatches.judging.leaves_some.Goals as goal

pub returns-in-Some : goal.returns-in-Some
returns-in-Some c befallen hs known found kept =
    let s = scenario_under c.args.network.now befallen in
    let loss = c.args.loss.now in
    let by = passed_some s hs c.args.at.device c.args.at.time loss.link loss.cause loss.kept c.in-Some.dispatch found kept c.if-loss-eq0.false
    (sym c.passed.ensures ∙ c.in-Some.is) in
    let leaves = c.leaves.ensures befallen hs known in
    (λ told. by.0 (leaves.0 told), λ some. leaves.1 (by.1 some))

pub returns-in-None : goal.returns-in-None
returns-in-None c befallen hs known found kept =
    let s = scenario_under c.args.network.now befallen in
    let loss = c.args.loss.now in (
      λ told. absurd cc,
      λ some. absurd (passed_none s hs c.args.at.device c.args.at.time loss.link loss.cause loss.kept found kept c.if-loss-eq0.false
          (sym c.passed.ensures ∙ c.in-None.is) some),
    )
