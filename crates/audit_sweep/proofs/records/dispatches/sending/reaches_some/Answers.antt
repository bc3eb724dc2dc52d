use Rattle.audit_devices.specs.Showing.{IsSteady}
use Rattle.audit_law.specs.events.Readings.{scenario_under}
use Rattle.audit_sweep.proofs.records_lemmas.dispatches_lemmas.Dispatches.{reached_some}
use Rattle.audit_sweep.proofs.records.dispatches.sending.reaches_some.Goals as goal

pub returns-in-Some : goal.returns-in-Some
returns-in-Some c befallen hs remembers has shows =
    let network = c.args.network.now in
    let device = c.args.device in
    let s = scenario_under network befallen in
    let on = c.reading_law.ensures network befallen device remembers.range remembers.within remembers.begun in
    let steady : IsSteady s device = record { begins = on.begins; never_falls = on.never_falls } in
    let crosses = c.crosses_some.ensures network befallen remembers has in
    let reached = reached_some hs c.args.time c.in-Some.ensures.is steady shows in
    (λ told. reached.0 (crosses.0 told), λ due. crosses.1 (reached.1 due))
