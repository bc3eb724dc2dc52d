use Rattle.{audit_devices.specs.clocks.Moments.StandsAt, std.proofs.lemmas.Bool.{not-false, not-true}}
use Rattle.audit_sweep.proofs.unpaid_lemmas.points_lemmas.Words.{◌∙◌, false, false≢true, refl, scenario_under, sym, true}
use Rattle.audit_sweep.proofs.unpaid.points.sending.is_unsent.Goals as goal

pub returns-then-is_up-clause-unsent : goal.returns-then-is_up-clause-unsent
returns-then-is_up-clause-unsent c befallen hs remembers has are shows told =
    let s = scenario_under c.args.network.now befallen in
    let stands : StandsAt s hs c.args.network.now c.args.device c.args.crossed.time c.of-moment.result c.args.shown.now =
    record { of_network = refl; befalls = c.of-moment.ensures c.args.network.now befallen remembers has; shows = shows } in (
      (c.is_up.ensures s hs c.args.network.now c.args.device c.args.crossed.time stands).0 c.if-is_up.true,
      λ sent. false≢true (sym (not-true c.is_sent.result told) ∙ (c.is_sent.ensures s hs are).1 sent),
    )

pub returns-then-is_up-clause-sent : goal.returns-then-is_up-clause-sent
returns-then-is_up-clause-sent c befallen hs remembers has are shows told up =
    (c.is_sent.ensures (scenario_under c.args.network.now befallen) hs are).0 (not-false c.is_sent.result told)

pub returns-else-is_up-clause-sent : goal.returns-else-is_up-clause-sent
returns-else-is_up-clause-sent c befallen hs remembers has are shows told up =
    let s = scenario_under c.args.network.now befallen in
    let stands : StandsAt s hs c.args.network.now c.args.device c.args.crossed.time c.of-moment.result c.args.shown.now =
    record { of_network = refl; befalls = c.of-moment.ensures c.args.network.now befallen remembers has; shows = shows } in
    absurd (false≢true (sym c.if-is_up.false ∙ (c.is_up.ensures s hs c.args.network.now c.args.device c.args.crossed.time stands).1 up))
