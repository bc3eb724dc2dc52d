use Rattle.{audit_devices.specs.clocks.Moments.StandsAt, std.proofs.{Common.{◌∙◌, refl, sym}, lemmas.Bool.false≢true}}
use Rattle.audit_law.specs.events.Readings.{scenario_under}
use Rattle.audit_sweep.proofs.records_lemmas.dispatches_lemmas.Dispatches.{fit_rows, some_sent}
use Rattle.audit_sweep.proofs.records.dispatches.sending.sends_some.Goals as goal

pub sends_by_some-requires-clause-rows : goal.sends_by_some-requires-clause-rows
sends_by_some-requires-clause-rows c =
    fit_rows c.requires.range (c.on.ensures c.args.network.now c.requires.exits)

pub returns-then-is_up : goal.returns-then-is_up
returns-then-is_up c befallen hs remembers has shows numbered =
    let network = c.args.network.now in
    let device = c.args.device in
    let s = scenario_under network befallen in
    let stands : StandsAt s hs network device c.args.time c.of.result c.args.shown.now =
    record { of_network = refl; befalls = c.of.ensures network befallen remembers has; shows = shows } in
    let up = (c.is_up.ensures s hs network device c.args.time stands).0 c.if-is_up.true in
    let by = c.sends_by_some.ensures befallen hs remembers has shows in
    let some = some_sent (c.on.ensures network c.requires.exits) up numbered in
    (λ told. some.0 (by.0 told), λ does. by.1 (some.1 does))

pub returns-else-is_up : goal.returns-else-is_up
returns-else-is_up c befallen hs remembers has shows numbered =
    let network = c.args.network.now in
    let device = c.args.device in
    let s = scenario_under network befallen in
    let stands : StandsAt s hs network device c.args.time c.of.result c.args.shown.now =
    record { of_network = refl; befalls = c.of.ensures network befallen remembers has; shows = shows } in (
      λ told. absurd (false≢true (sym c.if-is_up.false ∙ told)),
      λ does. (c.is_up.ensures s hs network device c.args.time stands).1 does.2.up,
    )
