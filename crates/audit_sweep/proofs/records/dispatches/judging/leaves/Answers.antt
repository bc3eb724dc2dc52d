use Rattle.{audit_devices.specs.clocks.Moments.StandsAt, audit_law.specs.events.Readings.scenario_under, std.proofs.Common.refl}
use Rattle.audit_sweep.proofs.records.dispatches.judging.leaves.Goals as goal

pub returns : goal.returns
returns c befallen hs known =
    let network = c.args.network.now in
    let s = scenario_under network befallen in
    let stands : StandsAt s hs network c.args.at.device c.args.at.time c.of-moment.result c.args.shown.now =
    record { of_network = refl; befalls = c.of-moment.ensures network befallen known.remembered known.device; shows = known.shows } in
    c.dispatches.ensures s hs c.args.at.time stands (λ switch. c.last_accepted-accepted.ensures network hs known.taken switch)
