use Rattle.switch_ports.{proofs.{RowKeys.{closes, fit_closed, of_closed, ready_changed}, Words.{◌==◌, refl}}}
use Rattle.switch_ports.{specs.Leaving.closed}
use Rattle.switch_ports.proofs.departures.Departures.close.Goals as goal

pub first-self-requires-clause-ready : goal.first-self-requires-clause-ready
first-self-requires-clause-ready c =
    let old = c.args.self.now in
    let place = c.args.place in
    let all = closes {place = place} c.index_mut.result.now c.requires.ready c.requires.place c.index_mut.ensures.value
    (record { rows = refl; lasts = refl; keys = c.set.ensures }) in
    ready_changed all (λ d. of_closed d (d.of.place == place)) (λ d. fit_closed {d = d} (d.of.place == place))
    c.requires.ready

pub returns-clause-changes : goal.returns-clause-changes
returns-clause-changes c =
    closes {place = c.args.place} c.index_mut.result.now c.requires.ready c.requires.place c.index_mut.ensures.value
    (record { rows = refl; lasts = refl; keys = c.set.ensures })
