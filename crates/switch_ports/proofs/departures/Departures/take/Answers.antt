use Rattle.switch_ports.proofs.Words.{◌==◌, ◌∙◌, IsTakingAt, amount, ap, refl, slice_set, subst, sym, with_taking}
use Rattle.switch_ports.{specs.Leaving.key_by}
use Rattle.switch_ports.proofs.RowKeys.{fit_taken, mine_held, of_taken, other_same, own_row, ready_changed, taken_all}
use Rattle.switch_ports.proofs.RowKeys.{taking_on}
use Rattle.switch_ports.proofs.departures.Departures.take.Goals as goal

pub rows-preserved : goal.rows-preserved
rows-preserved c =
    let old = c.args.self.now in
    let mid = c.rows.self in
    let place = c.in-Some.place in
    let f = with_taking (amount c.args.length) c.args.changed.0 c.args.taking in
    let vl = c.args.taking.vl.0 in
    let here = c.index_mut-departure.result.now in
    let inv = subst (λ at. IsTakingAt f vl at old mid) c.in-Some.is c.rows.invariant in
    let mine = own_row place here inv c.index_mut-departure.ensures.value in
    let held = mine_held (amount c.args.length) c.args.changed.0 c.args.taking here mine in
    let taken = c.take.ensures ∙ sym held ∙ ap f c.index_mut-departure.ensures.value in
    let key = c.set.ensures ∙ ap (slice_set mid.keys place) (c.key.ensures ∙ ap key_by taken) in
    taking_on f vl place old mid _ here c.requires.ready.chained
    (λ d other. other_same (amount c.args.length) c.args.changed.0 c.args.taking d other) inv c.index_mut-departure.ensures.value
    (record { rows = ap (slice_set mid.rows.items place) taken; lasts = refl; keys = key })

pub first-self-requires-clause-ready : goal.first-self-requires-clause-ready
first-self-requires-clause-ready c =
    let old = c.args.self.now in
    let taking = c.args.taking in
    let f = with_taking (amount c.args.length) c.args.changed.0 taking in
    let inv = subst (λ at. IsTakingAt f taking.vl.0 at old c.rows.self) c.in_default.is c.rows.invariant in
    ready_changed (taken_all inv)
    (λ d. of_taken (amount c.args.length) taking.cycle c.args.changed.0 taking.at.0 d (d.of.vl.0 == taking.vl.0))
    (λ d. fit_taken (amount c.args.length) taking.cycle c.args.changed.0
    taking.at.0 {d = d} (d.of.vl.0 == taking.vl.0) c.requires.taking.cycle) c.requires.ready
