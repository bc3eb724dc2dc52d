use Rattle.switch_ports.proofs.Words.{◌<◌, ◌∙◌, ◌≡◌, ap, arith, length, refl, slice_set}
use Rattle.switch_ports.{proofs.RowKeys.{fit_reopened, ready_changed, reopening_on}, specs.Leaving.{key_by, reopened}}
use Rattle.switch_ports.proofs.departures.Departures.reopen.Goals as goal

pub loop-place-preserved : goal.loop-place-preserved
loop-place-preserved c =
    let old = c.args.self.now in
    let mid = c.loop-place.self in
    let place = c.loop-place.place in
    let inv = c.loop-place.invariant in
    let d = c.index_mut-departure.result.now in
    let size : c.len-place-end.result ≡ length old.rows.items = c.len-place-end.ensures ∙ old.rows.ok.0 in
    let inside : place < length old.rows.items = omega (arith, c.loop-place-test.true, size) in
    let key = c.set.ensures ∙ ap (slice_set mid.keys place) (c.key.ensures ∙ ap key_by c.reopen.ensures) in
    reopening_on d inside inv c.index_mut-departure.ensures.value
    (record { rows = ap (slice_set mid.rows.items place) c.reopen.ensures; lasts = refl; keys = key })

pub first-self-requires-clause-ready : goal.first-self-requires-clause-ready
first-self-requires-clause-ready c =
    let old = c.args.self.now in
    let inv = c.loop-place.invariant in
    let size : c.len-place-end.result ≡ length old.rows.items = c.len-place-end.ensures ∙ old.rows.ok.0 in
    let done = c.loop-place-test.false in
    ready_changed {f = reopened c.args.changed.0} {new = c.loop-place.self} (record {
      rows = record { count = inv.rows.count; each = λ k d lt. inv.rows.done k d (omega (arith, lt, size, done)) lt };
      lasts = inv.lasts;
      keys = inv.keys;
    }) (λ d. refl) (λ d. fit_reopened c.args.changed.0 {d = d}) c.requires.ready
