use Rattle.{audit_law.specs.events.Readings.clock_reading, std.proofs.Common.{pos, subst, sym}}
use Rattle.audit_sweep.{proofs.records_lemmas.dispatches_lemmas.Dispatches.crossed_alone}
use Rattle.audit_sweep.{specs.records.dispatches.Crossing.{IsCrossingOrNone, first_time}}
use Rattle.audit_sweep.proofs.records.dispatches.crossing.crossing_time.Goals as goal

pub returns : goal.returns
returns c network befallen remembers has =
    let reading = clock_reading network befallen c.args.device in
    let on = c.reading_law.ensures network befallen c.args.device remembers.range remembers.within remembers.begun in
    subst (λ o. IsCrossingOrNone reading c.args.shown.now (pos c.args.value) c.args.after c.args.until o) (sym c.first_time.ensures)
    (subst (λ v. IsCrossingOrNone reading c.args.shown.now v c.args.after c.args.until (first_time c.next_crossing.result)) c.alone.ensures.first
    (crossed_alone c.args.shown.now c.alone.result c.args.after c.args.until c.next_crossing.result on
    c.alone.ensures.far c.requires.limit
    (c.next_crossing.ensures.is network befallen remembers has)))
