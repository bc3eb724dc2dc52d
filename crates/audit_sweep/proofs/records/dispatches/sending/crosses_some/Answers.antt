use Rattle.{audit_devices.specs.clocks.Finding.IsNextOrNone, std.proofs.Common.{◌↔◌, Bool, IsTrue, subst, sym}}
use Rattle.audit_law.specs.events.Readings.{clock_reading}
use Rattle.audit_sweep.{proofs.records_lemmas.dispatches_lemmas.Dispatches.crossed_at}
use Rattle.audit_sweep.{specs.records.dispatches.Sent.CrossesSome}
use Rattle.audit_sweep.proofs.records.dispatches.sending.crosses_some.Goals as goal

pub returns : goal.returns
returns c network befallen remembers has =
    let reading = clock_reading network befallen c.args.device in
    let shown = c.args.shown.now in
    subst (λ (b : Bool). IsTrue b ↔ CrossesSome reading shown c.args.series c.args.time) (sym c.is_some.ensures)
    (crossed_at reading shown c.args.series c.args.time c.next_crossing.result
    (subst (λ n. IsNextOrNone reading shown c.args.series n c.args.time c.next_crossing.result) c.saturating_sub.ensures
    (c.next_crossing.ensures.is network befallen remembers has)))
