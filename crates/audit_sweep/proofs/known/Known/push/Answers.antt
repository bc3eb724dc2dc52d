use Rattle.audit_sweep.proofs.Words.{◌∙◌, DeviceId, KeptRecord, ap, happening, refl, scenario_under, subst, sym}
use Rattle.audit_devices.specs.{Keeping.IsSeen, Showing.IsReading}
use Rattle.audit_sweep.proofs.Lacks.{records_next, show_next, steady, subject_there, takes_rightly, young_next}
use Rattle.audit_sweep.proofs.known.Known.push.Goals as goal

pub returns-clause-known : goal.returns-clause-known
returns-clause-known c befallen hs k founded all due =
    let network = c.args.network.now in
    let note = c.args.note.now in
    let s = scenario_under network befallen in
    let h = happening network hs note in
    let time = c.amount-time.ensures.value in
    let kept = c.make-kept.ensures hs note k.records refl (sym time) in
    let carried = c.carried_by-carried.ensures h (sym (ap (λ (r : KeptRecord). r.frame) kept)) in
    let on = λ (device : DeviceId). c.reading_law.ensures network befallen device k.events.range k.events.within k.events.begun in
    let order = c.points_rise.ensures s hs h c.requires.range (λ device. (on device).never_falls) founded all due in
    let seen : IsSeen s h c.amount-time.result note.body c.carried_by-carried.result c.readings-readings.result = record {
      body_is = refl;
      met = λ device of. record {
        time = time;
        body_is = refl;
        frame = carried;
        reading = subst (λ t. IsReading s device t c.readings-readings.result) time
            (c.readings-readings.ensures network befallen device k.events (subject_there network note.body device c.requires.judgeable.of_network of) of);
        steady = steady s device (on device);
      };
    } in
    record {
      events = k.events;
      end = k.end;
      entrances = k.entrances;
      exits = k.exits;
      records = records_next hs h c.make-kept.result c.args.self.now.records c.push-4.new.self k.records kept c.in_ok-push-4.ensures;
      by_cause = show_next network hs note k.by_cause;
      young = young_next due k.young;
      standings = c.in_ok-push.ensures.stands s hs h refl seen all k.standings;
      standing = c.push.ensures.count ∙ k.standing;
      takings = c.in_ok-push-2.ensures.taken network hs h time refl refl (takes_rightly due) all k.takings;
      takers = c.push-2.ensures.count ∙ k.takers;
      stretches = c.in_ok-push-3.ensures.stands hs h (record { time = time; body_is = refl; frame = carried }) all order.stands k.stretches;
      collectors = c.push-3.ensures.count ∙ k.collectors;
    }
