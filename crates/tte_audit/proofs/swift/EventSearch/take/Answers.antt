use Rattle.tte_audit.proofs.{RightEvents.match_true, Sweeping.one_sought}
use Rattle.tte_audit.proofs.{Words.{BeginsWithRecord, Note, events_of, subst, sym}}
use Rattle.run_law.specs.declared.note.NoteBody.TheVariants.{Event}
use Rattle.tte_audit.proofs.swift.EventSearch.take.Goals as goal

pub returns : goal.returns
returns c report front notes parts sought =
    let network = c.args.network.now in
    let octets = c.args.octets.now in
    let left = c.in_ok-event_record.field-0.now in
    let note : Note = record {
      number = c.read.inside.number;
      time = c.read.inside.event.time;
      body = Event c.read.inside.line c.read.inside.event.what;
    } in
    let begins = subst (λ n. BeginsWithRecord network n octets left) (sym c.read.view_is) c.in_ok-event_record.ensures in
    let more = match_true c.in-Ok-true.field-0 _ _ (c.in-Ok-true.ensures network (events_of notes) sought.follows begins.of_network)
    c.in-Ok-true.field-0-test in
    one_sought network report front _ sought parts begins more.0 more.1 c.in-Ok.ensures.items
