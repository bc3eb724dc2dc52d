use Rattle.tte_traces.proofs.Runs.{PutsNote, further, own_note, report_goes}
use Rattle.tte_traces.proofs.report.ReportObserver.event.Goals as goal

pub put_event-requires-clause-of_network : goal.put_event-requires-clause-of_network
put_event-requires-clause-of_network g c =
    let m = c.requires.may in
    own_note m.notes c.args.note.now m.befell.stands

pub returns-clause-goes : goal.returns-clause-goes
returns-clause-goes g c events notes old befell seen =
    let n : PutsNote g.K.Sink c.args.network.now c.args.note.now c.put_event.result c.args.out.now c.put_event.new.out = record {
      all = c.put_event.ensures.all;
      front = c.put_event.ensures.front;
      counted = c.put_event.ensures.counted;
      cut = c.put_event.ensures.cut;
    } in
    report_goes g.K.Sink c.args.network.now notes c.args.note.now c.put_event.result old.told seen n

pub returns-clause-puts : goal.returns-clause-puts
returns-clause-puts g c =
    let n : PutsNote g.K.Sink c.args.network.now c.args.note.now c.put_event.result c.args.out.now c.put_event.new.out = record {
      all = c.put_event.ensures.all;
      front = c.put_event.ensures.front;
      counted = c.put_event.ensures.counted;
      cut = c.put_event.ensures.cut;
    } in
    further c.put_event.result n
