use Rattle.tte_traces.proofs.{Runs.{PutsNote, further_err, further_ok, own_note, report_fails, report_more}}
use Rattle.tte_traces.proofs.{Words.{Err, Ok}}
use Rattle.tte_traces.proofs.report.ReportObserver.record.Goals as goal

pub put_note-requires-clause-of_network : goal.put_note-requires-clause-of_network
put_note-requires-clause-of_network g c =
    let m = c.requires.may in
    own_note m.notes c.args.note.now m.given.stands

pub returns-in-Ok-clause-goes : goal.returns-in-Ok-clause-goes
returns-in-Ok-clause-goes g c events notes instant old given seen =
    let n : PutsNote {T = Unit {0}} g.K.Sink c.args.network.now c.args.note.now (Ok (tt {0})) c.args.out.now c.put_note.new.out = record {
      all = c.in-Ok.ensures.all;
      front = c.in-Ok.ensures.front;
      counted = c.in-Ok.ensures.counted;
      cut = c.in-Ok.ensures.cut;
    } in
    report_more g.K.Sink c.args.network.now notes c.args.note.now (tt {0}) old.told seen n

pub returns-in-Ok-clause-puts : goal.returns-in-Ok-clause-puts
returns-in-Ok-clause-puts g c =
    let n : PutsNote {T = Unit {0}} g.K.Sink c.args.network.now c.args.note.now (Ok (tt {0})) c.args.out.now c.put_note.new.out = record {
      all = c.in-Ok.ensures.all;
      front = c.in-Ok.ensures.front;
      counted = c.in-Ok.ensures.counted;
      cut = c.in-Ok.ensures.cut;
    } in
    further_ok g.K.Sink c.args.network.now c.args.note.now (tt {0}) _ n

pub returns-in-Err-clause-goes : goal.returns-in-Err-clause-goes
returns-in-Err-clause-goes g c events notes instant old given seen =
    let n : PutsNote {T = Unit {0}} g.K.Sink c.args.network.now c.args.note.now (Err c.in-Err.cut) c.args.out.now c.put_note.new.out = record {
      all = c.in-Err.ensures.all;
      front = c.in-Err.ensures.front;
      counted = c.in-Err.ensures.counted;
      cut = c.in-Err.ensures.cut;
    } in
    report_fails g.K.Sink c.args.network.now notes c.args.note.now c.in-Err.cut old.told seen n

pub returns-in-Err-clause-puts : goal.returns-in-Err-clause-puts
returns-in-Err-clause-puts g c =
    let n : PutsNote {T = Unit {0}} g.K.Sink c.args.network.now c.args.note.now (Err c.in-Err.cut) c.args.out.now c.put_note.new.out = record {
      all = c.in-Err.ensures.all;
      front = c.in-Err.ensures.front;
      counted = c.in-Err.ensures.counted;
      cut = c.in-Err.ensures.cut;
    } in
    further_err g.K.Sink c.args.network.now c.args.note.now c.in-Err.cut n
