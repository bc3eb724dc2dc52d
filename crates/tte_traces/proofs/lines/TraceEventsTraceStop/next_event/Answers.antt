use Rattle.{tte_traces.proofs.Taken.{stop_given, trace_gives}, world_drive.specs.Sources.given_in}
use Rattle.tte_traces.{proofs.Words.ap, specs.declared.fault.TraceStop.TheVariants.{ReadFault, WriteFault}}
use Rattle.tte_traces.proofs.lines.TraceEventsTraceStop.next_event.Goals as goal

pub returns-clause-gives : goal.returns-clause-gives
returns-clause-gives g c network first origin events gave =
    let event = c.next_event.new.event in
    let result = c.next_event.result in
    trace_gives g.B.Source g.K.Sink network first origin events c.args.from.now c.next_event.new.source c.args.self.now c.next_event.new.self c.args.out.now
    c.next_event.new.out gave (given_in result event) (record {
      follows = c.next_event.ensures.follows;
      takes = c.next_event.ensures.takes;
      unchanged = λ not. c.next_event.ensures.unchanged (λ is. not (ap (λ r. given_in r event) is));
      failed_rose = λ is. c.next_event.ensures.failed_rose (stop_given result event ReadFault is);
      passed = λ is. c.next_event.ensures.passed (stop_given result event ReadFault is);
      quiet = λ not. c.next_event.ensures.quiet (λ is. not (ap (λ r. given_in r event) is));
      unpassed = λ is. c.next_event.ensures.unpassed (stop_given result event WriteFault is);
    })
