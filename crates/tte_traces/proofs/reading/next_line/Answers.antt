use Rattle.tte_io.proofs.LineReading.{outcome_told}
use Rattle.tte_traces.{proofs.{Admitted.{failed_over, found_over, unmoved, unread}, Words.{Err, Ok, TraceStop}}}
use Rattle.tte_traces.{specs.declared.fault.TraceStop.TheVariants.{ReadFault, WriteFault}}
use Rattle.tte_traces.proofs.reading.next_line.Goals as goal

pub returns-in-Some-clause-next : goal.returns-in-Some-clause-next
returns-in-Some-clause-next g c = found_over _ _ _ _ _ c.in-Some.found (c.in-Some.ensures.found (g.B.Source.left c.args.source.now))

pub returns-in-Some-clause-told : goal.returns-in-Some-clause-told
returns-in-Some-clause-told g c = outcome_told _ _ _ (returns-in-Some-clause-next g c)

pub returns-in-Err-clause-next : goal.returns-in-Err-clause-next
returns-in-Err-clause-next g c =
    unread _ _ (g.B.Source.left c.args.source.now) WriteFault c.in-None.ensures.none.0 c.in-None.ensures.none.1
    c.in-None.ensures.none.2

pub returns-in-Err-clause-told : goal.returns-in-Err-clause-told
returns-in-Err-clause-told g c = outcome_told _ _ _ (returns-in-Err-clause-next g c)

pub returns-in-Ok-next_line-clause-next : goal.returns-in-Ok-next_line-clause-next
returns-in-Ok-next_line-clause-next g c =
    let left = g.B.Source.left c.args.source.now in
    let after = g.B.Source.left c.next_line.new.source in
    let next = found_over {F = TraceStop} _ _ left c.next_line.new.self after c.in-Ok-next_line.found c.in-Ok-next_line.ensures.next in
    unmoved _ _ c.in-None.ensures.none next

pub returns-in-Ok-next_line-clause-told : goal.returns-in-Ok-next_line-clause-told
returns-in-Ok-next_line-clause-told g c = outcome_told _ _ _ (returns-in-Ok-next_line-clause-next g c)

pub returns-in-Err-next_line-clause-next : goal.returns-in-Err-next_line-clause-next
returns-in-Err-next_line-clause-next g c =
    let left = g.B.Source.left c.args.source.now in
    let after = g.B.Source.left c.next_line.new.source in
    let next = failed_over _ _ left c.next_line.new.self after _ ReadFault c.in-Err-next_line.ensures.next in
    unmoved _ _ c.in-None.ensures.none next

pub returns-in-Err-next_line-clause-told : goal.returns-in-Err-next_line-clause-told
returns-in-Err-next_line-clause-told g c = outcome_told _ _ _ (returns-in-Err-next_line-clause-next g c)
