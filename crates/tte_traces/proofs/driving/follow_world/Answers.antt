use Rattle.{tte_forms.specs.Faults.PutFailed, tte_traces.proofs.Taken.gave_none, world_drive.specs.Observing.FailsBy}
use Rattle.tte_traces.proofs.Ends.{IsStatusOf, ends_all, ends_fault, ends_for, ends_memory, ends_read, ends_unpassed}
use Rattle.tte_traces.proofs.Ends.{ends_write, memory_cause}
use Rattle.tte_traces.{proofs.Words.{◌+◌, GaveEvents, Gives, [], arith, fault_answer, shown_by, subst, sym}, specs.Answer.IsTraceAnswer}
use Rattle.tte_traces.proofs.driving.follow_world.Goals as goal

pub drive-requires-clause-source : goal.drive-requires-clause-source
drive-requires-clause-source g c =
    subst (λ m. GaveEvents g.B.Source m c.args.second.now [] c.args.second.now c.new-trace.result) (sym c.network-network.ensures.value)
    (gave_none g.B.Source c.args.second.now c.new-trace.ensures.follows c.new-trace.ensures.reads)

pub returns-in-All-clause-ends : goal.returns-in-All-clause-ends
returns-in-All-clause-ends g c = λ lines along.
    ends_for (IsTraceAnswer lines) c.network-network.ensures.value
    (ends_all g.B.Source g.K.Sink c.args.observer.now _ _ lines along _ _ _ _ _ _ _ _ _ c.in-All.ensures c.end_with.result c.end_with.new.out
    c.end_with.ensures.ends)

pub returns-in-Stopped-Fault-clause-ends : goal.returns-in-Stopped-Fault-clause-ends
returns-in-Stopped-Fault-clause-ends g c = λ lines along.
    let shown = shown_by g.K.Sink in
    let mid = c.drive.new.out in
    let line = c.from-line.result + 1 in
    let gives = subst (λ f. Gives (fault_answer line f) c.put_fault.result (shown mid) (shown c.put_fault.new.out)) c.in-Stopped-Fault.fault-is
    c.put_fault.ensures.gives in
    let status = subst (λ f. IsStatusOf f c.put_fault.result (PutFailed g.K.Sink mid c.put_fault.new.out)) c.in-Stopped-Fault.fault-is
    c.put_fault.ensures.status in
    let a = c.from-line.ensures in
    let b = c.lines.ensures in
    ends_for (IsTraceAnswer lines) c.network-network.ensures.value
    (ends_fault g.B.Source g.K.Sink c.args.observer.now _ _ lines along _ _ _ _ _ _ _ _ _ c.in-Stopped-Fault.ensures _ line c.put_fault.result
    c.put_fault.new.out
    c.in-Stopped-Fault.field-0-is (omega (arith, a, b)) gives status)

pub returns-in-Stopped-ReadFault-clause-ends : goal.returns-in-Stopped-ReadFault-clause-ends
returns-in-Stopped-ReadFault-clause-ends g c = λ lines along.
    ends_for (IsTraceAnswer lines) c.network-network.ensures.value
    (ends_read g.B.Source g.K.Sink c.args.observer.now _ _ lines (IsTraceAnswer lines) along _ _ _ _ _ _ _ _ _ c.in-Stopped-ReadFault.ensures
    c.in-Stopped-ReadFault.field-0-is)

pub returns-in-Stopped-WriteFault-clause-ends : goal.returns-in-Stopped-WriteFault-clause-ends
returns-in-Stopped-WriteFault-clause-ends g c = λ lines along.
    ends_for (IsTraceAnswer lines) c.network-network.ensures.value
    (ends_unpassed g.B.Source g.K.Sink c.args.observer.now _ _ lines (IsTraceAnswer lines) along _ _ _ _ _ _ _ _ _ c.in-Stopped-WriteFault.ensures)

pub returns-in-Cut-WriteFault-clause-ends : goal.returns-in-Cut-WriteFault-clause-ends
returns-in-Cut-WriteFault-clause-ends g c = λ lines along.
    ends_for (IsTraceAnswer lines) c.network-network.ensures.value
    (ends_write g.B.Source g.K.Sink c.args.observer.now _ _ lines (IsTraceAnswer lines) along _ _ _ _ _ _ _ _ c.in-Cut-WriteFault.ensures
    c.in-Cut-WriteFault.field-0-is)

pub returns-in-Cut-OutOfMemory-clause-ends : goal.returns-in-Cut-OutOfMemory-clause-ends
returns-in-Cut-OutOfMemory-clause-ends g c = λ lines along.
    let end = c.end_with-in-Cut-OutOfMemory in
    ends_for (IsTraceAnswer lines) c.network-network.ensures.value
    (ends_memory g.B.Source g.K.Sink c.args.observer.now _ _ lines (IsTraceAnswer lines) along _ _ _ _ _ _ _ _ c.in-Cut-OutOfMemory.ensures end.result
    end.new.out c.in-Cut-OutOfMemory.field-0-is end.ensures.ends)

pub returns-in-Cut-WriteFault-clause-cause : goal.returns-in-Cut-WriteFault-clause-cause
returns-in-Cut-WriteFault-clause-cause g c = record {
  read = λ is. absurd cc;
  write = λ is. subst (FailsBy g.K.Sink c.args.out.now c.drive.new.out) c.in-Cut-WriteFault.field-0-is c.in-Cut-WriteFault.ensures.cause;
}

pub returns-in-Cut-OutOfMemory-clause-cause : goal.returns-in-Cut-OutOfMemory-clause-cause
returns-in-Cut-OutOfMemory-clause-cause g c =
    let end = c.end_with-in-Cut-OutOfMemory in
    let still = subst (FailsBy g.K.Sink c.args.out.now c.drive.new.out) c.in-Cut-OutOfMemory.field-0-is c.in-Cut-OutOfMemory.ensures.cause in
    memory_cause end.result _ _ (g.K.Sink.faults end.new.out) end.ensures.status still
