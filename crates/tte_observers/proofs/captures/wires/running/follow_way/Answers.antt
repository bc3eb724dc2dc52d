use Rattle.tte_observers.proofs.captures_lemmas.wires_lemmas.{Words.{◌∙◌, [], ap, fault_status, subst, sym}}
use Rattle.tte_observers.proofs.captures_lemmas.wires_lemmas.Along.{IsOwn, ends_all, ends_fault, lines, way_along}
use Rattle.tte_observers.proofs.captures_lemmas.wires_lemmas.Along.{way_sees, way_stops}
use Rattle.tte_traces.proofs.Ends.{ends_for, ends_memory, ends_read, ends_unpassed, ends_write, memory_cause}
use Rattle.world_drive.specs.Observing.{FailsBy}
use Rattle.tte_traces.{proofs.Taken.gave_none, specs.Taking.GaveEvents}
use Rattle.tte_observers.proofs.captures.wires.running.follow_way.Goals as goal

pub drive-requires-clause-source : goal.drive-requires-clause-source
drive-requires-clause-source g c =
    subst (λ m. GaveEvents g.B.Source m c.args.second.now [] c.args.second.now c.new-trace.result) (sym c.network-network.ensures.value)
    (gave_none g.B.Source c.args.second.now c.new-trace.ensures.follows c.new-trace.ensures.reads)

pub end_capture-requires : goal.end_capture-requires
end_capture-requires g c = c.in-All.ensures.sees.limit

pub returns-in-All-clause-ends : goal.returns-in-All-clause-ends
returns-in-All-clause-ends g c =
    let begun = c.args.capture.now in
    ends_for (IsOwn begun) c.network-network.ensures.value
    (ends_all g.B.Source g.K.Sink begun _ _ _ _ _ _ _ _ _ c.end_capture.result c.end_capture.new.out c.in-All.ensures c.end_capture.ensures.gives
    c.end_capture.ensures.status)

pub returns-in-Stopped-Fault-clause-ends : goal.returns-in-Stopped-Fault-clause-ends
returns-in-Stopped-Fault-clause-ends g c =
    let begun = c.args.capture.now in
    let end = c.end_capture-in-Stopped-Fault in
    ends_for (IsOwn begun) c.network-network.ensures.value
    (ends_fault g.B.Source g.K.Sink begun _ _ _ _ _ _ _ _ _ c.in-Stopped-Fault.fault end.result end.new.out c.in-Stopped-Fault.ensures
    c.in-Stopped-Fault.field-0-is c.status_of.result (c.status_of.ensures ∙ ap (λ f. fault_status f) c.in-Stopped-Fault.fault-is)
    end.ensures.gives end.ensures.status)

pub returns-in-Stopped-ReadFault-clause-ends : goal.returns-in-Stopped-ReadFault-clause-ends
returns-in-Stopped-ReadFault-clause-ends g c =
    let begun = c.args.capture.now in
    ends_for (IsOwn begun) c.network-network.ensures.value
    (ends_read g.B.Source g.K.Sink begun way_sees way_stops (lines begun) (IsOwn begun) (way_along begun) _ _ _ _ _ _ _ _ _ c.in-Stopped-ReadFault.ensures
    c.in-Stopped-ReadFault.field-0-is)

pub returns-in-Stopped-WriteFault-clause-ends : goal.returns-in-Stopped-WriteFault-clause-ends
returns-in-Stopped-WriteFault-clause-ends g c =
    let begun = c.args.capture.now in
    ends_for (IsOwn begun) c.network-network.ensures.value
    (ends_unpassed g.B.Source g.K.Sink begun way_sees way_stops (lines begun) (IsOwn begun) (way_along begun) _ _ _ _ _ _ _ _ _
    c.in-Stopped-WriteFault.ensures)

pub returns-in-Cut-WriteFault-clause-ends : goal.returns-in-Cut-WriteFault-clause-ends
returns-in-Cut-WriteFault-clause-ends g c =
    let begun = c.args.capture.now in
    ends_for (IsOwn begun) c.network-network.ensures.value
    (ends_write g.B.Source g.K.Sink begun way_sees way_stops (lines begun) (IsOwn begun) (way_along begun) _ _ _ _ _ _ _ _ c.in-Cut-WriteFault.ensures
    c.in-Cut-WriteFault.field-0-is)

pub returns-in-Cut-OutOfMemory-clause-ends : goal.returns-in-Cut-OutOfMemory-clause-ends
returns-in-Cut-OutOfMemory-clause-ends g c =
    let begun = c.args.capture.now in
    ends_for (IsOwn begun) c.network-network.ensures.value
    (ends_memory g.B.Source g.K.Sink begun way_sees way_stops (lines begun) (IsOwn begun) (way_along begun) _ _ _ _ _ _ _ _ c.in-Cut-OutOfMemory.ensures
    c.end_with.result c.end_with.new.out c.in-Cut-OutOfMemory.field-0-is c.end_with.ensures.ends)

pub returns-in-Cut-WriteFault-clause-cause : goal.returns-in-Cut-WriteFault-clause-cause
returns-in-Cut-WriteFault-clause-cause g c = record {
  read = λ is. absurd cc;
  write = λ is. subst (FailsBy g.K.Sink c.args.out.now c.drive.new.out) c.in-Cut-WriteFault.field-0-is c.in-Cut-WriteFault.ensures.cause;
}

pub returns-in-Cut-OutOfMemory-clause-cause : goal.returns-in-Cut-OutOfMemory-clause-cause
returns-in-Cut-OutOfMemory-clause-cause g c =
    let still = subst (FailsBy g.K.Sink c.args.out.now c.drive.new.out) c.in-Cut-OutOfMemory.field-0-is c.in-Cut-OutOfMemory.ensures.cause in
    memory_cause c.end_with.result _ _ (g.K.Sink.faults c.end_with.new.out) c.end_with.ensures.status still
