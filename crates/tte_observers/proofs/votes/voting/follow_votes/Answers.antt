use Rattle.{tte_forms.specs.Faults.PutFailed, tte_traces.specs.{Taking.GaveEvents, declared.fault.TraceFault.TraceFault}, world_drive.specs.Observing.FailsBy}
use Rattle.tte_observers.proofs.votes_lemmas.VoteLines.{IsOwn, ends_all, ends_fault, vote_sees, vote_stops, votes_along}
use Rattle.tte_traces.proofs.{Taken.gave_none}
use Rattle.tte_traces.proofs.Ends.{IsStatusOf, ends_for, ends_memory, ends_read, ends_unpassed, ends_write}
use Rattle.tte_traces.proofs.Ends.{memory_cause}
use Rattle.tte_observers.proofs.votes_lemmas.Words.{◌++◌, ◌+◌, Gives, [], arith, fault_lines, fault_status, no_lines, shown_by, subst, sym, vote_lines}
use Rattle.tte_observers.proofs.votes.voting.follow_votes.Goals as goal

pub drive-requires-clause-source : goal.drive-requires-clause-source
drive-requires-clause-source g c =
    subst (λ m. GaveEvents g.B.Source m c.args.second.now [] c.args.second.now c.new-trace.result) (sym c.network-network.ensures.value)
    (gave_none g.B.Source c.args.second.now c.new-trace.ensures.follows c.new-trace.ensures.reads)

pub returns-in-All-clause-ends : goal.returns-in-All-clause-ends
returns-in-All-clause-ends g c =
    let begun = c.args.voter.now in
    let d = c.in-All.ensures in
    ends_for (IsOwn begun) c.network-network.ensures.value
    (ends_all g.B.Source g.K.Sink begun _ _ _ _ _ _ _ _ _ c.end_votes.result c.end_votes.new.out d
    (c.end_votes.ensures.gives begun.votes.voters d.notes d.sees.votes) c.end_votes.ensures.status)

pub returns-in-Stopped-Fault-clause-ends : goal.returns-in-Stopped-Fault-clause-ends
returns-in-Stopped-Fault-clause-ends g c =
    let n = c.network-network.result.now in
    let shown = shown_by g.K.Sink in
    let begun = c.args.voter.now in
    let d = c.in-Stopped-Fault.ensures in
    let mid = c.drive.new.out in
    let line = c.from-line.result + 1 in
    let a = c.from-line.ensures in
    let b = c.lines.ensures in
    let gives = subst (λ (f : TraceFault). Gives (record { status = fault_status f; lines = vote_lines begun.votes.voters n [] d.notes ++ fault_lines line f })
    c.end_at_fault.result (shown mid) (shown c.end_at_fault.new.out)) c.in-Stopped-Fault.fault-is
    (c.end_at_fault.ensures.gives begun.votes.voters d.notes d.sees.votes) in
    let status = subst (λ f. IsStatusOf f c.end_at_fault.result (PutFailed g.K.Sink mid c.end_at_fault.new.out)) c.in-Stopped-Fault.fault-is
    c.end_at_fault.ensures.status in
    ends_for (IsOwn begun) c.network-network.ensures.value
    (ends_fault g.B.Source g.K.Sink begun _ _ _ _ _ _ _ _ _ c.in-Stopped-Fault.fault line c.end_at_fault.result c.end_at_fault.new.out d
    c.in-Stopped-Fault.field-0-is (omega (arith, a, b)) gives status)

pub returns-in-Stopped-ReadFault-clause-ends : goal.returns-in-Stopped-ReadFault-clause-ends
returns-in-Stopped-ReadFault-clause-ends g c =
    let begun = c.args.voter.now in
    ends_for (IsOwn begun) c.network-network.ensures.value
    (ends_read g.B.Source g.K.Sink begun vote_sees vote_stops no_lines (IsOwn begun) (votes_along begun) _ _ _ _ _ _ _ _ _ c.in-Stopped-ReadFault.ensures
    c.in-Stopped-ReadFault.field-0-is)

pub returns-in-Stopped-WriteFault-clause-ends : goal.returns-in-Stopped-WriteFault-clause-ends
returns-in-Stopped-WriteFault-clause-ends g c =
    let begun = c.args.voter.now in
    ends_for (IsOwn begun) c.network-network.ensures.value
    (ends_unpassed g.B.Source g.K.Sink begun vote_sees vote_stops no_lines (IsOwn begun) (votes_along begun) _ _ _ _ _ _ _ _ _
    c.in-Stopped-WriteFault.ensures)

pub returns-in-Cut-WriteFault-clause-ends : goal.returns-in-Cut-WriteFault-clause-ends
returns-in-Cut-WriteFault-clause-ends g c =
    let begun = c.args.voter.now in
    ends_for (IsOwn begun) c.network-network.ensures.value
    (ends_write g.B.Source g.K.Sink begun vote_sees vote_stops no_lines (IsOwn begun) (votes_along begun) _ _ _ _ _ _ _ _ c.in-Cut-WriteFault.ensures
    c.in-Cut-WriteFault.field-0-is)

pub returns-in-Cut-OutOfMemory-clause-ends : goal.returns-in-Cut-OutOfMemory-clause-ends
returns-in-Cut-OutOfMemory-clause-ends g c =
    let begun = c.args.voter.now in
    ends_for (IsOwn begun) c.network-network.ensures.value
    (ends_memory g.B.Source g.K.Sink begun vote_sees vote_stops no_lines (IsOwn begun) (votes_along begun) _ _ _ _ _ _ _ _ c.in-Cut-OutOfMemory.ensures
    c.end_with.result c.end_with.new.out c.in-Cut-OutOfMemory.field-0-is c.end_with.ensures.ends)

pub returns-in-Cut-WriteFault-clause-cause : goal.returns-in-Cut-WriteFault-clause-cause
returns-in-Cut-WriteFault-clause-cause g c = record {
  read = λ is. absurd cc;
  write = λ is. subst (FailsBy g.K.Sink c.args.out.now c.drive.new.out) c.in-Cut-WriteFault.field-0-is c.in-Cut-WriteFault.ensures.cause;
}

pub returns-in-Cut-OutOfMemory-clause-cause : goal.returns-in-Cut-OutOfMemory-clause-cause
returns-in-Cut-OutOfMemory-clause-cause g c =
    let still = subst (FailsBy g.K.Sink c.args.out.now c.drive.new.out) c.in-Cut-OutOfMemory.field-0-is c.in-Cut-OutOfMemory.ensures.cause in
    memory_cause c.end_with.result _ _ (g.K.Sink.faults c.end_with.new.out) c.end_with.ensures.status still
