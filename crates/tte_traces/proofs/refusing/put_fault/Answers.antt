use Rattle.{tte_forms.specs.Answering.line_answer, tte_traces.specs.FaultLine.trace_refusal_line}
use Rattle.tte_traces.proofs.Words.{◌≡◌, Gives, Shown, Status, TraceFault, TraceRefused, fault_answer, shown_by, subst, sym, ℕ}
use Rattle.tte_traces.proofs.refusing.put_fault.Goals as goal

-- the answer about one fault under two names
same_fault : {f fault : TraceFault} (number : ℕ) {status : Status} {old new : Shown} → f ≡ fault → Gives (fault_answer number fault) status old new
    → Gives (fault_answer number f) status old new
same_fault {f} {fault} number {status} {old} {new} is g = subst (λ x. Gives (fault_answer number x) status old new) (sym is) g

pub returns-in-Missing-clause-gives : goal.returns-in-Missing-clause-gives
returns-in-Missing-clause-gives g c = same_fault c.args.number c.in-Missing.is c.put_refusal.ensures.gives

pub returns-in-After-clause-gives : goal.returns-in-After-clause-gives
returns-in-After-clause-gives g c = same_fault c.args.number c.in-After.is c.put_refusal-in-After.ensures.gives

pub returns-in-Long-clause-gives : goal.returns-in-Long-clause-gives
returns-in-Long-clause-gives g c = same_fault c.args.number c.in-Long.is c.put_refusal-in-Long.ensures.gives

pub returns-in-Line-clause-gives : goal.returns-in-Line-clause-gives
returns-in-Line-clause-gives g c =
    let shown = shown_by g.K.Sink in
    same_fault c.args.number c.in-Line.is
    (subst (λ reason. Gives (line_answer TraceRefused (trace_refusal_line c.args.number reason)) c.put_refusal-in-Line.result
    (shown c.args.out.now) (shown c.put_refusal-in-Line.new.out)) c.line_reason.ensures.text c.put_refusal-in-Line.ensures.gives)

pub returns-in-Event-clause-gives : goal.returns-in-Event-clause-gives
returns-in-Event-clause-gives g c = same_fault c.args.number c.in-Event.is c.put_outside.ensures.gives
