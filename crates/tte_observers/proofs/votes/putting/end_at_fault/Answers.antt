use Rattle.tte_forms.{proofs.{Puts.PutFails-more, frames.Frames.Gives-behind}, specs.Faults.IsWanted}
use Rattle.tte_traces.specs.Refusing.{fault_answer}
use Rattle.{tte_io.specs.Faults.Rose, tte_observers.proofs.votes_lemmas.Words.{fault_lines, fault_status, inl, inr, refl, shown_by, subst}}
use Rattle.tte_observers.proofs.votes.putting.end_at_fault.Goals as goal

pub returns-in-Ok-clause-gives : goal.returns-in-Ok-clause-gives
returns-in-Ok-clause-gives g c = λ voters notes holds.
    let shown = shown_by g.K.Sink in
    Gives-behind (fault_answer c.args.line c.args.fault) c.put_fault.result
    (c.in-Ok.ensures.lines voters notes holds).all c.put_fault.ensures.gives

pub returns-in-Err-clause-gives : goal.returns-in-Err-clause-gives
returns-in-Err-clause-gives g c = λ voters notes holds.
    let shown = shown_by g.K.Sink in
    inr (inl (
      refl,
      inl (PutFails-more (fault_lines c.args.line c.args.fault) (c.in-Err.ensures.lines voters notes holds).fails),
    ))

pub returns-in-Ok-clause-status : goal.returns-in-Ok-clause-status
returns-in-Ok-clause-status g c =
    subst (λ n. IsWanted (fault_status c.args.fault) c.put_fault.result (Rose n (g.K.Sink.faults c.put_fault.new.out))) c.in-Ok.ensures.cause.quiet
    c.put_fault.ensures.status

pub returns-in-Err-clause-status : goal.returns-in-Err-clause-status
returns-in-Err-clause-status g c = inr (refl, c.in-Err.ensures.cause.rose)
