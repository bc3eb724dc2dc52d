use Rattle.tte_forms.proofs.Puts.{Ends-gives}
use Rattle.tte_observers.proofs.votes_lemmas.Words.{Done, inl, inr, refl, shown_by, subst}
use Rattle.{tte_forms.specs.Faults.IsWanted, tte_io.specs.Faults.Rose}
use Rattle.tte_observers.proofs.votes.putting.end_votes.Goals as goal

pub returns-in-Ok-clause-gives : goal.returns-in-Ok-clause-gives
returns-in-Ok-clause-gives g c = λ voters notes holds.
    let shown = shown_by g.K.Sink in
    Ends-gives Done c.end_with.result
    (shown c.end_with.new.out) (c.in-Ok.ensures.lines voters notes holds).all c.end_with.ensures.ends

pub returns-in-Err-clause-gives : goal.returns-in-Err-clause-gives
returns-in-Err-clause-gives g c = λ voters notes holds. inr (inl (refl, inl (c.in-Err.ensures.lines voters notes holds).fails))

pub returns-in-Ok-clause-status : goal.returns-in-Ok-clause-status
returns-in-Ok-clause-status g c =
    subst (λ n. IsWanted Done c.end_with.result (Rose n (g.K.Sink.faults c.end_with.new.out))) c.in-Ok.ensures.cause.quiet c.end_with.ensures.status

pub returns-in-Err-clause-status : goal.returns-in-Err-clause-status
returns-in-Err-clause-status g c = inr (refl, c.in-Err.ensures.cause.rose)
