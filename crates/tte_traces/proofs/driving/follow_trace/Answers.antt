use Rattle.tte_traces.{proofs.Ends.no_memory, specs.Answer.IsTraceAnswer}
use Rattle.tte_traces.proofs.driving.follow_trace.Goals as goal

pub returns-in-Err-clause-ends : goal.returns-in-Err-clause-ends
returns-in-Err-clause-ends g c = λ lines along.
    no_memory (λ trace. IsTraceAnswer lines trace c.args.accepted.now) lines c.args.accepted.now (g.B.Source.left c.args.second.now) _
    (along.at_first c.args.accepted.now)
