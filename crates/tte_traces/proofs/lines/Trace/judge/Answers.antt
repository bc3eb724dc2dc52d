use Rattle.tte_traces.{proofs.{Admitted.long_some, Words.subst}, specs.Following.IsFound}
use Rattle.tte_traces.proofs.lines.Trace.judge.Goals as goal

pub returns-in-Whole-clause-judged : goal.returns-in-Whole-clause-judged
returns-in-Whole-clause-judged c network events rest f found =
    let whole = subst (λ t. IsFound rest t c.args.self.now.reader) c.in-Whole.is found in
    c.take_line.ensures.judged network events rest f whole

pub returns-in-Some-clause-judged : goal.returns-in-Some-clause-judged
returns-in-Some-clause-judged c network events rest f found =
    let long = subst (λ t. IsFound rest t c.args.self.now.reader) c.in-Long.is found in
    (c.in-Some.ensures.fault network events rest f (long_some rest long), f)

pub returns-in-None-clause-judged : goal.returns-in-None-clause-judged
returns-in-None-clause-judged c network events rest f found =
    let long = subst (λ t. IsFound rest t c.args.self.now.reader) c.in-Long.is found in
    ((c.in-None.ensures.fault network events rest f (long_some rest long), long), f)
