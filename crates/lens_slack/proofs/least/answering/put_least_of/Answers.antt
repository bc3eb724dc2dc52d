use Rattle.{lens_slack.specs.{Answer.broken_answer, least.Answer.times_answer}, std.proofs.Common.{inl, inr, refl}}
use Rattle.lens_slack.proofs.least.answering.put_least_of.Goals as goal

pub returns-in-Ok-clause-gives : goal.returns-in-Ok-clause-gives
returns-in-Ok-clause-gives g c =
    let n = c.args.network.now in
    let t = c.least_times.result in
    inl (times_answer n t, inr (c.in-Ok.ensures.kept, (t, c.least_times.ensures.least, refl)), c.put_times.ensures.gives)

pub returns-in-Err-clause-gives : goal.returns-in-Err-clause-gives
returns-in-Err-clause-gives g c =
    let n = c.args.network.now in
    let rule = c.in-Err.broken.rule in
    let place = c.in-Err.broken.place in
    inl (broken_answer n rule place, inl (rule, place, c.in-Err.ensures.shape, c.in-Err.ensures.told, refl), c.put_broken.ensures.gives)
