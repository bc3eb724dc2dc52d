use Rattle.lens_flows.{proofs.judge_lemmas.Comings.{Comes, has_come, tells_come, when_true}, specs.judge.{Courses.scenario_of, Fates.ReachesInStep}}
use Rattle.{lens_flows.specs.judge.Times.NoneWithin, std.proofs.Common.{refl}}
use Rattle.lens_flows.proofs.judge.course.Course.has_come_in_step.Goals as goal

pub returns-then-comes_in_step : goal.returns-then-comes_in_step
returns-then-comes_in_step c befallen hs known =
    let s = scenario_of c.args.self.now befallen in
    let device = c.args.device in
    let w = when_true c.comes_in_step.result (Comes s hs device c.args.cycle c.args.place c.args.before)
    (NoneWithin (ReachesInStep s hs device c.args.cycle c.args.place) _ c.args.before)
    c.if-comes_in_step.true (c.comes_in_step.ensures befallen hs known) in
    (λ e. has_come s hs device c.args.cycle c.args.place c.args.before w, λ come. refl)

pub returns : goal.returns
returns c befallen hs known =
    let s = scenario_of c.args.self.now befallen in
    tells_come s hs c.args.device c.args.cycle c.args.place c.args.before c.comes_in_step-2.result (c.comes_in_step-2.ensures befallen hs known)
