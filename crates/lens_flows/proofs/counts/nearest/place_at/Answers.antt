use Rattle.{lens_flows.specs.judge.Courses.scenario_of, std.{proofs.lemmas.Int.to_z-of_z, specs.Int.w128}}
use Rattle.{run_law.specs.device.{Standpoints.offset_in_cycle, States.adjustment_before}, std.proofs.Common.{◌+ℤ◌, ◌∙◌, ap, arith, pos, rules, ℤ}}
use Rattle.lens_flows.proofs.counts.nearest.place_at.Goals as goal

pub before_time-shown-requires : goal.before_time-shown-requires
before_time-shown-requires c =
    let there = c.requires.device in
    let all = c.requires.fit.standing in
    omega (arith, there, all)

pub returns-clause-place : goal.returns-clause-place
returns-clause-place c befallen hs known =
    let s = scenario_of c.args.course.now befallen in
    let shows = c.before_time-shown.ensures s hs known.stands in
    let reading = c.reading-reading.ensures s.network befallen known.remembers c.requires.device in
    let value = to_z-of_z w128 c.local.result (search rules) ∙ c.local.ensures.value in
    c.from_begin.ensures.same ∙ to_z-of_z w128 c.place_in_cycle.result (search rules) ∙ c.place_in_cycle.ensures.value
    ∙ ap (λ z. offset_in_cycle s.network z) (value ∙ ap (λ z. pos c.reading-reading.result +ℤ z) shows.adjustment
    ∙ ap (λ n. pos n +ℤ (adjustment_before s hs c.args.device c.args.time).0) reading)
