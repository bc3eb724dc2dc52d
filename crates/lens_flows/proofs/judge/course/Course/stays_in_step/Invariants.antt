use Rattle.lens_flows.{proofs.judge_lemmas.Judging.StaysSynchronised, specs.judge.Courses.{IsCourse, scenario_of}}
use Rattle.{net_plan.specs.declared.event.Event.Event, run_law.specs.records.Happenings.Happening, std.proofs.Common.{◌+◌, ◌-◌, ◌≤◌, List}}
use Rattle.lens_flows.proofs.judge.course.Course.stays_in_step.Given as goal

abbrev pub invariant-stretches : goal.invariant-stretches
invariant-stretches l =
    (l.from ≤ l.after) × (l.after ≤ l.to + 1)
    × ((befallen : List Event) (hs : List Happening) → IsCourse befallen hs l.self → StaysSynchronised (scenario_of l.self befallen) hs l.device l.from l.after)

abbrev pub decreases-stretches : goal.decreases-stretches
decreases-stretches l = l.to + 1 - l.after
