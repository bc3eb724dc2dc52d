use Rattle.{lens_flows.specs.judge.{Courses.{IsCourse, scenario_of}, Fates.ReachesInStep, Times.NoneWithin}, run_law.specs.records.Happenings.Happening}
use Rattle.{net_plan.specs.declared.event.Event.Event, std.proofs.Common.{◌+◌, ◌-◌, ◌≤◌, List}}
use Rattle.lens_flows.proofs.judge.course.Course.comes_in_step.Given as goal

abbrev pub invariant-times : goal.invariant-times
invariant-times l =
    (l.after ≤ l.from)
    × ((befallen : List Event) (hs : List Happening) → IsCourse befallen hs l.self
    → NoneWithin (ReachesInStep (scenario_of l.self befallen) hs l.device l.cycle l.place) l.after (l.from + 1))

abbrev pub decreases-times : goal.decreases-times
decreases-times l = l.before - l.from
