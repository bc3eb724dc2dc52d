use Rattle.{lens_flows.specs.judge.Courses.{IsCourse, scenario_of}, net_plan.specs.declared.event.Event.Event, run_law.specs.records.Happenings.Happening}
use Rattle.{lens_flows.specs.judge.Times.NoneWithin, run_law.specs.law.Safety.ReachesPlace, std.proofs.Common.{◌+◌, ◌-◌, ◌≤◌, List}}
use Rattle.lens_flows.proofs.judge.course.Course.first_reached.Given as goal

abbrev pub invariant-stretches : goal.invariant-stretches
invariant-stretches l =
    (l.after ≤ l.from)
    × ((befallen : List Event) (hs : List Happening) → IsCourse befallen hs l.self
    → NoneWithin (ReachesPlace (scenario_of l.self befallen) hs l.device l.cycle l.place) l.after (l.from + 1))

abbrev pub decreases-stretches : goal.decreases-stretches
decreases-stretches l = l.until - l.from
