use Rattle.{lens_flows.specs.judge.{Beginnings.BeginsOne, Courses.{IsCourse, scenario_of}, Times.NoneWithin}, run_law.specs.records.Happenings.Happening}
use Rattle.{net_plan.specs.declared.event.Event.Event, std.proofs.Common.{◌+◌, ◌-◌, ◌≤◌, List}}
use Rattle.lens_flows.proofs.judge.course.Course.next_begun.Given as goal

abbrev pub invariant-stretches : goal.invariant-stretches
invariant-stretches l =
    (l.after ≤ l.from)
    × ((befallen : List Event) (hs : List Happening) → IsCourse befallen hs l.self
    → NoneWithin (BeginsOne (scenario_of l.self befallen) hs l.device) l.after (l.from + 1))

abbrev pub decreases-stretches : goal.decreases-stretches
decreases-stretches l = l.self.until - l.from
