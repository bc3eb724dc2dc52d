use Rattle.{lens_flows.specs.counts.Told.AreToldOf, std.proofs.Common.{List, take}}
use Rattle.{lens_flows.specs.judge.Courses.{IsCourse, scenario_of}, net_plan.specs.declared.event.Event.Event, run_law.specs.records.Happenings.Happening}
use Rattle.lens_flows.proofs.counts.told.tell_all.Given as goal

abbrev pub invariant-flows : goal.invariant-flows
invariant-flows l =
    (befallen : List Event) (hs : List Happening) → IsCourse befallen hs l.course
    → AreToldOf (scenario_of l.course befallen) hs l.course.until l.deliveries (take l.flow-index l.fn.flows) l.told.items
