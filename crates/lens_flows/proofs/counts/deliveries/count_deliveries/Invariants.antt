use Rattle.{lens_flows.specs.{counts.Deliveries.AreDeliveries, judge.Courses.{IsCourse, scenario_of}}, run_law.specs.records.Happenings.Happening}
use Rattle.{net_plan.specs.declared.event.Event.Event, std.proofs.Common.{List, take}}
use Rattle.lens_flows.proofs.counts.deliveries.count_deliveries.Given as goal

-- the deliveries so far are counted
abbrev pub invariant-deliveries : goal.invariant-deliveries
invariant-deliveries l =
    (befallen : List Event) (hs : List Happening) → IsCourse befallen hs l.course
    → AreDeliveries (scenario_of l.course befallen) hs (take l.delivery-index l.fn.deliveries) l.flow l.counted
