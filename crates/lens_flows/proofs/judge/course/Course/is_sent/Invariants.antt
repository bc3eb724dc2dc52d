use Rattle.{lens_flows.specs.judge.Courses.{IsCourse, scenario_of}, net_plan.specs.declared.event.Event.Event, run_law.specs.records.Happenings.Happening}
use Rattle.{lens_flows.specs.judge.Fates.IsRowSent, std.proofs.Common.{◌<◌, List, ℕ}}
use Rattle.lens_flows.proofs.judge.course.Course.is_sent.Given as goal

-- the rows so far did so
abbrev pub invariant-rows : goal.invariant-rows
invariant-rows l =
    (befallen : List Event) (hs : List Happening) → IsCourse befallen hs l.self
    → (k : ℕ) → k < l.place → IsRowSent (scenario_of l.self befallen) hs l.flow l.cycle l.before k
