use Rattle.{lens_flows.specs.judge.Courses.{IsCourse, scenario_of}, run_law.specs.records.Happenings.Happening, std.proofs.Common.{◌-◌, ◌≤◌, List, ℕ}}
use Rattle.{lens_flows.specs.judge.Fates.{Ends, IsSent}, net_plan.specs.declared.event.Event.Event}
use Rattle.lens_flows.proofs.judge.course.Course.is_owed.Given as goal

-- at no end so far the frame was sent
abbrev pub invariant-ends : goal.invariant-ends
invariant-ends l =
    (l.from ≤ l.after)
    × ((befallen : List Event) (hs : List Happening) → IsCourse befallen hs l.self
    → (to : ℕ) → Ends (scenario_of l.self befallen) hs l.self.until l.flow l.cycle l.from to → to ≤ l.after
    → IsSent (scenario_of l.self befallen) hs l.flow l.cycle to → ⊥)

abbrev pub decreases-ends : goal.decreases-ends
decreases-ends l = l.self.until - l.after
