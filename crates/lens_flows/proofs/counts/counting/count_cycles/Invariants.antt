use Rattle.lens_flows.{proofs.counts_lemmas.Counts.{AreCountsUpTo, AreUpTo, CountsUpTo}}
use Rattle.lens_flows.{specs.judge.{Certain.IsCertainAt, Courses.{IsCourse, scenario_of}}}
use Rattle.{net_plan.specs.declared.event.Event.Event, run_law.specs.records.Happenings.Happening, std.proofs.Common.{◌-◌, ◌^◌, ◌≤◌, List}}
use Rattle.lens_flows.proofs.counts.counting.count_cycles.Given as goal

-- the cycles that have begun are counted, and no count is above the time
abbrev pub invariant-begun : goal.invariant-begun
invariant-begun l =
    (l.after ≤ 2 ^ 60) × AreUpTo l.after l.counts.fates × (l.counts.certain ≤ l.after)
    × ((befallen : List Event) (hs : List Happening) → IsCourse befallen hs l.course
    → AreCountsUpTo (scenario_of l.course befallen) hs l.course.until l.flow l.after l.counts.fates
    × CountsUpTo (IsCertainAt (scenario_of l.course befallen) hs l.course.until l.flow) l.after l.counts.certain)

abbrev pub decreases-begun : goal.decreases-begun
decreases-begun l = l.course.until - l.after
