-- How many cycles of a flow have each fate.
use Rattle.std.specs.Prelude.{◌≡◌, ◌⊎◌, ◌<◌, ℕ, ◌+◌, List}
use Rattle.{lens_flows.specs.counts.Ordered.IsCountOf, run_law.specs.records.Happenings.Happening}
use Rattle.lens_flows.specs.declared.{counts.counting.FateCounts.FateCounts, judge.beginning.Begun.Begun}
use Rattle.lens_flows.specs.{declared.judge.course.Course.Course, judge.Courses.{IsCourse, scenario_of}}
use Rattle.lens_flows.specs.{declared.judge.{fate.Fate.Fate, flow.Flow.Flow}, judge.Fates.{HasFate, IsBegun}}
use Rattle.{lens_flows.specs.judge.Certain.IsCertainFrom, net_plan.specs.declared.event.Event.Event}
use Rattle.run_law.specs.scenario.Scenarios.{Scenario}
use Rattle.schedule_tables.specs.Windows.{OccursIn}
use Rattle.lens_flows.specs.declared.judge.fate.Fate.TheVariants as fates

-- at the time the receiver's clock begins a cycle of the flow that has this fate
abbrev pub HasFateAt : Scenario → List Happening → ℕ → Flow → Fate → ℕ → Type 0
HasFateAt s hs until flow fate t = (cycle : ℕ) × IsBegun s hs until flow cycle t × HasFate s hs until flow cycle t fate

-- how many of them have the fate
abbrev pub count_of : FateCounts → Fate → ℕ
count_of counts fates.Owed = counts.owed
count_of counts fates.Receiver = counts.receiver
count_of counts fates.Sender = counts.sender
count_of counts fates.End = counts.end

-- one more that has it
abbrev pub counted : FateCounts → Fate → FateCounts
counted counts fates.Owed = record counts { owed = counts.owed + 1 }
counted counts fates.Receiver = record counts { receiver = counts.receiver + 1 }
counted counts fates.Sender = record counts { sender = counts.sender + 1 }
counted counts fates.End = record counts { end = counts.end + 1 }

-- each count is less than this
abbrev pub AreBelow : ℕ → FateCounts → Type 0
AreBelow limit counts =
    (counts.owed < limit) × (counts.receiver < limit) × (counts.sender < limit) × (counts.end < limit)

-- in a run: the cycle that begins so was counted by its fate, if the virtual link occurs in it
abbrev pub IsCycleCounted : Course → Flow → Begun → FateCounts → FateCounts → Type 0
IsCycleCounted course flow begun old new =
    ((OccursIn flow.of_vl begun.cycle → ⊥) × (new ≡ old))
    ⊎ ((fate : Fate) × OccursIn flow.of_vl begun.cycle × (new ≡ counted old fate)
    × ((befallen : List Event) (hs : List Happening) → IsCourse befallen hs course
    → IsBegun (scenario_of course befallen) hs course.until flow begun.cycle begun.time
    → HasFate (scenario_of course befallen) hs course.until flow begun.cycle begun.time fate))

-- in a run: the cycle that begins so was counted, if delivery is owed in it by events alone
abbrev pub IsCertainCounted : Course → Flow → Begun → ℕ → ℕ → Type 0
IsCertainCounted course flow begun old new =
    (OccursIn flow.of_vl begun.cycle × (new ≡ old + 1)
    × ((befallen : List Event) (hs : List Happening) → IsCourse befallen hs course
    → IsBegun (scenario_of course befallen) hs course.until flow begun.cycle begun.time
    → IsCertainFrom (scenario_of course befallen) hs course.until flow begun.cycle begun.time))
    ⊎ ((new ≡ old)
    × ((befallen : List Event) (hs : List Happening) → IsCourse befallen hs course
    → IsBegun (scenario_of course befallen) hs course.until flow begun.cycle begun.time
    → IsCertainFrom (scenario_of course befallen) hs course.until flow begun.cycle begun.time → ⊥))

-- so many cycles of the flow have each fate
abbrev pub AreFateCounts : Scenario → List Happening → ℕ → Flow → FateCounts → Type 0
AreFateCounts s hs until flow counts = (fate : Fate) → IsCountOf (HasFateAt s hs until flow fate) (count_of counts fate)
