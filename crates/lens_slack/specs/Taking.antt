-- What a step adds to what was found.
use Rattle.std.specs.Prelude.{◌++◌, ◌≡◌, List, Option}
use Rattle.{lens_slack.specs.Finds.{AreFound, some_found}, schedule_tables.specs.Rules.IsKept}
use Rattle.{lens_slack.specs.Spots.{IsTightestOf, spots_of}, schedule_tables.specs.declared.rule.Rule.Rule}
use Rattle.lens_slack.specs.declared.{measuring.Ending.{Ending, TheVariants.{Broken, Whole}}, spot.Measure.Measure}
use Rattle.lens_slack.specs.declared.{spot.Finding.Finding, step.Step.{Step, TheVariants.{Judged, Listed, Measured}}}
use Rattle.{net_plan.specs.declared.network.Network.Network, schedule_checker.specs.Judging.{BreaksAt, plan_rule}}

-- the rule is kept where it goes on, and otherwise it is broken first at the place that is told
abbrev pub Judges : Network → Rule → Ending → Type 0
Judges network rule Whole = IsKept rule network
Judges network rule (Broken told place) = (told ≡ rule) × BreaksAt network rule place

-- the tightest bound of each spot of the measure was added
abbrev pub Pushes : Network → Measure → List Finding → List Finding → Type 0
Pushes network measure old new =
    (found : List Finding) × AreFound network measure 0 (spots_of measure network) found × (new ≡ old ++ found)

-- the step was taken
abbrev pub Takes : Network → Step → List Finding → List Finding → Ending → Type 0
Takes network (Judged rule) old new end = Judges network (plan_rule rule) end × (new ≡ old)
Takes network (Measured measure) old new end =
    (end ≡ Whole) × ((f : Option Finding) × IsTightestOf network measure f × (new ≡ old ++ some_found f))
Takes network (Listed measure) old new end = (end ≡ Whole) × Pushes network measure old new
