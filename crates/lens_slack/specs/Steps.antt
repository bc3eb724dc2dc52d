-- The order in which the rules behind those of the shape are looked at.
use Rattle.std.specs.Prelude.{◌++◌, ◌∷◌, List, [], map}
use Rattle.schedule_checker.specs.declared.parts.PlanRule.TheVariants.{BothChannels, LinksOnce, Periods, RowsOfDevice}
use Rattle.schedule_checker.specs.declared.parts.PlanRule.TheVariants.{Senders, Sources, Targets, VlIdsDiffer}
use Rattle.schedule_checker.specs.declared.parts.PlanRule.TheVariants.{VlNamesDiffer}
use Rattle.schedule_tables.specs.declared.rule.Rule.{Rule}
use Rattle.lens_slack.specs.declared.spot.Measure.TheVariants.{Begin, Comings, Correction, End, Gaps, Paths, Precision}
use Rattle.lens_slack.specs.declared.spot.Measure.TheVariants.{Settled, Windows}
use Rattle.lens_slack.specs.{Spots.measures_of, declared.step.Step.{Step, TheVariants.{Judged, Listed, Measured}}}
use Rattle.schedule_tables.specs.declared.rule.Rule.TheVariants as rules

-- the rules that the inequalities of rows suppose
abbrev pub supposed : List Step
supposed =
    Judged VlNamesDiffer ∷ Judged VlIdsDiffer ∷ Judged Periods ∷ Judged Senders ∷ Judged LinksOnce ∷ Judged Sources
    ∷ Judged Targets ∷ []

-- for all inequalities: each comes behind the rules that it supposes
abbrev pub all_steps : List Step
all_steps =
    (Measured Paths ∷ Measured Settled ∷ Measured Precision ∷ Measured Correction ∷ Measured Begin ∷ Measured End ∷ [])
    ++ supposed
    ++ (Measured Windows ∷ Measured Gaps ∷ Measured Comings ∷ Judged BothChannels ∷ Judged RowsOfDevice ∷ [])

-- what the rule supposes beside the shape
abbrev pub steps_before : Rule → List Step
steps_before rules.WindowEnds = supposed
steps_before rules.Spacing = supposed
steps_before rules.Forwarding = supposed
steps_before other = []

-- for each place of one rule
abbrev pub rule_steps : Rule → List Step
rule_steps rule = steps_before rule ++ map (λ measure. Listed measure) (measures_of rule)
