-- What is found of a network by steps, and how it ends.
use Rattle.std.specs.List.{count_by}
use Rattle.std.specs.Prelude.{◌++◌, ◌+◌, ◌<◌, ◌∷◌, ◌≡◌, ◌⊎◌, List, None, Option, Some, [], suc, zero, ℕ}
use Rattle.lens_slack.specs.declared.{measuring.Ending.{Ending, TheVariants.{Broken, Whole}}, spot.Measure.Measure}
use Rattle.lens_slack.specs.declared.{spot.Finding.Finding, step.Step.{Step, TheVariants.{Judged, Listed, Measured}}}
use Rattle.lens_slack.specs.{Spots.{IsTightestOf, spot_at, spots_of}, Tightest.{IsTightestAt, is_short}}
use Rattle.{net_plan.specs.declared.network.Network.Network, schedule_checker.specs.Judging.{BreaksAt, plan_rule}}
use Rattle.schedule_tables.specs.{Numbers.number_of, Rules.{IsFirstBroken, IsKept, KeepsBelow}, declared.rule.Rule.Rule}

-- how many of the findings are short
abbrev pub shorts_of : List Finding → ℕ
shorts_of fs = count_by is_short fs

-- the finding, if there is one
abbrev pub some_found : Option Finding → List Finding
some_found None = []
some_found (Some f) = f ∷ []

-- the tightest bounds of so many spots of the measure, from the one of this number on, of those that have any
abbrev pub AreFound : Network → Measure → ℕ → ℕ → List Finding → Type 0
AreFound network measure first zero fs = fs ≡ []
AreFound network measure first (suc n) fs =
    (f : Option Finding) × (others : List Finding) × IsTightestAt network (spot_at measure first) f
    × AreFound network measure (first + 1) n others × (fs ≡ some_found f ++ others)

-- by these steps this is found, and so it ends: with all steps, or with the first place of a rule that is broken and is
-- no inequality
abbrev pub AreOf : Network → List Step → List Finding → Ending → Type 0
AreOf network [] fs end = (fs ≡ []) × (end ≡ Whole)
AreOf network (Judged rule ∷ steps) fs end =
    (IsKept (plan_rule rule) network × AreOf network steps fs end)
    ⊎ ((place : ℕ) × BreaksAt network (plan_rule rule) place × (fs ≡ []) × (end ≡ Broken (plan_rule rule) place))
AreOf network (Measured measure ∷ steps) fs end =
    (f : Option Finding) × (others : List Finding) × IsTightestOf network measure f × AreOf network steps others end
    × (fs ≡ some_found f ++ others)
AreOf network (Listed measure ∷ steps) fs end =
    (found : List Finding) × (others : List Finding) × AreFound network measure 0 (spots_of measure network) found
    × AreOf network steps others end × (fs ≡ found ++ others)

-- by these steps behind the rules of the shape
abbrev pub IsFoundIn : Network → List Step → List Finding → Ending → Type 0
IsFoundIn network steps fs end =
    ((rule : Rule) × (place : ℕ) × (number_of rule < 8) × IsFirstBroken network rule place × (fs ≡ [])
    × (end ≡ Broken rule place))
    ⊎ (KeepsBelow 8 network × AreOf network steps fs end)
