use Rattle.{net_plan.specs.declared.network.Network.Network, schedule_tables.specs.Rules.IsKeptAt}
use Rattle.{schedule_checker.specs.{Judging.plan_rule, declared.parts.PlanRule.PlanRule}, std.proofs.Common.{◌↔◌, ◌≡◌, Bool, IsTrue, ℕ}}
use Rattle.schedule_checker.proofs.kept.keeps_plan_rule.Goals as goal

-- the test of a rule is the test of an equal one
same_test : (r s : PlanRule) (n : Network) (place : ℕ) (b : Bool) → r ≡ s → (IsTrue b ↔ IsKeptAt (plan_rule s) n place)
    → (IsTrue b ↔ IsKeptAt (plan_rule r) n place)
same_test r s n place b e h = rw e h

pub returns-in-Delays : goal.returns-in-Delays
returns-in-Delays c = same_test _ _ _ _ _ c.in-Delays.is c.delays_fit.ensures

pub returns-in-Settling : goal.returns-in-Settling
returns-in-Settling c = same_test _ _ _ _ _ c.in-Settling.is c.errors_settle.ensures

pub returns-in-VlNamesDiffer : goal.returns-in-VlNamesDiffer
returns-in-VlNamesDiffer c = same_test _ _ _ _ _ c.in-VlNamesDiffer.is c.vl_name_is_new.ensures

pub returns-in-VlIdsDiffer : goal.returns-in-VlIdsDiffer
returns-in-VlIdsDiffer c = same_test _ _ _ _ _ c.in-VlIdsDiffer.is c.vl_id_is_new.ensures

pub returns-in-LinksOnce : goal.returns-in-LinksOnce
returns-in-LinksOnce c = same_test _ _ _ _ _ c.in-LinksOnce.is c.goes_once_by_link.ensures

pub returns-in-WindowEnds : goal.returns-in-WindowEnds
returns-in-WindowEnds c = same_test _ _ _ _ _ c.in-WindowEnds.is c.ends_in_cycle.ensures

pub returns-in-Sources : goal.returns-in-Sources
returns-in-Sources c = same_test _ _ _ _ _ c.in-Sources.is c.has_source.ensures

pub returns-in-Targets : goal.returns-in-Targets
returns-in-Targets c = same_test _ _ _ _ _ c.in-Targets.is c.enters_anew.ensures

pub returns-in-Spacing : goal.returns-in-Spacing
returns-in-Spacing c = same_test _ _ _ _ _ c.in-Spacing.is c.stands_apart.ensures

pub returns-in-BothChannels : goal.returns-in-BothChannels
returns-in-BothChannels c = same_test _ _ _ _ _ c.in-BothChannels.is c.goes_by_both_channels.ensures

pub returns-in-Forwarding : goal.returns-in-Forwarding
returns-in-Forwarding c = same_test _ _ _ _ _ c.in-Forwarding.is c.comes_in_time.ensures
