use Rattle.std.proofs.Common.{◌+◌, arith, get_or}
use Rattle.schedule_checker.{proofs.ShapeRules.{keeps_next, plan_number, plan_rules, tells}, specs.Judging.plan_rule}
use Rattle.schedule_checker.specs.declared.parts.PlanRule.TheVariants as plans
use Rattle.schedule_checker.proofs.judge.judge_plan.Goals as goal

pub rules-preserved : goal.rules-preserved
rules-preserved c =
    keeps_next c.args.plan.now.network.now (plan_rule (get_or plan_rules c.rules.rule-index plans.Delays)) (8 + c.rules.rule-index)
    (8 + (c.rules.rule-index + 1))
    (omega arith) c.rules.invariant
    (plan_number c.rules.rule-index c.rules-test.true) c.in-None.ensures.none

pub returns-in-Some-clause-told : goal.returns-in-Some-clause-told
returns-in-Some-clause-told c =
    rw c.rule.ensures
    (tells (8 + c.rules.rule-index) c.rules.invariant
    (plan_number c.rules.rule-index c.rules-test.true) c.in-Some.ensures.some)
