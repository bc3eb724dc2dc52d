use Rattle.std.proofs.Common.{◌+◌, arith}
use Rattle.schedule_checker.proofs.ShapeRules.{keeps_next, shape_number, shape_rules, tells}
use Rattle.schedule_checker.proofs.judge.judge_shape.Goals as goal

pub rules-preserved : goal.rules-preserved
rules-preserved c =
    search (arith, keeps_next, shape_rules, shape_number)

pub returns-in-Some-clause-told : goal.returns-in-Some-clause-told
returns-in-Some-clause-told c =
    rw c.rule.ensures
    (tells (1 + c.rules.rule-index) c.rules.invariant
    (shape_number c.rules.rule-index c.rules-test.true) c.in-Some.ensures.some)

pub returns-in-Some-clause-shape : goal.returns-in-Some-clause-shape
returns-in-Some-clause-shape c = rw c.rule.ensures (omega (arith, shape_number c.rules.rule-index c.rules-test.true, c.rules-test.true))

pub returns-in-Some-clause-place : goal.returns-in-Some-clause-place
returns-in-Some-clause-place c = rw c.rule.ensures c.in-Some.ensures.place
