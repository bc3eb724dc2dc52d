use Rattle.lens_slack.proofs.Taken.{StandBefore, drop_all, stand_all, stand_end, stand_first, stand_step}
use Rattle.std.proofs.Common.{arith, subst, sym}
use Rattle.lens_slack.proofs.measuring.take_steps.Goals as goal

pub steps-init : goal.steps-init
steps-init c =
    let network = c.args.plan.now.network.now in
    let steps = c.args.steps.now in
    subst (λ fs. StandBefore network steps steps fs) (sym c.new-findings.ensures.items) (stand_first network steps)

pub steps-preserved : goal.steps-preserved
steps-preserved c =
    let network = c.args.plan.now.network.now in
    let steps = c.args.steps.now in
    stand_step network steps _ c.steps.step-index c.steps.findings.items c.take_step.new.findings.items c.in-Ok-Whole.field-0 c.steps-test.true
    c.steps.invariant c.in-Ok-Whole.ensures.takes c.in-Ok-Whole.field-0-is

pub returns-in-Ok-Broken-clause-are : goal.returns-in-Ok-Broken-clause-are
returns-in-Ok-Broken-clause-are c =
    let network = c.args.plan.now.network.now in
    let steps = c.args.steps.now in
    stand_end network steps _ c.steps.step-index c.steps.findings.items c.take_step.new.findings.items c.in-Ok-Broken.field-0 c.in-Ok-Broken.rule
    c.in-Ok-Broken.place c.steps-test.true c.steps.invariant c.in-Ok-Broken.ensures.takes c.in-Ok-Broken.field-0-is

pub returns-clause-are : goal.returns-clause-are
returns-clause-are c =
    let network = c.args.plan.now.network.now in
    let steps = c.args.steps.now in
    let none = drop_all steps c.steps.step-index (omega (arith, c.steps-test.false)) in
    stand_all network steps c.steps.findings.items
    (subst (λ left. StandBefore network steps left c.steps.findings.items) none c.steps.invariant)
