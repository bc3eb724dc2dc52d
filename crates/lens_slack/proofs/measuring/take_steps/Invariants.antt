use Rattle.std.specs.Prelude.{drop}
use Rattle.lens_slack.proofs.Taken.{StandBefore}
use Rattle.lens_slack.proofs.measuring.take_steps.Given as goal

abbrev pub invariant-steps : goal.invariant-steps
invariant-steps l = StandBefore l.plan.network.now l.steps (drop l.step-index l.steps) l.findings.items
