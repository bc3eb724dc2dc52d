use Rattle.lens_slack.proofs.Taken.{ArePushed}
use Rattle.lens_slack.proofs.measuring.push_spots.Given as goal

abbrev pub invariant-spots : goal.invariant-spots
invariant-spots l = ArePushed l.plan.network.now l.measure l.number l.fn.findings.items l.findings.items
