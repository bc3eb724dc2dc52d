use Rattle.lens_slack.proofs.{Taken.bounds_decide, Verdict.{accepts, refuses}}
use Rattle.lens_slack.proofs.laws.slack_law.Goals as goal

pub returns-clause-bounds : goal.returns-clause-bounds
returns-clause-bounds c = bounds_decide

pub returns-clause-accepts : goal.returns-clause-accepts
returns-clause-accepts c = accepts

pub returns-clause-refuses : goal.returns-clause-refuses
returns-clause-refuses c = refuses
