use Rattle.{lens_slack.proofs.least_lemmas.Late.late_in_range}
use Rattle.lens_slack.proofs.least.answering.with_late.Goals as goal

pub returns-clause-range : goal.returns-clause-range
returns-clause-range c = late_in_range c.requires
