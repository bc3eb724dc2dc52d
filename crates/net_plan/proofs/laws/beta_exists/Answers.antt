use Rattle.net_plan.proofs.Trees.{beta_exists}
use Rattle.net_plan.proofs.laws.beta_exists.Goals as goal

pub returns : goal.returns
returns c = beta_exists
