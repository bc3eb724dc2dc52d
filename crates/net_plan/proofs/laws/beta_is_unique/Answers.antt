use Rattle.net_plan.proofs.Trees.{beta_is_unique}
use Rattle.net_plan.proofs.laws.beta_is_unique.Goals as goal

pub returns : goal.returns
returns c = beta_is_unique
