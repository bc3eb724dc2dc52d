use Rattle.run_law.proofs.laws.hypothesis_is_decided.Goals as goal
use Rattle.run_law.proofs.scenario.Decided.{hypothesis_is_decided}

pub returns : goal.returns
returns c = hypothesis_is_decided
