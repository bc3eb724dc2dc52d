use Rattle.precision_law.proofs.traffic_lemmas.existence_lemmas.Existence.{runs_exist}
use Rattle.precision_law.proofs.traffic.existence.laws.runs_exist.Goals as goal

pub returns : goal.returns
returns c = runs_exist
