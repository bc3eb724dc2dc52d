use Rattle.precision_law.proofs.traffic_lemmas.existence_lemmas.Existence.{runs_exist_to_each_mark}
use Rattle.precision_law.proofs.traffic.existence.laws.runs_exist_to_each_mark.Goals as goal

pub returns : goal.returns
returns c = runs_exist_to_each_mark
