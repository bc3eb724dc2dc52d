use Rattle.precision_law.proofs.traffic_lemmas.Safe.{all_are_safe}
use Rattle.precision_law.proofs.traffic.laws.runs_are_safe.Goals as goal

pub returns : goal.returns
returns c = all_are_safe
