use Rattle.precision_law.proofs.traffic_lemmas.Safe.{ports_are_apart}
use Rattle.precision_law.proofs.traffic.laws.ports_stay_apart.Goals as goal

pub returns : goal.returns
returns c = ports_are_apart
