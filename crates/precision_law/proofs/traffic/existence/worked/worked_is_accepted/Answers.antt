use Rattle.precision_law.proofs.traffic_lemmas.existence_lemmas.worked_lemmas.WorkedNetwork
use WorkedNetwork.{worked_in_range, worked_keeps_rules}
use Rattle.precision_law.proofs.traffic.existence.worked.worked_is_accepted.Goals as goal

pub returns-clause-range : goal.returns-clause-range
returns-clause-range c = worked_in_range

pub returns-clause-rules : goal.returns-clause-rules
returns-clause-rules c = worked_keeps_rules
