use Rattle.precision_law.proofs.traffic_lemmas.existence_lemmas.worked_lemmas.WorkedNetwork
use WorkedNetwork.{rough_day_lawful, rough_day_under}
use Rattle.precision_law.proofs.traffic.existence.worked.rough_day_is_lawful.Goals as goal

pub returns-clause-under : goal.returns-clause-under
returns-clause-under c = rough_day_under

pub returns-clause-lawful : goal.returns-clause-lawful
returns-clause-lawful c = rough_day_lawful
