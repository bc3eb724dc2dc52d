use Rattle.precision_law.proofs.law.Whole.{on_time}
use Rattle.precision_law.proofs.laws.values_are_reached_on_time.Goals as goal

pub returns : goal.returns
returns c = on_time
