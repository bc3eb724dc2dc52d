use Rattle.fault_hypothesis.proofs.storm_lemmas.OneStorm.{one_storm}
use Rattle.fault_hypothesis.proofs.storm.laws.storm_is_one.Goals as goal

pub returns : goal.returns
returns c = one_storm
