use Rattle.fault_hypothesis.proofs.storm_lemmas.Storms.{storms_within}
use Rattle.fault_hypothesis.proofs.storm.laws.storms_are_within.Goals as goal

pub returns : goal.returns
returns c = storms_within
