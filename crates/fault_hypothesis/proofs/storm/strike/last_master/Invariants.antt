use Rattle.fault_hypothesis.proofs.storm_lemmas.OneStorm.{IsLastBelow}
use Rattle.fault_hypothesis.proofs.storm.strike.last_master.Given as goal

-- the last master so far
abbrev pub invariant-devices : goal.invariant-devices
invariant-devices l = IsLastBelow l.network l.last l.place
