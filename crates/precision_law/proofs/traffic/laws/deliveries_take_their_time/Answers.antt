use Rattle.precision_law.proofs.traffic_lemmas.Safe.{times_are_taken}
use Rattle.precision_law.proofs.traffic.laws.deliveries_take_their_time.Goals as goal

pub returns : goal.returns
returns c = times_are_taken
