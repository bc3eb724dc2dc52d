use Rattle.precision_law.proofs.traffic_lemmas.Safe.{paces_are_kept}
use Rattle.precision_law.proofs.traffic.laws.deliveries_keep_pace.Goals as goal

pub returns : goal.returns
returns c = paces_are_kept
