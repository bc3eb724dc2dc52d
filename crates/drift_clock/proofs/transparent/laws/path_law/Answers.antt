use Rattle.drift_clock.proofs.transparent_lemmas.HopLaw.{permanent_in_time}
use Rattle.drift_clock.proofs.transparent.laws.path_law.Goals as goal

pub returns : goal.returns
returns c = permanent_in_time
