use Rattle.drift_clock.proofs.transparent_lemmas.WaitLaw.{waits_for_point}
use Rattle.drift_clock.proofs.transparent.laws.waiting_law.Goals as goal

pub returns : goal.returns
returns c = waits_for_point
