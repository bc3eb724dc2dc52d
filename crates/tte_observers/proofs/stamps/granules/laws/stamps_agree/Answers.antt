use Rattle.tte_observers.proofs.stamps_lemmas.granules_lemmas.Stamped.{agree}
use Rattle.tte_observers.proofs.stamps.granules.laws.stamps_agree.Goals as goal

pub returns : goal.returns
returns c = agree
