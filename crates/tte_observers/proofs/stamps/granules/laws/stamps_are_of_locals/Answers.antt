use Rattle.tte_observers.proofs.stamps_lemmas.granules_lemmas.Stamped.{of_locals}
use Rattle.tte_observers.proofs.stamps.granules.laws.stamps_are_of_locals.Goals as goal

pub returns : goal.returns
returns c = of_locals
