use Rattle.tte_observers.proofs.stamps_lemmas.granules_lemmas.Stamped.{tell_order}
use Rattle.tte_observers.proofs.stamps.granules.laws.stamps_tell_order.Goals as goal

pub returns : goal.returns
returns c = tell_order
