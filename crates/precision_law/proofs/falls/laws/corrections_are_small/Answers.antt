use Rattle.precision_law.proofs.falls_lemmas.Small.{small}
use Rattle.precision_law.proofs.falls.laws.corrections_are_small.Goals as goal

pub returns : goal.returns
returns c = small
