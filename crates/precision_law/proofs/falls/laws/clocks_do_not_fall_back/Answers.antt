use Rattle.precision_law.proofs.falls_lemmas.Views.{never_fall}
use Rattle.precision_law.proofs.falls.laws.clocks_do_not_fall_back.Goals as goal

pub returns : goal.returns
returns c = never_fall
