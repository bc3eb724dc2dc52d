use Rattle.lens_why.proofs.Grounded.{names_earlier}
use Rattle.lens_why.proofs.laws.names_law.Goals as goal

pub returns : goal.returns
returns c = names_earlier
