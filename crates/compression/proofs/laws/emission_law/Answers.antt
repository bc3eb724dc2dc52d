use Rattle.compression.proofs.Collectors.{emitted_in_order}
use Rattle.compression.proofs.laws.emission_law.Goals as goal

pub returns : goal.returns
returns c = emitted_in_order
