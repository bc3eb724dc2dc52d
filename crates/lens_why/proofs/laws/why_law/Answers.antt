use Rattle.lens_why.proofs.Chains.{why_law}
use Rattle.lens_why.proofs.laws.why_law.Goals as goal

pub returns : goal.returns
returns c = why_law
