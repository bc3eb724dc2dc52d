use Rattle.tte_audit.proofs.Passed.{passed_law}
use Rattle.tte_audit.proofs.laws.passed_law.Goals as goal

pub returns : goal.returns
returns c = passed_law
