use Rattle.tte_audit.proofs.{Telling.passed_on, Words.refl}
use Rattle.tte_audit.proofs.passes.RecordsTold.pass.Goals as goal

pub returns : goal.returns
returns c network notes note told quiet = passed_on network notes note c.args.self.now _ told quiet refl refl refl
