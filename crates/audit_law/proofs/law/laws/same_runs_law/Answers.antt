use Rattle.audit_law.proofs.law_lemmas.SameDue.{same_runs}
use Rattle.audit_law.proofs.law.laws.same_runs_law.Goals as goal

pub returns : goal.returns
returns c = same_runs
