use Rattle.audit_law.proofs.law_lemmas.Owed.{settled_law}
use Rattle.audit_law.proofs.law.debt_laws.settled_law.Goals as goal

pub returns : goal.returns
returns c = settled_law
