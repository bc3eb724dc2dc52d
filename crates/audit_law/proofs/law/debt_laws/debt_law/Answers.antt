use Rattle.audit_law.proofs.law_lemmas.Owed.{debt_law}
use Rattle.audit_law.proofs.law.debt_laws.debt_law.Goals as goal

pub returns : goal.returns
returns c = debt_law
