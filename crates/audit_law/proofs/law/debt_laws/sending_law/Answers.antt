use Rattle.audit_law.proofs.law_lemmas.Owed.{sending_law}
use Rattle.audit_law.proofs.law.debt_laws.sending_law.Goals as goal

pub returns : goal.returns
returns c = sending_law
