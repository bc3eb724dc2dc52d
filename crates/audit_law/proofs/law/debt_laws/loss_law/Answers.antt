use Rattle.audit_law.proofs.law_lemmas.EventDebts.{loss_law}
use Rattle.audit_law.proofs.law.debt_laws.loss_law.Goals as goal

pub returns : goal.returns
returns c = loss_law
