use Rattle.audit_law.proofs.law_lemmas.EventDebts.{clock_law}
use Rattle.audit_law.proofs.law.debt_laws.clock_law.Goals as goal

pub returns : goal.returns
returns c = clock_law
