use Rattle.audit_law.proofs.law_lemmas.EventDebts.{event_law}
use Rattle.audit_law.proofs.law.debt_laws.event_law.Goals as goal

pub returns : goal.returns
returns c = event_law
