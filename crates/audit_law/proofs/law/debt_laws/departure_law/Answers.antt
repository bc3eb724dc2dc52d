use Rattle.audit_law.proofs.law_lemmas.Departing.{departure_law}
use Rattle.audit_law.proofs.law.debt_laws.departure_law.Goals as goal

pub returns : goal.returns
returns c = departure_law
