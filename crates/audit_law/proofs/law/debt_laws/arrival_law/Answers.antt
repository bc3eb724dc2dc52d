use Rattle.audit_law.proofs.law_lemmas.Arriving.{arrival_law}
use Rattle.audit_law.proofs.law.debt_laws.arrival_law.Goals as goal

pub returns : goal.returns
returns c = arrival_law
