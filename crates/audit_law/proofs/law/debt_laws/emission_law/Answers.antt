use Rattle.audit_law.proofs.law_lemmas.Owed.{emission_law}
use Rattle.audit_law.proofs.law.debt_laws.emission_law.Goals as goal

pub returns : goal.returns
returns c = emission_law
