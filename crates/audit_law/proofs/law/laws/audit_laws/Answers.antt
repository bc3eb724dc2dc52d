use Rattle.audit_law.proofs.law_lemmas.Owed.{audit_laws}
use Rattle.audit_law.proofs.law.laws.audit_laws.Goals as goal

pub returns : goal.returns
returns c = audit_laws
