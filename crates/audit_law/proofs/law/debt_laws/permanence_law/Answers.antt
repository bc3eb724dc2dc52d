use Rattle.audit_law.proofs.law_lemmas.Permanence.{permanence_law}
use Rattle.audit_law.proofs.law.debt_laws.permanence_law.Goals as goal

pub returns : goal.returns
returns c = permanence_law
