use Rattle.audit_law.proofs.law_lemmas.Owed.{lack_law}
use Rattle.audit_law.proofs.law.debt_laws.lack_law.Goals as goal

pub returns : goal.returns
returns c = lack_law
