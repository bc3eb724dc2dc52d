use Rattle.audit_law.proofs.law_lemmas.Founded.{change_law}
use Rattle.audit_law.proofs.law.debt_laws.change_law.Goals as goal

pub returns : goal.returns
returns c = change_law
