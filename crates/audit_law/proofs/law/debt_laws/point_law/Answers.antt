use Rattle.audit_law.proofs.law_lemmas.Correcting.{point_law}
use Rattle.audit_law.proofs.law.debt_laws.point_law.Goals as goal

pub returns : goal.returns
returns c = point_law
