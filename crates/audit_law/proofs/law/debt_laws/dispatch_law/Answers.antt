use Rattle.audit_law.proofs.law_lemmas.Owed.{dispatch_law}
use Rattle.audit_law.proofs.law.debt_laws.dispatch_law.Goals as goal

pub returns : goal.returns
returns c = dispatch_law
