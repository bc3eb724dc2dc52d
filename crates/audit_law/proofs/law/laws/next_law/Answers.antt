use Rattle.audit_law.proofs.law_lemmas.Owed.{next_law}
use Rattle.audit_law.proofs.law.laws.next_law.Goals as goal

pub returns : goal.returns
returns c = next_law
