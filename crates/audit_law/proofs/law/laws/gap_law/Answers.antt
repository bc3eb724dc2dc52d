use Rattle.audit_law.proofs.law_lemmas.Owed.{gap_law}
use Rattle.audit_law.proofs.law.laws.gap_law.Goals as goal

pub returns : goal.returns
returns c = gap_law
