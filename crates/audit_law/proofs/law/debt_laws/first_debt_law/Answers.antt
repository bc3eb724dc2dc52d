use Rattle.audit_law.proofs.law_lemmas.Owed.{first_debt_law, joined_sorts}
use Rattle.audit_law.proofs.law.debt_laws.first_debt_law.Goals as goal

pub returns-clause-joined : goal.returns-clause-joined
returns-clause-joined c = joined_sorts

pub returns-clause-all : goal.returns-clause-all
returns-clause-all c = first_debt_law
