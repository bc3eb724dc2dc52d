use Rattle.audit_law.proofs.events_lemmas.Keeping.{reads_on}
use Rattle.audit_law.proofs.events.laws.reading_law.Goals as goal

pub returns : goal.returns
returns c = reads_on c.clock_laws.ensures.laws c.clock_laws.ensures.begins
