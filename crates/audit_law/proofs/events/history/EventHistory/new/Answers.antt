use Rattle.audit_law.proofs.events_lemmas.Histories.{remembers_none}
use Rattle.audit_law.proofs.events.history.EventHistory.new.Goals as goal

pub returns : goal.returns
returns c = remembers_none _ c.requires c.in_ok-ways.ensures c.in_ok-devices.ensures.0 c.in_ok-devices.ensures.1
