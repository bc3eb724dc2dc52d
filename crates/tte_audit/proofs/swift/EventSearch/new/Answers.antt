use Rattle.tte_audit.proofs.Sweeping.{none_sought}
use Rattle.tte_audit.proofs.swift.EventSearch.new.Goals as goal

pub returns-in-Ok : goal.returns-in-Ok
returns-in-Ok c report = none_sought c.args.accepted.now report _ c.new-in-Ok.ensures.items c.in-Ok.ensures
