use Rattle.audit_devices.proofs.standings.Standings.before_permanence.Goals as goal
use Rattle.audit_devices.proofs.Words.{Shows, records_before, subst}

pub returns : goal.returns
returns c s hs verdict stands =
    subst (λ p. Shows s (records_before p hs) c.args.device c.before-2.result.now) (c.of_permanence.ensures verdict)
    (c.before-2.ensures s hs stands)
