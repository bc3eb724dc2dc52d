use Rattle.audit_devices.proofs.Words.{Shows, records_before, subst}
use Rattle.audit_devices.proofs.standings.Standings.before_rank.Goals as goal

pub returns : goal.returns
returns c s hs stands =
    subst (λ p. Shows s (records_before p hs) c.args.device c.before-2.result.now) c.of_rank.ensures (c.before-2.ensures s hs stands)
