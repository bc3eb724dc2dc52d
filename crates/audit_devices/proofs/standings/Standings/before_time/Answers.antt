use Rattle.audit_devices.proofs.{KeptAll.earlier_are, Words.{◌∙◌, Shows, ap, records_before, subst}}
use Rattle.audit_devices.proofs.standings.Standings.before_time.Goals as goal

pub returns : goal.returns
returns c s hs stands =
    subst (λ xs. Shows s xs c.args.device c.before-2.result.now)
    (ap (λ p. records_before p hs) c.of_time.ensures ∙ earlier_are c.args.time hs) (c.before-2.ensures s hs stands)
