use Rattle.audit_sweep.proofs.ending.is_too_old.Goals as goal

pub returns : goal.returns
returns c befallen hs k =
    let d = c.departs.ensures befallen hs k in (λ held. (d.0 held, c.is_old.ensures.0 c.if-not-is_old.false), λ y. d.1 y.0)
