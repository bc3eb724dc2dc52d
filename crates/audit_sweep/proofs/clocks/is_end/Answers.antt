use Rattle.audit_sweep.proofs.clocks.is_end.Goals as goal

pub returns : goal.returns
returns c network befallen hs k =
    let same = k.end c.args.time in (λ yes. same.0 (c.is_same.ensures.0 yes), λ y. c.is_same.ensures.1 (same.1 y))
