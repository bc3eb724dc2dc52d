use Rattle.audit_sweep.proofs.hearing.what_becomes.Goals as goal

pub returns-in-Some : goal.returns-in-Some
returns-in-Some c befallen hs k =
    record { frame = c.in-Some.permanent.frame; permanent = c.in-Some.ensures befallen hs k; becomes = c.ripening.ensures befallen hs k }

pub returns-in-None : goal.returns-in-None
returns-in-None c befallen hs k point is x = c.in-None.ensures befallen hs k x.frame point x.permanent
