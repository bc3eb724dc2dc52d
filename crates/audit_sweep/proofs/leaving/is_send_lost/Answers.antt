use Rattle.audit_sweep.proofs.leaving.is_send_lost.Goals as goal

pub returns : goal.returns
returns c befallen hs k =
    let found = c.in-Some.ensures hs k.records in
    c.is_send_lost.ensures befallen hs found.0 c.args.passage.cause k.events found.1 found.2
