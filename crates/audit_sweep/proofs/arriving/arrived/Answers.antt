use Rattle.audit_sweep.proofs.arriving.arrived.Goals as goal

pub returns-in-Some : goal.returns-in-Some
returns-in-Some c befallen hs k =
    let x = c.in-Some.ensures befallen hs k in
    record {
      putting = x.putting;
      there = x.there;
      signal = x.signal;
      arrives = x.arrives;
      becomes = c.judged.ensures befallen hs x.signal k x.is;
    }
