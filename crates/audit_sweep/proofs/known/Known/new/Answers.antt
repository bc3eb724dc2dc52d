use Rattle.audit_sweep.proofs.{Lacks.{none_show, none_young, steady}, Words.{refl, scenario_under}}
use Rattle.audit_sweep.proofs.known.Known.new.Goals as goal

pub returns-clause-known : goal.returns-clause-known
returns-clause-known c befallen remembers end =
    let network = c.args.network.now in
    let s = scenario_under network befallen in
    record {
      events = remembers;
      end = end;
      entrances = c.in-Ok.ensures;
      exits = c.in_ok-exits.ensures;
      records = c.new-records.ensures;
      by_cause = none_show network;
      young = none_young network;
      standings = c.in_ok-standings.ensures.stands s refl (λ device. steady s device
          (c.reading_law.ensures network befallen device remembers.range remembers.within remembers.begun));
      standing = c.in_ok-standings.ensures.count;
      takings = c.in_ok-takings.ensures.none;
      takers = c.in_ok-takings.ensures.count;
      stretches = c.in_ok-stretches.ensures.stands;
      collectors = c.in_ok-stretches.ensures.count;
    }
