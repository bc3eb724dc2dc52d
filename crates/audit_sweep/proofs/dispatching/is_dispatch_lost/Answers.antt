use Rattle.audit_sweep.proofs.Words.{scenario_under}
use Rattle.audit_sweep.proofs.dispatching.is_dispatch_lost.Goals as goal

pub returns : goal.returns
returns c befallen hs k link found =
    c.loses_dispatch.ensures befallen hs (record {
      remembered = k.events;
      taken = k.takings;
      device = c.requires.passable.there;
      shows = c.before_time-shown.ensures (scenario_under c.args.network.now befallen) hs k.standings;
    }) link found (c.kept.ensures c.args.network.now befallen hs k)
