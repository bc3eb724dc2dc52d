use Rattle.std.proofs.Common.{refl}
use Rattle.tte_traces.proofs.storms_lemmas.Drawn.{storm_first}
use Rattle.tte_traces.proofs.storms.events.StormEvents.new.Goals as goal

pub returns : goal.returns
returns c = storm_first c.args.seed c.args.cycles _ c.requires.least c.requires.most refl c.new-2.ensures c.new.ensures
