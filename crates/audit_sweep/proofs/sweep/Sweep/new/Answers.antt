use Rattle.audit_sweep.proofs.{Lacks.sound_none, Words.{IsDue, place_of, refl, scenario_under}}
use Rattle.audit_sweep.proofs.sweep.Sweep.new.Goals as goal

pub returns : goal.returns
returns c befallen remembers ends = record {
  of_network = refl;
  ends = c.in-Ok.ensures.end;
  range = c.requires.range;
  timely = c.requires.timely;
  known = c.in-Ok.ensures.known befallen remembers ends;
  sound = sound_none place_of (IsDue (scenario_under c.args.network.now befallen)) _;
  places = c.new-2.ensures;
  paid = c.new-3.ensures;
  devices = λ h device i is. absurd i;
}
