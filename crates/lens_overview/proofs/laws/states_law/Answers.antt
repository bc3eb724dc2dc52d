use Rattle.lens_overview.proofs.LawAnswers.{device_strokes_are_true, devices_are_drawn, way_strokes_are_true}
use Rattle.lens_overview.proofs.LawAnswers.{ways_are_drawn}
use Rattle.lens_overview.proofs.laws.states_law.Goals as goal

pub returns : goal.returns
returns c = record {
  devices = devices_are_drawn;
  device_strokes = device_strokes_are_true;
  ways = ways_are_drawn;
  way_strokes = way_strokes_are_true;
}
