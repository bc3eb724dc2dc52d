use Rattle.lens_svg.proofs.Painting.{lanes_are_states}
use Rattle.lens_svg.proofs.laws.lanes_law.Goals as goal

pub returns : goal.returns
returns c = lanes_are_states
