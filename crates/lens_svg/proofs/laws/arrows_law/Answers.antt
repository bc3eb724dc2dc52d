use Rattle.lens_svg.proofs.Painting.{arrows_are_causes}
use Rattle.lens_svg.proofs.laws.arrows_law.Goals as goal

pub returns : goal.returns
returns c = arrows_are_causes
