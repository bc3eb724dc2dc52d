use Rattle.lens_why.proofs.Frames.{middles_are_of_clusters}
use Rattle.lens_why.proofs.laws.middles_law.Goals as goal

pub returns : goal.returns
returns c = middles_are_of_clusters
