use Rattle.lens_why.proofs.Permanents.{last_is_of_clusters}
use Rattle.lens_why.proofs.laws.collections_law.Goals as goal

pub returns : goal.returns
returns c = last_is_of_clusters
