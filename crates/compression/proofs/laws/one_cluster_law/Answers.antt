use Rattle.compression.proofs.Times.{one_cluster}
use Rattle.compression.proofs.laws.one_cluster_law.Goals as goal

pub returns : goal.returns
returns c = one_cluster
