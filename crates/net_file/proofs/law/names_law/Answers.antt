use Rattle.net_file.proofs.FirstBearers.{means_first_bearer}
use Rattle.net_file.proofs.law.names_law.Goals as goal

pub returns : goal.returns
returns c = means_first_bearer
