use Rattle.run_law.proofs.first_laws.deliveries_begin.Goals as goal
use Rattle.run_law.proofs.law.FirstDeliveries.{deliveries_begin}

pub returns : goal.returns
returns c = deliveries_begin
