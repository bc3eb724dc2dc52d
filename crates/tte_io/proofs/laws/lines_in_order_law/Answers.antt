use Rattle.tte_io.proofs.LineReading.{gives_in_order}
use Rattle.tte_io.proofs.laws.lines_in_order_law.Goals as goal

pub returns : goal.returns
returns c = gives_in_order
