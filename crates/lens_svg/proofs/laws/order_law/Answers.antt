use Rattle.lens_svg.proofs.Order.{keeps_order}
use Rattle.lens_svg.proofs.laws.order_law.Goals as goal

pub returns : goal.returns
returns c = keeps_order
