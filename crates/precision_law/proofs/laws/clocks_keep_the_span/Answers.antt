use Rattle.precision_law.proofs.law.Whole.{span_kept}
use Rattle.precision_law.proofs.laws.clocks_keep_the_span.Goals as goal

pub returns : goal.returns
returns c = span_kept
