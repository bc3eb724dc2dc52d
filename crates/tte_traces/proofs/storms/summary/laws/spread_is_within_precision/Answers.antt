use Rattle.tte_traces.proofs.storms_lemmas.summary_lemmas.Spreads.{within_precision}
use Rattle.tte_traces.proofs.storms.summary.laws.spread_is_within_precision.Goals as goal

pub returns : goal.returns
returns c = within_precision
