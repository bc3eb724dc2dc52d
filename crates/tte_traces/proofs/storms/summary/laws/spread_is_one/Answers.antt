use Rattle.tte_traces.proofs.storms_lemmas.summary_lemmas.Spreads.{spread_is_one}
use Rattle.tte_traces.proofs.storms.summary.laws.spread_is_one.Goals as goal

pub returns : goal.returns
returns c = spread_is_one
