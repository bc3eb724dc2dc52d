use Rattle.{std.proofs.Common.refl, tte_traces.specs.storms.summary.Counting.{counts_of, drops_of}}
use Rattle.tte_traces.proofs.storms.summary.tally.Tally.new.Goals as goal

pub returns : goal.returns
unfolding counts_of drops_of
returns c = refl
