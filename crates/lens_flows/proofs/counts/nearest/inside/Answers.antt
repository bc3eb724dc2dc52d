use Rattle.std.proofs.Common.{pos, rules}
use Rattle.lens_flows.proofs.counts_lemmas.Telling.{inside_least}
use Rattle.lens_flows.proofs.counts.nearest.inside.Goals as goal

pub returns : goal.returns
returns c = inside_least c.args.window (pos c.args.place) _ _ (search rules) (search rules)
