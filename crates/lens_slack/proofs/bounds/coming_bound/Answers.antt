use Rattle.std.proofs.Common.{rules}
use Rattle.lens_slack.proofs.Spots.{sender_first}
use Rattle.lens_slack.proofs.bounds.coming_bound.Goals as goal

pub returns-then-eq-clause-tightest : goal.returns-then-eq-clause-tightest
returns-then-eq-clause-tightest c =
    sender_first c.args.row c.found.result c.entry_of-entry.ensures.is (search rules) (search rules)
