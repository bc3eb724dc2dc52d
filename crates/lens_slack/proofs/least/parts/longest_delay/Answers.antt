use Rattle.net_plan.{proofs.Trees.greatest_of_channels, specs.Bounds.{IsGreatest, IsOfPath}}
use Rattle.schedule_tables.specs.Delays.{delay_on}
use Rattle.std.proofs.Common.{subst, sym}
use Rattle.lens_slack.proofs.least.parts.longest_delay.Goals as goal

pub returns-clause-longest : goal.returns-clause-longest
returns-clause-longest c =
    let n = c.args.network.now in
    subst (λ k. IsGreatest (IsOfPath n (delay_on n)) k) (sym c.greater.ensures)
    (greatest_of_channels n (delay_on n) c.longest_on.ensures.longest c.longest_on-2.ensures.longest)
