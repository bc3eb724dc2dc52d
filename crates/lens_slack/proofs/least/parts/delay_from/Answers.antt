use Rattle.std.proofs.Common.{rules}
use Rattle.net_plan.proofs.Trees.{greatest_from_path}
use Rattle.schedule_tables.specs.Delays.{delay_on}
use Rattle.lens_slack.proofs.least.parts.delay_from.Goals as goal

pub returns-then-is_device_of-clause-greatest : goal.returns-then-is_device_of-clause-greatest
returns-then-is_device_of-clause-greatest c =
    let n = c.args.network.now in
    greatest_from_path c.args.channel c.args.device (delay_on n) c.path.result c.delay_on.result c.requires.tree
    (search rules) c.path.ensures.leads
    c.delay_on.ensures.value
