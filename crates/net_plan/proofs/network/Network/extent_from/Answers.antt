use Rattle.std.proofs.Common.{length, rules}
use Rattle.net_plan.{proofs.Trees.greatest_from_path, specs.Bounds.jitter_on}
use Rattle.net_plan.proofs.network.Network.extent_from.Goals as goal

pub returns-then-is_device_of-clause-jitter : goal.returns-then-is_device_of-clause-jitter
returns-then-is_device_of-clause-jitter c =
    greatest_from_path c.args.channel c.args.device (jitter_on c.args.self.now) c.path.result c.extent.result.jitter
    c.requires.tree
    (search rules) c.path.ensures.leads c.extent.ensures.jitter

pub returns-then-is_device_of-clause-links : goal.returns-then-is_device_of-clause-links
returns-then-is_device_of-clause-links c =
    greatest_from_path c.args.channel c.args.device (length) c.path.result c.extent.result.links
    c.requires.tree (search rules)
    c.path.ensures.leads c.extent.ensures.links
