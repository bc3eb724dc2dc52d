use Rattle.schedule_tables.specs.declared.rule.Rule.TheVariants.{DevicesDiffer, LinksDiffer, VlNamesDiffer}
use Rattle.tte_audit.proofs.named.named_network.Goals as goal

pub returns-clause-named : goal.returns-clause-named
returns-clause-named c = record {
  in_range = c.network.ensures.range;
  devices = c.network.ensures.rules DevicesDiffer;
  links = c.network.ensures.rules LinksDiffer;
  vls = c.network.ensures.rules VlNamesDiffer;
}
