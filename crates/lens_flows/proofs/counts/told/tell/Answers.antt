use Rattle.lens_flows.proofs.counts.told.tell.Goals as goal

pub returns-clause-told : goal.returns-clause-told
returns-clause-told c befallen hs known = record {
  fates = c.count_cycles-cycles.ensures.fates befallen hs known;
  certain = c.count_cycles-cycles.ensures.certain befallen hs known;
  deliveries = c.count_deliveries.ensures befallen hs known;
}
