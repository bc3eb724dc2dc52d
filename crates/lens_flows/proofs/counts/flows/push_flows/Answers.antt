use Rattle.lens_flows.proofs.counts_lemmas.Counts.{no_flow_of}
use Rattle.lens_flows.proofs.counts.flows.push_flows.Goals as goal

pub returns-in-None : goal.returns-in-None
returns-in-None c before = no_flow_of c.args.network.now c.args.vl c.in-None.ensures before
