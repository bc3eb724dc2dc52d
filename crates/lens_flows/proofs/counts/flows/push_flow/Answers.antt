use Rattle.lens_flows.proofs.counts_lemmas.Counts.{flow_more, flow_none}
use Rattle.lens_flows.proofs.counts.flows.push_flow.Goals as goal

pub returns-in_ok-push-in-Some : goal.returns-in_ok-push-in-Some
returns-in_ok-push-in-Some c are =
    flow_more c.push.new.self.items c.in-Some.ensures c.in_ok-push-in-Some.ensures.items are

pub returns-in-None : goal.returns-in-None
returns-in-None c are = flow_none c.args.network.now c.args.vl c.args.device c.in-None.ensures are
