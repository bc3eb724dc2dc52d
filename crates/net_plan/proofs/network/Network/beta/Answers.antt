use Rattle.net_plan.proofs.Trees.{greatest_of_channels}
use Rattle.{net_plan.specs.Bounds.{IsGreatest, IsOfPath, jitter_on}, std.proofs.Common.{◌∙◌, length, subst, sym}}
use Rattle.net_plan.proofs.network.Network.beta.Goals as goal

pub returns : goal.returns
returns c =
    let n = c.args.self.now in
    let extent = c.max-extent.result in
    let a = c.extent_on.ensures in
    let b = c.extent_on-2.ensures in
    record {
      jitter = extent.jitter;
      links = extent.links;
      jitter_greatest =
          subst (IsGreatest (IsOfPath n (jitter_on n))) (sym c.max-extent.ensures.jitter)
          (greatest_of_channels n (jitter_on n) a.jitter b.jitter);
      links_greatest =
          subst (IsGreatest (IsOfPath n (length))) (sym c.max-extent.ensures.links)
          (greatest_of_channels n (length) a.links b.links);
      value = c.from_amount.ensures.whole
          ∙ (rw c.from.ensures
          ((rw c.amount.ensures.value
          ((rw c.amount-2.ensures.value)))));
    }
