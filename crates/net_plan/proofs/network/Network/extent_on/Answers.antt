use Rattle.std.proofs.Common.{◌+◌, ◌≡◌, arith, length, subst, sym}
use Rattle.net_plan.proofs.Trees.{IsOfPathBelow, greatest_below_all, greatest_below_more}
use Rattle.net_plan.specs.{Bounds.{IsGreatest, jitter_on}}
use Rattle.net_plan.proofs.network.Network.extent_on.Goals as goal

pub loop-place-preserved : goal.loop-place-preserved
loop-place-preserved c =
    let n = c.args.self.now in
    let ch = c.args.channel in
    let at = c.loop-place.place in
    let inv = c.loop-place.invariant in
    let one = c.extent_from.ensures in
    let both = c.max-extent.ensures in
    record {
      jitter =
          subst (IsGreatest (IsOfPathBelow n ch (at + 1) (jitter_on n))) (sym both.jitter)
          (greatest_below_more n ch (jitter_on n) at _ _ inv.jitter one.jitter);
      links =
          subst (IsGreatest (IsOfPathBelow n ch (at + 1) (length))) (sym both.links)
          (greatest_below_more n ch (length) at _ _ inv.links one.links);
      jitter_bound = omega (arith, both.jitter, inv.jitter_bound, one.jitter_bound);
      links_bound = omega (arith, both.links, inv.links_bound, one.links_bound);
    }

pub returns-clause-jitter : goal.returns-clause-jitter
returns-clause-jitter c =
    let n = c.args.self.now in
    let same : length c.as_slice-place-end.result.now ≡ length n.device = rw c.as_slice-place-end.ensures in
    let all : c.loop-place.place ≡ length n.device = omega
    (arith, c.loop-place.auto.place-end, c.loop-place-test.false) in
    greatest_below_all n c.args.channel (jitter_on n)
    (rw all at c.loop-place.invariant.jitter)

pub returns-clause-links : goal.returns-clause-links
returns-clause-links c =
    let n = c.args.self.now in
    let same : length c.as_slice-place-end.result.now ≡ length n.device = rw c.as_slice-place-end.ensures in
    let all : c.loop-place.place ≡ length n.device = omega
    (arith, c.loop-place.auto.place-end, c.loop-place-test.false) in
    greatest_below_all n c.args.channel (length)
    (rw all at c.loop-place.invariant.links)
