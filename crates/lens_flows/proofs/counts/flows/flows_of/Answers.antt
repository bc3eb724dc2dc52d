use Rattle.lens_flows.proofs.counts_lemmas.Counts.{all_vls, no_flows}
use Rattle.{lens_flows.specs.counts.PartLists.AreFlowsBefore, std.proofs.Common.{ap, arith, length, subst, sym}}
use Rattle.lens_flows.proofs.counts.flows.flows_of.Goals as goal

pub vls-init : goal.vls-init
vls-init c = subst (AreFlowsBefore c.args.network.now 0 0) (sym c.new-flows.ensures.items) (no_flows c.args.network.now)

pub vls-preserved : goal.vls-preserved
vls-preserved c = c.in_ok-push_flows.ensures c.vls.invariant

pub returns : goal.returns
returns c =
    let e = ap (λ vls. length vls) c.as_slice-place-end.ensures in
    let h = c.vls-test.false in
    all_vls c.args.network.now c.vls.place (omega (arith, h, e)) c.vls.invariant
