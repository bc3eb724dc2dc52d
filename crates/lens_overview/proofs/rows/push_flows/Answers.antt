use Rattle.std.proofs.Common.{◌∙◌, []}
use Rattle.lens_overview.{proofs.LawLines.flows_more, specs.Rows.told_by}
use Rattle.lens_overview.proofs.rows.push_flows.Goals as goal

pub flows-preserved : goal.flows-preserved
flows-preserved c =
    let same = c.in_ok-own-2.ensures.0 ∙ c.flows.invariant.1 in (
      flows_more (told_by c.args.run) [] _ _ _ c.args.flows.now c.flows.flow-index c.flow-item.result _ c.flows-test.true c.flows.invariant.0
          c.flow-item.is (rw same at c.in_ok-push_flow.ensures),
      same,
    )
