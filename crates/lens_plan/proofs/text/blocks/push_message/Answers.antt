use Rattle.lens_plan.{proofs.Plans.{IsLinked, rows_linked}, specs.declared.places.placing.Placed.Placed}
use Rattle.std.{proofs.Common.{◌∙◌, List, subst, sym}, specs.List.All}
use Rattle.lens_plan.proofs.text.blocks.push_message.Goals as goal

pub push_rows-requires : goal.push_rows-requires
push_rows-requires c =
    let network = c.args.network.now in
    subst (λ (ps : List Placed). All (IsLinked network) ps) (sym (c.as_slice-2.ensures.value ∙ c.in_ok-rows.ensures)) (rows_linked network c.as_slice.result.now)
