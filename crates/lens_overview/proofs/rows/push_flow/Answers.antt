use Rattle.{lens_overview.specs.Cells.flow_cells, std.proofs.Common.{◌∙◌, [], ap}}
use Rattle.lens_overview.proofs.rows.push_flow.Goals as goal

pub returns : goal.returns
returns c =
    let run = c.args.own.now.run in
    let cells = c.in_ok-cells.ensures ∙ ap (λ vl. flow_cells run.grid run.news.now run.last [] vl c.args.flow.now.device) c.requires in
    rw cells at c.join.ensures
