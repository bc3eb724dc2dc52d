use Rattle.lens_overview.{proofs.LawCells.calm_skips, specs.Rows.calm_below}
use Rattle.std.proofs.Common.{◌∙◌, ap, length}
use Rattle.lens_overview.proofs.rows.calm_in.Goals as goal

pub returns : goal.returns
returns c =
    let network = c.args.network.now in
    let count = length network.device in
    c.calm_of.ensures ∙ ap (λ all. calm_below network all count) c.args.run.changes_are ∙ calm_skips network c.args.run.news.now count
