use Rattle.lens_overview.{proofs.LawCells.turned_skips, specs.Rows.is_turned}
use Rattle.std.proofs.Common.{◌∙◌, ap}
use Rattle.lens_overview.proofs.rows.is_turned_in.Goals as goal

pub returns : goal.returns
returns c =
    c.is_turned.ensures ∙ ap (λ all. is_turned all c.args.device) c.args.run.changes_are ∙ turned_skips c.args.device c.args.run.news.now
