use Rattle.lens_overview.proofs.LawAnswers.{bars_are_true, cells_are_delivered, flows_are_drawn, none_is_red}
use Rattle.lens_overview.proofs.LawAnswers.{strokes_are_of_flows}
use Rattle.lens_overview.proofs.laws.overview_law.Goals as goal

pub returns : goal.returns
returns c = record {
  missing = none_is_red;
  flows = flows_are_drawn;
  strokes = strokes_are_of_flows;
  delivered = cells_are_delivered;
  bars = bars_are_true;
}
