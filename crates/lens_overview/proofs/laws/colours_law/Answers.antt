use Rattle.lens_overview.proofs.LawCells.{blue_is_by_a, green_is_by_both, violet_is_by_b}
use Rattle.lens_overview.proofs.laws.colours_law.Goals as goal

pub returns : goal.returns
returns c = record { green = green_is_by_both; blue = blue_is_by_a; violet = violet_is_by_b }
