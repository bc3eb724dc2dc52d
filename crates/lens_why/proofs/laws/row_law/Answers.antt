use Rattle.lens_why.proofs.Frames.{row_is_one}
use Rattle.lens_why.proofs.laws.row_law.Goals as goal

pub returns : goal.returns
returns c = row_is_one
