use Rattle.lens_overview.proofs.LawAnswers.{head_is_drawn}
use Rattle.lens_overview.proofs.laws.head_law.Goals as goal

pub returns : goal.returns
returns c = head_is_drawn
