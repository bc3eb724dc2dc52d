use Rattle.lens.proofs.draw_lemmas.Keeping.{pictures_show_runs}
use Rattle.lens.proofs.draw.laws.picture_law.Goals as goal

pub returns : goal.returns
returns c = pictures_show_runs
