use Rattle.lens.proofs.draw_lemmas.Marking.{pictures_show_windows}
use Rattle.lens.proofs.draw.laws.windows_law.Goals as goal

pub returns : goal.returns
returns c = pictures_show_windows
