use Rattle.lens.proofs.draw_lemmas.Reading.{pictures_show_clocks}
use Rattle.lens.proofs.draw.laws.clocks_law.Goals as goal

pub returns : goal.returns
returns c = pictures_show_clocks
