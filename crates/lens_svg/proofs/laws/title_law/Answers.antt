use Rattle.lens_svg.proofs.NoteTexts.{titles_closed}
use Rattle.lens_svg.proofs.laws.title_law.Goals as goal

pub returns : goal.returns
returns c = titles_closed
