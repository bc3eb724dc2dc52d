use Rattle.lens.proofs.draw_lemmas.Reading.{pictures_are_one, titles_are_plain}
use Rattle.lens.proofs.draw.laws.reading_law.Goals as goal

pub returns-clause-plain : goal.returns-clause-plain
returns-clause-plain c = titles_are_plain

pub returns-clause-one : goal.returns-clause-one
returns-clause-one c = pictures_are_one
