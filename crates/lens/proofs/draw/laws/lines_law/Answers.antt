use Rattle.lens.proofs.draw_lemmas.Marking.{marks_stand, pictures_draw_plans}
use Rattle.lens.proofs.draw.laws.lines_law.Goals as goal

pub returns-clause-plans : goal.returns-clause-plans
returns-clause-plans c = pictures_draw_plans

pub returns-clause-marks : goal.returns-clause-marks
returns-clause-marks c = marks_stand
