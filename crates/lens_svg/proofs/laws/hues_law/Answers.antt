use Rattle.lens_svg.proofs.Hues.{hues_come_from_causes, marks_have_hues}
use Rattle.lens_svg.proofs.laws.hues_law.Goals as goal

pub returns-clause-causes : goal.returns-clause-causes
returns-clause-causes c = hues_come_from_causes

pub returns-clause-marks : goal.returns-clause-marks
returns-clause-marks c = marks_have_hues
