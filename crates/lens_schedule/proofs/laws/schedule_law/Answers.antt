use Rattle.lens_schedule.proofs.LawProofs.{boxes_apart, places_grow, rows_shown, windows_those}
use Rattle.lens_schedule.proofs.laws.schedule_law.Goals as goal

pub returns-clause-rows : goal.returns-clause-rows
returns-clause-rows c = rows_shown

pub returns-clause-order : goal.returns-clause-order
returns-clause-order c = places_grow

pub returns-clause-apart : goal.returns-clause-apart
returns-clause-apart c = boxes_apart

pub returns-clause-windows : goal.returns-clause-windows
returns-clause-windows c = windows_those
