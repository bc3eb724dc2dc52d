use Rattle.lens_sheet.proofs.{Rounding.nearest, Sheets.{beta_told, room_left}}
use Rattle.lens_sheet.proofs.laws.sheet_law.Goals as goal

pub returns-clause-nearest : goal.returns-clause-nearest
returns-clause-nearest c = nearest

pub returns-clause-beta : goal.returns-clause-beta
returns-clause-beta c = beta_told

pub returns-clause-room : goal.returns-clause-room
returns-clause-room c = room_left
